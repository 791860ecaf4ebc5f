-- The texts of the desk's answers.
use Rattle.std.specs.Prelude.{ℕ, List, [], ◌∷◌, Bool, codes, decimal}
use Rattle.indicium.specs.declared.Mark.{Mark}
use Rattle.script_words.specs.Words.{joined, device_word, new_word}
use Rattle.script_text.specs.Texts.{text_of}
use Rattle.spoil_claims.specs.declared.answer.Answer.{Answer}
use Rattle.spoil_claims.specs.declared.answer.Answer.TheVariants as answers

unfoldable pub credited_text : ℕ → Mark → Bool → List ℕ
credited_text c m again = joined (codes "credited" ∷ decimal c ∷ device_word m.device ∷ decimal m.piece ∷ decimal m.postage ∷ new_word again ∷ [])

unfoldable pub credits_text : ℕ → ℕ → List ℕ
credits_text w sum = joined (codes "credits" ∷ decimal w ∷ decimal sum ∷ [])

unfoldable pub wrong_claim_text : ℕ → List ℕ
wrong_claim_text last = joined (codes "refused" ∷ codes "claim" ∷ codes "wrong" ∷ codes "claim" ∷ decimal last ∷ [])

-- the texts of an answer: no text while a scan is awaited
abbrev pub said_texts : Answer → List (List ℕ)
said_texts answers.Nothing = []
said_texts (answers.Scanning c) = []
said_texts (answers.Credited c mark again) = credited_text c mark again ∷ []
said_texts (answers.Credits w sum) = credits_text w sum ∷ []
said_texts answers.Conflict = codes "refused claim conflict" ∷ []
said_texts (answers.WrongClaim last) = wrong_claim_text last ∷ []
said_texts answers.Full = codes "refused claim full" ∷ []
said_texts answers.Reserved = codes "refused claim reserved" ∷ []
said_texts answers.Worn = codes "worn desk" ∷ []
said_texts (answers.Scan r) = text_of r ∷ []
