-- The texts of the answers.
use Rattle.std.specs.Prelude.{ℕ, List, [], ◌∷◌, codes, decimal}
use Rattle.script_words.specs.Words.{joined}
use Rattle.script_text.specs.Texts.{text_of}
use Rattle.host_departments.specs.declared.answer.Answer.{Answer}
use Rattle.host_departments.specs.declared.answer.Answer.TheVariants as answers

-- words with a number after them
abbrev pub numbered : List ℕ → ℕ → List ℕ
numbered words n = joined (words ∷ decimal n ∷ [])

unfoldable pub quota_text : ℕ → ℕ → List ℕ
quota_text d q = joined (codes "quota" ∷ decimal d ∷ decimal q ∷ [])

unfoldable pub assigned_text : ℕ → ℕ → ℕ → List ℕ
assigned_text j d left = joined (codes "assigned" ∷ decimal j ∷ decimal d ∷ codes "left" ∷ decimal left ∷ [])

unfoldable pub again_text : ℕ → ℕ → List ℕ
again_text j d = joined (codes "assigned" ∷ decimal j ∷ decimal d ∷ codes "again" ∷ [])

unfoldable pub spent_text : ℕ → ℕ → ℕ → List ℕ
spent_text d s q = joined (codes "spent" ∷ decimal d ∷ decimal s ∷ codes "quota" ∷ decimal q ∷ [])

-- the text of an answer; no text while a message is awaited
abbrev pub said_texts : Answer → List (List ℕ)
said_texts answers.Nothing = []
said_texts (answers.Sending d j) = []
said_texts (answers.Quota d q) = quota_text d q ∷ []
said_texts (answers.Below s) = numbered (codes "refused dept below spent") s ∷ []
said_texts (answers.Assigned j d left) = assigned_text j d left ∷ []
said_texts (answers.Again j d) = again_text j d ∷ []
said_texts (answers.Unknown d) = numbered (codes "refused dept unknown") d ∷ []
said_texts (answers.Taken j) = numbered (codes "refused dept assigned") j ∷ []
said_texts answers.Full = codes "refused dept full" ∷ []
said_texts (answers.Sent reply) = text_of reply ∷ []
said_texts (answers.OverQuota left) = numbered (codes "refused dept quota") left ∷ []
said_texts (answers.Spent d s q) = spent_text d s q ∷ []
said_texts (answers.Unassigned j) = numbered (codes "refused dept unassigned") j ∷ []
said_texts answers.Worn = codes "worn desk" ∷ []
