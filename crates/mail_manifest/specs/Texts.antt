-- The texts of the checker's answers.
use Rattle.std.specs.Prelude.{ℕ, List, [], ◌∷◌, codes, decimal}
use Rattle.bench_base.specs.declared.events.Reply.{Reply}
use Rattle.script_words.specs.Words.{joined, hex_word}
use Rattle.script_text.specs.Texts.{text_of}
use Rattle.mail_manifest.specs.declared.answer.Answer.{Answer}
use Rattle.mail_manifest.specs.declared.answer.Answer.TheVariants as answers

unfoldable pub open_text : ℕ → List ℕ
open_text count = joined (codes "manifest" ∷ codes "open" ∷ decimal count ∷ [])

unfoldable pub piece_text : ℕ → List ℕ
piece_text number = joined (codes "piece" ∷ decimal number ∷ [])

unfoldable pub code_text : List ℕ → List ℕ
code_text code = joined (codes "code" ∷ hex_word code ∷ [])

unfoldable pub yes_text : ℕ → ℕ → List ℕ
yes_text count total = joined (codes "manifest" ∷ codes "yes" ∷ decimal count ∷ decimal total ∷ [])

unfoldable pub no_count_text : ℕ → List ℕ
no_count_text count = joined (codes "manifest" ∷ codes "no" ∷ codes "count" ∷ decimal count ∷ [])

unfoldable pub unread_text : ℕ → List ℕ
unread_text number = joined (codes "manifest" ∷ codes "no" ∷ codes "unread" ∷ decimal number ∷ [])

unfoldable pub no_total_text : ℕ → List ℕ
no_total_text sum = joined (codes "manifest" ∷ codes "no" ∷ codes "total" ∷ decimal sum ∷ [])

-- the text of the scan's reply follows the number
unfoldable pub no_piece_text : ℕ → Reply → List ℕ
no_piece_text number reply = joined (codes "manifest" ∷ codes "no" ∷ codes "piece" ∷ decimal number ∷ text_of reply ∷ [])

-- the texts of an answer: no text while a scan is awaited
abbrev pub said_texts : Answer → List (List ℕ)
said_texts answers.Nothing = []
said_texts (answers.Scanning number) = []
said_texts answers.NoManifest = codes "refused manifest none" ∷ []
said_texts answers.Full = codes "refused manifest full" ∷ []
said_texts (answers.Opened count) = open_text count ∷ []
said_texts (answers.Piece number) = piece_text number ∷ []
said_texts (answers.Code code) = code_text code ∷ []
said_texts (answers.Yes count total) = yes_text count total ∷ []
said_texts (answers.NoCount count) = no_count_text count ∷ []
said_texts answers.NoCode = codes "manifest no code" ∷ []
said_texts (answers.Unread number) = unread_text number ∷ []
said_texts (answers.NoTotal sum) = no_total_text sum ∷ []
said_texts (answers.NoPiece number reply) = no_piece_text number reply ∷ []
