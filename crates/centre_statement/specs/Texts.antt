-- The texts of the desk's answers.
use Rattle.std.specs.Prelude.{ℕ, List, [], ◌∷◌, ◌++◌, map, codes}
use Rattle.script_text.specs.Texts.{text_of}
use Rattle.statement_check.specs.Lines.{line_text}
use Rattle.statement_check.specs.declared.{line.Movement.Movement, line.StatementLine.TheVariants.Opening, line.StatementLine.TheVariants.Moved, line.StatementLine.TheVariants.Closing}
use Rattle.centre_statement.specs.declared.answer.Answer.{Answer}
use Rattle.centre_statement.specs.declared.answer.Answer.TheVariants as answers

-- the lines of the movements, and the closing line
abbrev pub closed_texts : List Movement → ℕ → List (List ℕ)
closed_texts movements b = map (λ m. line_text (Moved m)) movements ++ line_text (Closing b) ∷ []

-- the texts of an answer, with these movements: no text while a balance is awaited
abbrev pub said_texts : Answer → List Movement → List (List ℕ)
said_texts answers.Nothing movements = []
said_texts (answers.Opening w) movements = []
said_texts answers.Closing movements = []
said_texts (answers.Opened w b) movements = line_text (Opening w b) ∷ []
said_texts (answers.Closed b) movements = closed_texts movements b
said_texts answers.NoneOpen movements = codes "refused statement none" ∷ []
said_texts answers.Full movements = codes "refused statement full" ∷ []
said_texts (answers.Balance reply) movements = text_of reply ∷ []
