-- The lines of a statement, as they are spelled.
use Rattle.std.specs.Prelude.{◌≡◌, ℕ, ◌<◌, ◌^◌, List, [], ◌∷◌, codes, decimal}
use Rattle.bench_base.specs.Ranges.{IsDevice, IsCustomer, IsWord}
use Rattle.script_words.specs.Words.{joined, device_word}
use Rattle.statement_check.specs.declared.{line.Cause.Cause, line.Cause.TheVariants.Deposit, line.Cause.TheVariants.Reset, line.Cause.TheVariants.Refund, line.Cause.TheVariants.Withdraw, line.StatementLine.StatementLine, line.StatementLine.TheVariants.Opening, line.StatementLine.TheVariants.Moved, line.StatementLine.TheVariants.Closing}

-- money in mills, a number of 64 bits
abbrev pub IsMills : ℕ → Type 0
IsMills a = a < 2 ^ 64

abbrev pub IsCauseInRange : Cause → Type 0
IsCauseInRange (Deposit receipt) = IsWord receipt
IsCauseInRange (Reset d n) = IsDevice d × IsWord n
IsCauseInRange (Refund d n) = IsDevice d × IsWord n
IsCauseInRange (Withdraw d n) = IsDevice d × IsWord n

-- each number of the line is in its range
abbrev pub IsInRange : StatementLine → Type 0
IsInRange (Opening c b) = IsCustomer c × IsMills b
IsInRange (Moved m) = IsCauseInRange m.cause × IsMills m.amount × IsMills m.balance
IsInRange (Closing b) = IsMills b

abbrev pub cause_words : Cause → List (List ℕ) → List (List ℕ)
cause_words (Deposit receipt) more = codes "deposit" ∷ decimal receipt ∷ more
cause_words (Reset d n) more = codes "reset" ∷ device_word d ∷ decimal n ∷ more
cause_words (Refund d n) more = codes "refund" ∷ device_word d ∷ decimal n ∷ more
cause_words (Withdraw d n) more = codes "withdraw" ∷ device_word d ∷ decimal n ∷ more

-- the words of a line
abbrev pub line_words : StatementLine → List (List ℕ)
line_words (Opening c b) = codes "statement" ∷ decimal c ∷ codes "opening" ∷ decimal b ∷ []
line_words (Moved m) = cause_words m.cause (decimal m.amount ∷ codes "balance" ∷ decimal m.balance ∷ [])
line_words (Closing b) = codes "closing" ∷ decimal b ∷ []

-- the text of a line, with one space between two words
abbrev pub line_text : StatementLine → List ℕ
line_text line = joined (line_words line)

-- the bytes are this line
pub record IsLineOf (line : StatementLine) (bytes : List ℕ) : Type 0 where
  pub ranges : IsInRange line
  pub text : bytes ≡ line_text line
