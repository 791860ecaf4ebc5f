-- The words on lines.
use Rattle.std.specs.Prelude.{◌<◌, ◌⊎◌, Bool, true, false}
use Rattle.audit_seen.specs.declared.{counts.Counts.Counts, counts.Word.Word, counts.Word.TheVariants.Debited, counts.Word.TheVariants.Never, counts.Word.TheVariants.Unknown}

-- the word on the line that has a mark first: whether it was debited decides, and otherwise whether its device was made
abbrev pub word_by : Bool → Bool → Word
word_by true made = Debited
word_by false true = Never
word_by false false = Unknown

-- a line has another word than Debited
abbrev pub HasOthers : Counts → Type 0
HasOthers c = (0 < c.never) ⊎ ((0 < c.twice) ⊎ ((0 < c.unknown) ⊎ (0 < c.no_mark)))
