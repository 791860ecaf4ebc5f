-- How a civil date is written: year, month and day in digits, with dashes between.
use Rattle.std.specs.Prelude.{◌≡◌, ℕ, ℤ, pos, ◌+◌, ◌-◌, ◌*◌, ◌/◌, ◌%◌, List, [], ◌∷◌, ◌++◌}
use Rattle.jiff_core.specs.Calendar.{IsDate, days_from_civil}

-- a digit as a byte of text
abbrev pub digit : ℕ → ℕ
digit n = 48 + n % 10

-- the last two digits
abbrev pub two_digits : ℕ → List ℕ
two_digits n = digit (n / 10) ∷ digit n ∷ []

-- the last four digits
abbrev pub four_digits : ℕ → List ℕ
four_digits n = two_digits (n / 100) ++ two_digits n

-- the text is the civil date of the day, counted from 1970-01-01
pub record IsDateText (day : ℤ) (text : List ℕ) : Type 0 where
  pub year : ℕ
  pub month : ℕ
  pub date : ℕ
  pub civil : IsDate (pos year) (pos month) (pos date)
  pub number : days_from_civil (pos year) month date ≡ day
  pub spelled : text ≡ four_digits year ++ 45 ∷ two_digits month ++ 45 ∷ two_digits date

-- the number that these digits write after those of n
abbrev pub read_on : ℕ → List ℕ → ℕ
read_on n [] = n
read_on n (c ∷ cs) = read_on (n * 10 + (c - 48)) cs
