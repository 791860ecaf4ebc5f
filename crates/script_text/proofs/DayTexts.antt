-- Each day has a date.
use Rattle.std.proofs.Common.{◌≡◌, ◌≢◌, ℕ, zero, suc, ℤ, pos, negsuc, ◌≤ℤ◌, ◌+◌, ◌-◌, ◌≤◌, ◌<◌, List, ◌∷◌, ◌++◌, refl, sym, ap, ◌∙◌, subst, arith, inl, inr}
use Rattle.std.proofs.lemmas.Int.{ints}
use Rattle.std.proofs.lemmas.Bool.{cases_lt}
use Rattle.jiff_core.specs.Calendar.{days_from_civil, days_in_month}
use Rattle.jiff_core.proofs.CalendarLemmas.{days_in_month_bounds}
use Rattle.jiff_core.proofs.StandardFacts.{known_days}
use Rattle.jiff_core.proofs.DateLemmas.{days_from_civil-day, days_from_civil-next_month, days_from_civil-next_year, days_from_civil-max}
use Rattle.psd_audit.specs.Dates.{IsDateText, four_digits, two_digits}

-- a civil date of the day, in a year that has one more
record Civil (z : ℤ) : Type 0 where
  year : ℕ
  month : ℕ
  date : ℕ
  near : year ≤ 9999
  months : (1 ≤ month) × (month ≤ 12)
  dates : (1 ≤ date) × (date ≤ days_in_month (pos year) month)
  number : days_from_civil (pos year) month date ≡ z

spelled : (z : ℤ) → Civil z → (text : List ℕ) × IsDateText z text
spelled z c = (
  four_digits c.year ++ 45 ∷ two_digits c.month ++ 45 ∷ two_digits c.date,
  record {
    year = c.year;
    month = c.month;
    date = c.date;
    civil = ((omega (arith, ints), omega (arith, ints, c.near)), (omega (arith, ints, c.months.0), omega (arith, ints, c.months.1)), (omega (arith, ints, c.dates.0), omega (arith, ints, c.dates.1)));
    number = c.number;
    spelled = refl;
  },
)

next_day : (n : ℕ) (c : Civil (pos n)) → c.date < days_in_month (pos c.year) c.month → Civil (pos (n + 1))
next_day n c inside =
    let step = days_from_civil-day (pos c.year) c.month c.date (c.date + 1) c.dates.0 (omega arith) in
    record {
      year = c.year;
      month = c.month;
      date = c.date + 1;
      near = c.near;
      months = c.months;
      dates = (omega arith, omega (arith, inside));
      number = omega (arith, ints, step, c.number);
    }

some_day : (y : ℤ) (m : ℕ) → 1 ≤ days_in_month y m
some_day y m = let long = days_in_month_bounds y m in omega (arith, long.1)

next_month : (n : ℕ) (c : Civil (pos n)) → c.date ≡ days_in_month (pos c.year) c.month → c.month < 12 → Civil (pos (n + 1))
next_month n c last inside =
    let step = days_from_civil-next_month (pos c.year) c.month c.date c.months.0 last in
    record {
      year = c.year;
      month = c.month + 1;
      date = 1;
      near = c.near;
      months = (omega arith, omega (arith, inside));
      dates = (omega arith, some_day (pos c.year) (c.month + 1));
      number = omega (arith, ints, step, c.number);
    }

next_year : (n : ℕ) → n < 2000000 → (c : Civil (pos n)) → c.date ≡ days_in_month (pos c.year) c.month → c.month ≡ 12 → Civil (pos (n + 1))
next_year n early c last december =
    let date : c.date ≡ 31 = last ∙ ap (λ (m : ℕ). days_in_month (pos c.year) m) december in
    let day : days_from_civil (pos c.year) 12 31 ≡ pos n = ap (λ (m : ℕ). days_from_civil (pos c.year) m 31) (sym december) ∙ ap (λ (d : ℕ). days_from_civil (pos c.year) c.month d) (sym date) ∙ c.number in
    let not_last : c.year ≢ 9999 = λ e.
    let far : pos 2932896 ≡ pos n = sym days_from_civil-max ∙ ap (λ (y : ℕ). days_from_civil (pos y) 12 31) (sym e) ∙ day in omega (arith, ints, far, early)
    in
    let step = days_from_civil-next_year (pos c.year) (pos (c.year + 1)) (omega (arith, ints)) (omega (arith, ints)) in
    record {
      year = c.year + 1;
      month = 1;
      date = 1;
      near = omega (arith, c.near, not_last);
      months = (omega arith, omega arith);
      dates = (omega arith, some_day (pos (c.year + 1)) 1);
      number = omega (arith, ints, step, day);
    }

next : (n : ℕ) → n < 2000000 → Civil (pos n) → Civil (pos (n + 1))
next n early c =
    elim (cases_lt c.date (days_in_month (pos c.year) c.month)) [
      | inl inside ↦ next_day n c inside
      | inr past ↦
          let last : c.date ≡ days_in_month (pos c.year) c.month = omega (arith, past, c.dates.1) in
          elim (cases_lt c.month 12) [
            | inl more ↦ next_month n c last more
            | inr december ↦ next_year n early c last (omega (arith, december, c.months.1))
          ]
    ]

first : Civil (pos 10957)
first = record { year = 2000; month = 1; date = 1; near = omega arith; months = (omega arith, omega arith); dates = (omega arith, omega arith); number = known_days.2 }

from_first : (k : ℕ) → k < 1000000 → Civil (pos (k + 10957))
from_first zero early = first
from_first (suc k) early = let more : k + 10957 + 1 ≡ suc k + 10957 = omega arith in subst (λ (n : ℕ). Civil (pos n)) more (next (k + 10957) (omega (arith, early)) (from_first k (omega (arith, early))))

civil_of : (t : ℤ) → pos 10957 ≤ℤ t → t ≤ℤ pos 84005 → Civil t
civil_of (pos n) low high =
    let place : n - 10957 + 10957 ≡ n = omega (arith, ints, low) in
    subst (λ (m : ℕ). Civil (pos m)) place (from_first (n - 10957) (omega (arith, ints, high)))
civil_of (negsuc n) low high = absurd (omega (arith, ints, low))

-- the text of a day
pub date_of : (t : ℤ) → pos 10957 ≤ℤ t → t ≤ℤ pos 84005 → (text : List ℕ) × IsDateText t text
date_of t low high = spelled t (civil_of t low high)
