-- What the centre answers: the first refusal that holds, otherwise what it does. Amounts are in mills.
use Rattle.std.specs.Prelude.{ℕ, ◌+◌, Bool, true, false, not, ◌&&◌, ◌||◌, List, [], ◌∷◌, Option, Some, None, Result, Ok, Err, ◌==◌, nat_lt, nat_le, bytes_eq, if◌then◌else◌}
use Rattle.bench_base.specs.declared.refusals.CentreRefusal.{CentreRefusal}
use Rattle.bench_base.specs.declared.refusals.CentreRefusal.TheVariants as no
use Rattle.bench_base.specs.Rows.{first_holding}

-- when a deposit that isn't the last one again is refused: the last receipt and amount, and the deposits so far
abbrev pub deposit_rows : ℕ × ℕ → ℕ → ℕ → ℕ → List (Bool × Result (Option ℕ) CentreRefusal)
deposit_rows last total n a =
    (not (n == last.0 + 1), Err (no.WrongReceipt last.0))
    ∷ ((a == 0) || nat_lt 1000000000 a, Err (no.BadAmount a))
    ∷ (nat_lt 1000000000000000 (total + a), Err (no.DepositsFull total))
    ∷ []

-- nothing for the last deposit again, otherwise the deposits after a new one
abbrev pub deposit_answer : ℕ × ℕ → ℕ → ℕ → ℕ → Result (Option ℕ) CentreRefusal
deposit_answer last total n a =
    if (n == last.0) && nat_lt 0 n
    then (if a == last.1 then Ok None else Err (no.Conflict last.1))
    else first_holding (deposit_rows last total n a) (Ok (Some (total + a)))

-- whether a Request of number n with these bytes is the last one again, by the greatest ruled number and the stored Request; otherwise it is to be ruled
abbrev pub turn_answer : ℕ → List ℕ → ℕ → List ℕ → Result Bool CentreRefusal
turn_answer g stored n bytes =
    if nat_lt n g || (n == 0) then Err (no.Old g)
    else (if n == g then (if bytes_eq stored bytes then Ok true else Err (no.Changed g))
    else (if nat_lt (g + 1) n then Err (no.Ahead g) else Ok false))

-- nothing if the number is settled already, otherwise the number that is settled now
abbrev pub settle_answer : ℕ → ℕ → ℕ → Result (Option ℕ) CentreRefusal
settle_answer settled ruled n =
    if nat_le n settled then Ok None
    else (if n == ruled then Ok (Some n) else Err (no.Ahead ruled))
