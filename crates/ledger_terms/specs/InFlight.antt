-- Which rulings of a device are acknowledged, and the one that is in flight. Amounts are in mills.
use Rattle.std.specs.Prelude.{ℕ, ◌+◌, ◌&&◌, List, [], ◌∷◌, Option, Some, None, ◌==◌, nat_le, if◌then◌else◌}
use Rattle.bench_base.specs.declared.{words.Verdict.Verdict, ledger.Commit.Commit, ledger.Commit.TheVariants.Ruled}
use Rattle.bench_base.specs.Rows.{first_of}
use Rattle.psd_wire.specs.declared.message.Request.{Request}
use Rattle.ledger_terms.specs.Requests.{request_in}
use Rattle.ledger_terms.specs.Sums.{adds, takes}
use Rattle.ledger_terms.specs.Centres.{settled}
use Rattle.ledger_terms.specs.Devices.{applied_of}

-- the verdict and the Request of the first Ruled of number n
abbrev pub ruling_of : ℕ → ℕ → List Commit → Option (Verdict × List ℕ)
ruling_of d n [] = None
ruling_of d n (Ruled e m v note ∷ C) = if (e == d) && (m == n) then first_of (ruling_of d n C) (Some (v, note)) else ruling_of d n C
ruling_of d n (_ ∷ C) = ruling_of d n C

-- the sum of f over the rulings up to number s
abbrev pub ruled_sum_to : (Verdict → Request → ℕ) → ℕ → ℕ → List Commit → ℕ
ruled_sum_to f d s [] = 0
ruled_sum_to f d s (Ruled e n v note ∷ C) = if e == d then (if nat_le n s then ruled_sum_to f d s C + f v (request_in note) else ruled_sum_to f d s C)
    else ruled_sum_to f d s C
ruled_sum_to f d s (_ ∷ C) = ruled_sum_to f d s C

-- the sum of the granted resets that are acknowledged: their number is at most the settled one
abbrev pub acknowledged_resets : ℕ → List Commit → ℕ
acknowledged_resets d C = ruled_sum_to adds d (settled d C) C

-- the same for refunds and withdrawals
abbrev pub acknowledged_refunds : ℕ → List Commit → ℕ
acknowledged_refunds d C = ruled_sum_to takes d (settled d C) C

-- the ruling in flight is the one after the settled number
abbrev pub in_flight : ℕ → List Commit → Option (Verdict × List ℕ)
in_flight d C = ruling_of d (settled d C + 1) C

-- what f gives of a ruling that was applied, and 0 where it wasn't
abbrev pub flight_of : (Verdict → Request → ℕ) → Option Verdict → Option (Verdict × List ℕ) → ℕ
flight_of f None o = 0
flight_of f (Some v) None = 0
flight_of f (Some v) (Some x) = f x.0 (request_in x.1)

-- what the ruling in flight adds or takes off, where it is applied
abbrev pub flight : (Verdict → Request → ℕ) → ℕ → List Commit → ℕ
flight f d C = flight_of f (applied_of d (settled d C + 1) C) (in_flight d C)
