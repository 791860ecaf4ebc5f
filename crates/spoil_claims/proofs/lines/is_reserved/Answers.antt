use Rattle.std.proofs.Common.{◌<◌, ℕ, subst, sym, true≢false}
use Rattle.spoil_claims.proofs.Reading.{above, is_above}
use Rattle.spoil_claims.proofs.lines.is_reserved.Goals as goal

pub returns-in-Some : goal.returns-in-Some
returns-in-Some c =
    let n = c.in-Some.number in
    let found = c.in-Some.ensures.found in
    (λ gt. (n, above n gt, found.0), λ w. is_above n (subst (λ (m : ℕ). 3000000000 < m) (found.1 w.0 w.2) w.1))

pub returns-in-None : goal.returns-in-None
returns-in-None c = (λ wrong. absurd (true≢false (sym wrong)), λ w. absurd (c.in-None.ensures.none w.0 w.2))
