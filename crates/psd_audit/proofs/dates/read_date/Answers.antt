use Rattle.psd_audit.proofs.DateCells.{kept, spelled_of, date_found, date_out, date_none}
use Rattle.std.proofs.Common.{◌≡◌, ℤ, pos, ◌≤ℤ◌, ◌↔◌, IsSome, subst}
use Rattle.std.specs.Prelude.{IfSome}
use Rattle.psd_audit.proofs.dates.read_date.Goals as goal

pub returns-in-Some-clause-found : goal.returns-in-Some-clause-found
returns-in-Some-clause-found c =
    date_found c.new.result c.args.text.now c.in_ok-year.year c.in_ok-month.month c.in_ok-day.day c.in-Some.number (subst (λ (z : ℤ). IfSome c.new.result (λ x. x ≡ z)) (kept c.in-Some.number c.in-Some.ensures.small) c.new.ensures.value) c.in-Some.ensures.found
    (spelled_of c.args.text.now c.if-text-ne10.false _ _ _ c.if-text-ne45.false c.if-text-ne45-2.false c.in_ok-year.ensures.value.0 c.in_ok-month.ensures.value.0 c.in_ok-day.ensures.value.0
    c.in_ok-year.ensures.value.1 c.in_ok-month.ensures.value.1 c.in_ok-day.ensures.value.1)

pub returns-in-Some-clause-none : goal.returns-in-Some-clause-none
returns-in-Some-clause-none c =
    date_out c.new.result c.args.text.now c.in_ok-year.year c.in_ok-month.month c.in_ok-day.day c.in-Some.number (subst (λ (z : ℤ). IsSome c.new.result ↔ ((pos 10957 ≤ℤ z) × (z ≤ℤ pos 84005))) (kept c.in-Some.number c.in-Some.ensures.small) c.new.ensures.valid) c.in-Some.ensures.found.1
    c.in_ok-year.ensures.value.1 c.in_ok-month.ensures.value.1 c.in_ok-day.ensures.value.1

pub returns-in-None-clause-none : goal.returns-in-None-clause-none
returns-in-None-clause-none c =
    date_none c.args.text.now c.in_ok-year.year c.in_ok-month.month c.in_ok-day.day c.in-None.ensures.none
    c.in_ok-year.ensures.value.1 c.in_ok-month.ensures.value.1 c.in_ok-day.ensures.value.1
