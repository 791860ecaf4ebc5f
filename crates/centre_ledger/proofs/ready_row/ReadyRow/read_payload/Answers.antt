use Rattle.std.proofs.Common.{arith}
use Rattle.bench_base.proofs.Facts.{none_by}
use Rattle.centre_ledger.proofs.OneRow.{not_first, not_second}
use Rattle.centre_ledger.proofs.ready_row.ReadyRow.read_payload.Goals as goal

pub returns-then-payload-lt16-clause-none : goal.returns-then-payload-lt16-clause-none
returns-then-payload-lt16-clause-none c =
    none_by c.read_first.result _ _
    (λ none r d h. not_second c.args.payload.now r c.if-payload-lt16.true h (λ old e. none r d (record { sound = h.sound; fits = h.fits; old = λ _. old; reads = e }))) c.read_first.ensures.none

pub returns-else-payload-lt16-clause-none : goal.returns-else-payload-lt16-clause-none
returns-else-payload-lt16-clause-none c =
    none_by c.read_second.result _ _
    (λ none r d h. not_first c.args.payload.now r c.if-payload-lt16.false h (λ e. none r d (record { sound = h.sound; fits = h.fits; old = λ x. absurd (omega (arith, x)); reads = e })))
    c.read_second.ensures.none
