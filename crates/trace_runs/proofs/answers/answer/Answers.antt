use Rattle.std.proofs.Common.{[], Err}
use Rattle.trace_bench.specs.Seeing.{audit_of}
use Rattle.trace_bench.proofs.Same.{same_sees}
use Rattle.trace_runs.specs.declared.verdict.Verdict.TheVariants.{Forged, Unkept}
use Rattle.trace_runs.proofs.ReadTurns.{unanswered, answer_before}
use Rattle.trace_runs.proofs.Turning.{wants, forged, unkept, turned_before}
use Rattle.trace_runs.proofs.answers.answer.Goals as goal

pub returns-then-is_err-clause-answers : goal.returns-then-is_err-clause-answers
returns-then-is_err-clause-answers g c =
    unanswered c.args.number c.args.event.now [] c.args.rates.now (audit_of c.args.auditor.now) (audit_of c.index.new.auditor) c.args.imprints.now.items c.args.imprints.now.items _ _
    (λ behind script line lines begins. wants c.args.number c.requires.inside script line lines c.args.event.now begins behind c.args.rates.now (audit_of c.args.auditor.now) (audit_of c.index.new.auditor) c.args.imprints.now.items)

pub returns-in_default-clause-answers : goal.returns-in_default-clause-answers
returns-in_default-clause-answers g c =
    unanswered c.args.number c.args.event.now [] c.args.rates.now (audit_of c.args.auditor.now) (audit_of c.index.new.auditor) c.args.imprints.now.items c.args.imprints.now.items _ _
    (λ behind script line lines begins.
    turned_before c.args.number script lines behind behind c.args.rates.now (audit_of c.args.auditor.now) (audit_of c.index.new.auditor) (audit_of c.index.new.auditor) c.args.imprints.now.items c.args.imprints.now.items
    (same_sees (audit_of c.args.auditor.now) (audit_of c.index.new.auditor) c.index.ensures.same) (Err (Unkept c.args.number))
    (unkept c.args.number c.requires.inside script line lines c.args.event.now begins behind c.args.rates.now (audit_of c.index.new.auditor) (audit_of c.index.new.auditor) c.args.imprints.now.items
    (rw c.in_default.is at c.is_forged.ensures.brings) (rw c.in_default.is at c.is_forged.ensures.unkept)))

pub returns-then-forged-clause-answers : goal.returns-then-forged-clause-answers
returns-then-forged-clause-answers g c =
    unanswered c.args.number c.args.event.now [] c.args.rates.now (audit_of c.args.auditor.now) (audit_of c.index.new.auditor) c.args.imprints.now.items c.args.imprints.now.items _ _
    (λ behind script line lines begins.
    turned_before c.args.number script lines behind behind c.args.rates.now (audit_of c.args.auditor.now) (audit_of c.index.new.auditor) (audit_of c.index.new.auditor) c.args.imprints.now.items c.args.imprints.now.items
    (same_sees (audit_of c.args.auditor.now) (audit_of c.index.new.auditor) c.index.ensures.same) (Err (Forged c.args.number))
    (forged c.args.number c.requires.inside script line lines c.args.event.now begins behind c.args.rates.now (audit_of c.index.new.auditor) (audit_of c.index.new.auditor) c.args.imprints.now.items (rw c.if-forged.true at c.in-Some.ensures.by_ledger)))

pub returns-clause-answers : goal.returns-clause-answers
returns-clause-answers g c =
    answer_before c.args.number c.args.event.now c.args.rates.now (audit_of c.args.auditor.now) (audit_of c.index.new.auditor) (audit_of c.hear.new.auditor) c.args.imprints.now.items c.hear.new.imprints.items _ _ c.hear.result
    (same_sees (audit_of c.args.auditor.now) (audit_of c.index.new.auditor) c.index.ensures.same) c.hear.ensures.answers
