use Rattle.std.proofs.Common.{◌≡◌, sym, ◌∙◌, ap, subst}
use Rattle.bench_base.specs.Events.{brought_by}
use Rattle.bench_base.specs.Rules.{todays_rules}
use Rattle.bench_base.specs.declared.{questions.Brought.Brought, questions.Brought.TheVariants.Handed, questions.Brought.TheVariants.Scanned}
use Rattle.indicium.specs.Marks.{read_mark}
use Rattle.ledger_moves.specs.Histories.{AreKnown}
use Rattle.trace_bench.specs.Forging.{TellsNot}
use Rattle.trace_bench.specs.Seeing.{audit_of}
use Rattle.trace_bench.proofs.Forged.{told_given, told_mark}
use Rattle.trace_bench.proofs.forging.brings_forged.Goals as goal

pub returns-in-Handed-clause-by_ledger : goal.returns-in-Handed-clause-by_ledger
returns-in-Handed-clause-by_ledger c τ H history sees =
    let is : brought_by c.args.event.now ≡ Handed c.in-Handed.node c.as_slice.result.now =
    sym c.brings.ensures ∙ c.in-Handed.is ∙ ap (λ l. Handed c.in-Handed.node l) (sym c.as_slice.ensures) in
    subst (λ (x : Brought). TellsNot c.gives_forged.result (AreKnown x H)) (sym is)
    (told_given (audit_of c.args.auditor.now) c.requires.kept H sees (c.counts.ensures.ranges τ todays_rules _ H c.histories.ensures.today history) c.in-Handed.node c.as_slice.result.now c.gives_forged.result c.gives_forged.ensures)

pub returns-in-Scanned-clause-by_ledger : goal.returns-in-Scanned-clause-by_ledger
returns-in-Scanned-clause-by_ledger c τ H history sees =
    let bytes = c.as_slice-in-Scanned.result.now in
    let is : brought_by c.args.event.now ≡ Scanned bytes =
    sym c.brings.ensures ∙ c.in-Scanned.is ∙ ap (λ l. Scanned l) (sym c.as_slice-in-Scanned.ensures) in
    subst (λ (x : Brought). TellsNot c.is_forged_mark.result (AreKnown x H)) (sym is)
    (told_mark (audit_of c.args.auditor.now) c.requires.kept H sees bytes (read_mark bytes) (c.counts.ensures.ranges τ todays_rules _ H c.histories.ensures.today history) c.is_forged_mark.result c.is_forged_mark.ensures)
