use Rattle.std.proofs.Common.{rules, ◌≡◌, ap, subst, sym, ◌∙◌}
use Rattle.bench_base.specs.declared.events.Reply.TheVariants as r
use Rattle.bench_base.specs.declared.refusals.CentreRefusal.TheVariants as no
use Rattle.bench_base.specs.Ranges.{IsCustomer}
use Rattle.node_acts.specs.RowList.{listed}
use Rattle.node_acts.specs.Views.{View}
use Rattle.centre_ledger.specs.Seen.{Seen, IsKnown}
use Rattle.trace_bench.specs.Telling.{balance_by, done_or}
use Rattle.trace_bench.proofs.Answered.{balance_answered}
use Rattle.trace_bench.proofs.auditor.Auditor.balance_of.Goals as goal

-- by the rows that the auditor has
by_rows : (c : goal.After-done) → c.done.result ≡ balance_by c.args.customer c.args.self.now.centre.record.cells
unfolding listed
by_rows c = search rules

pub returns-clause-by_ledger : goal.returns-clause-by_ledger
returns-clause-by_ledger c H sees = by_rows c ∙ ap (λ v. balance_by c.args.customer v.state) sees.run.centre

ranged : (c : goal.After-done) → IsCustomer c.args.customer
ranged c = search rules

pub returns-clause-answered : goal.returns-clause-answered
returns-clause-answered c today τ H history sees day on =
    let w = c.args.customer in
    balance_answered c.nodes_follow.ensures.centre τ H w today history day on (ranged c) (subst (λ (v : View Seen). IsKnown v.state) sees.run.centre c.is_known.ensures)
    ∙ ap (done_or (r.CentreRefused (no.UnknownCustomer w))) (sym (by_rows c ∙ ap (λ v. balance_by w v.state) sees.run.centre))
