use Rattle.std.proofs.Common.{rules, ◌≡◌, true, sym, ◌∙◌}
use Rattle.trace_nodes.specs.TracedNodes.{view_of}
use Rattle.trace_nodes.proofs.Made.{made}
use Rattle.trace_nodes.proofs.judge.told_outcome.Goals as goal

pub returns-then-is_told-6-clause-found : goal.returns-then-is_told-6-clause-found
returns-then-is_told-6-clause-found g c =
    let on : c.args.traced.now.on ≡ true = search rules in
    ((_, made g.R.Record.counting (view_of g.R.Record.counting g.R.Record.seen c.args.traced.now) c.in-Commits.commit c.in-Commits.change c.in-Commits.said c.args.act.now c.in-Commits.is on (sym c.is_worn.ensures ∙ c.if-is_worn.false)), search rules, search rules)

pub returns-then-is_told-7-clause-found : goal.returns-then-is_told-7-clause-found
returns-then-is_told-7-clause-found g c =
    let on : c.args.traced.now.on ≡ true = search rules in
    ((_, made g.R.Record.counting (view_of g.R.Record.counting g.R.Record.seen c.args.traced.now) c.in-Commits.commit c.in-Commits.change c.in-Commits.said c.args.act.now c.in-Commits.is on (sym c.is_worn.ensures ∙ c.if-is_worn.false)), search rules, search rules)
