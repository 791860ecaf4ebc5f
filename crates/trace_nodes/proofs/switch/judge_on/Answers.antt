use Rattle.std.proofs.Common.{◌≡◌, inl, rules, refl, sym, ap, subst, ◌∙◌, ◌+◌, Some, IsSome, option_map}
use Rattle.bench_base.specs.declared.events.Reply.TheVariants as r
use Rattle.bench_base.specs.Ledger.{Ledger}
use Rattle.node_acts.specs.Views.{started}
use Rattle.node_turns.specs.Turns.{turn_of}
use Rattle.trace_nodes.specs.TracedNodes.{view_of}
use Rattle.trace_nodes.proofs.Switching.{tells_on, adds_none, came, more, powered, comes_up, comes_with_more}
use Rattle.trace_nodes.proofs.switch.judge_on.Goals as goal

pub returns-then-is_told-2-clause-judged : goal.returns-then-is_told-2-clause-judged
returns-then-is_told-2-clause-judged g c =
    let v = view_of g.R.Record.counting g.R.Record.seen c.args.traced.now in (
      r.Up c.args.node.now c.commits-commits.result,
      tells_on g.R.Record.counting c.args.node.now v c.if-traced.false c.one_reply.ensures.law c.names_a_node.ensures (search (rules, c.commits-commits.ensures.few))
          c.args.line.now _ _ (came (ap (r.Up c.args.node.now) c.commits-commits.ensures.value)) (search rules) c.is_told-2.ensures.whole (sym (comes_up g.R.Record.counting v c.commits-commits.result c.commits-commits.ensures.value)),
      c.came_up.ensures,
    )

pub returns-then-is_told-3-clause-judged : goal.returns-then-is_told-3-clause-judged
returns-then-is_told-3-clause-judged g c =
    let n = g.R.Record.counting in
    let v = view_of n g.R.Record.seen c.args.traced.now in
    let next = n.after (g.R.Record.seen c.args.traced.now.record) c.in-Some.change in
    let open_one : v.next ≡ Some next = ap (λ o. option_map (λ x. n.after (g.R.Record.seen c.args.traced.now.record) x) o) c.in-Some.is in (
      r.Up c.args.node.now (c.commits-commits.result + 1),
      tells_on n c.args.node.now v c.if-traced.false c.one_reply.ensures.law c.names_a_node.ensures (search (rules, c.commits-commits.ensures.few))
          c.args.line.now _ _ (more (subst IsSome (sym open_one) refl) (ap (λ k. r.Up c.args.node.now (k + 1)) c.commits-commits.ensures.value)) (search rules) c.is_told-in-Some.ensures.whole
          (ap started c.put.ensures ∙ sym (comes_with_more n v c.commits-commits.result next c.commits-commits.ensures.value open_one)),
      c.came_up-then-is_told-3.ensures,
    )

pub returns-then-is_told-4-clause-judged : goal.returns-then-is_told-4-clause-judged
returns-then-is_told-4-clause-judged g c =
    let v = view_of g.R.Record.counting g.R.Record.seen c.args.traced.now in (
      r.Power c.args.node.now,
      tells_on g.R.Record.counting c.args.node.now v c.if-traced.false c.one_reply.ensures.law c.names_a_node.ensures (search (rules, c.commits-commits.ensures.few))
          c.args.line.now _ _ (powered refl) (search rules) c.is_told-3.ensures.whole refl,
      subst (λ (l : Ledger). g.T.Tell.IsOf c.silent-then-is_told-4.result (turn_of (r.Power c.args.node.now) l))
          (adds_none g.R.Record.counting c.args.node.now v c.if-traced.false (r.Power c.args.node.now) c.args.node.now (inl refl)) c.silent-then-is_told-4.ensures,
    )
