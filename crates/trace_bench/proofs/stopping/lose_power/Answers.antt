use Rattle.std.proofs.Common.{◌≡◌, ℕ, ◌∙◌, Bool, subst, arith}
use Rattle.trace_bench.specs.Prefixes.{LosesThere, NoneBelow}
use Rattle.trace_bench.specs.Seeing.{audit_of}
use Rattle.trace_bench.proofs.Stops.{one_more, all_below}
use Rattle.trace_bench.proofs.stopping.lose_power.Goals as goal

pub loop-number-preserved : goal.loop-number-preserved
loop-number-preserved c = record {
  ready = c.lose_power_there.ensures.ready;
  kept = c.lose_power_there.ensures.kept ∙ c.loop-number.invariant.kept;
  first = omega (arith, c.loop-number.invariant.first);
  unsent = c.in_ok-lose_power_there.ensures.unsent c.if-branch.false ∙ c.loop-number.invariant.unsent;
  rests = λ τ H texts history unforged sees.
      let before = c.loop-number.invariant.rests τ H texts history unforged sees in
      let now = audit_of c.lose_power_there.new.auditor in
      let lost = subst (λ (b : Bool). LosesThere τ H c.args.event.now c.args.left.now c.args.prefix.now c.node_at-node.result now b) c.if-branch.false (c.in_ok-lose_power_there.ensures.lost τ H texts history unforged before.1) in
      (one_more τ H c.args.event.now c.args.left.now c.node_at-node.result c.node_at-node.ensures.named c.args.prefix.now now c.loop-number.number c.node_at-node.ensures.number before.0 lost, lost.1);
}

pub returns-then-branch-clause-lost : goal.returns-then-branch-clause-lost
returns-then-branch-clause-lost c τ H texts history unforged sees =
    let before = c.loop-number.invariant.rests τ H texts history unforged sees in
    let lost = rw c.if-branch.true at c.in_ok-lose_power_there.ensures.lost τ H texts history unforged before.1 in
    (c.node_at-node.result, lost.0, lost.1, lost.2)

pub returns-clause-lost : goal.returns-clause-lost
returns-clause-lost c τ H texts history unforged sees =
    let before = c.loop-number.invariant.rests τ H texts history unforged sees in
    let last : c.loop-number.number ≡ 12 = omega (arith, c.loop-number-test.false, c.loop-number.auto.number-end (omega arith)) in
    all_below τ H c.args.event.now c.args.left.now c.args.prefix.now (audit_of c.loop-number.auditor)
    (subst (λ (n : ℕ). NoneBelow τ H c.args.event.now c.args.left.now n c.args.prefix.now) last before.0) before.1
