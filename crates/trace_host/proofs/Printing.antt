-- What is printed by what is seen of the host is so by the ledger.
use Rattle.std.proofs.Common.{◌≡◌, ℕ, ℤ, List, [], Option, sym, ◌∙◌, ap, subst}
use Rattle.std.specs.Prelude.{IfSome}
use Rattle.bench_base.specs.Plans.{Plan}
use Rattle.bench_base.specs.Rules.{todays_rules}
use Rattle.node_acts.specs.declared.asked.Asked.{Asked}
use Rattle.node_acts.specs.Views.{View}
use Rattle.node_turns.specs.Printing.{print_of}
use Rattle.host_jobs.specs.Seen.{Seen, counting, IsKnown}
use Rattle.ledger_moves.specs.Moves.{plan}
use Rattle.bench_abstraction.specs.declared.calls.HostCall.{HostCall}
use Rattle.bench_abstraction.specs.Follows.{HostFollows}
use Rattle.bench_abstraction.specs.Kinds.{bench_kinds}
use Rattle.trace_host.specs.Verdicts.{AtHosts, plan_in, commit_in}

pub prints_by_ledger : (today : ℤ) (asked : Asked HostCall) (mark : Option (List ℕ)) (v : View Seen) → HostFollows counting bench_kinds IsKnown → IsKnown v.state → IfSome (commit_in today asked v) (λ x. IsKnown x.1)
    → print_of (plan_in today asked v).after ≡ mark → AtHosts today asked v (λ τ H e. print_of (plan τ todays_rules H e []).after ≡ mark)
prints_by_ledger today asked mark v law known next is τ H e history unforged day whole asks ranged seen =
    let u = sym seen in
    let follows = law τ H e today asked history unforged day whole asks ranged (subst (λ (w : View Seen). IsKnown w.state) u known) (subst (λ (w : View Seen). IfSome (commit_in today asked w) (λ x. IsKnown x.1)) u next) in
    ap (λ (p : Plan). print_of p.after) follows.plan ∙ ap (λ (w : View Seen). print_of (plan_in today asked w).after) seen ∙ is
