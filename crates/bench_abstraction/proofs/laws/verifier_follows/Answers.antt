use Rattle.std.proofs.Common.{◌≡◌, [], Option, Some, subst}
use Rattle.bench_base.specs.declared.{words.Node.TheVariants.Verifier, ledger.Commit.Commit, events.Reply.Reply}
use Rattle.bench_base.specs.Plans.{Plan}
use Rattle.bench_base.specs.Rules.{todays_rules}
use Rattle.bench_base.specs.Ledger.{counted}
use Rattle.node_acts.specs.declared.{act.Act.Act, said.Said.Said, asked.Asked.TheVariants.Call}
use Rattle.node_acts.specs.Acts.{commit_of}
use Rattle.node_acts.specs.Said.{seen_plan}
use Rattle.node_acts.proofs.Told.{seen_commit, seen_own}
use Rattle.verifier.specs.declared.acts.Change.{Change}
use Rattle.verifier.specs.Records.{seen_after, IsRecorded}
use Rattle.verifier.specs.Seen as verifier
use Rattle.bench_abstraction.specs.declared.calls.VerifierCall.{VerifierCall}
use Rattle.bench_abstraction.specs.declared.routing.Routed.TheVariants as route
use Rattle.bench_abstraction.specs.declared.routing.OfDay.TheVariants as of_day
use Rattle.bench_abstraction.specs.Routing.{routed}
use Rattle.bench_abstraction.specs.Verifier as views
use Rattle.bench_abstraction.specs.Tariff.{quote_in}
use Rattle.bench_abstraction.specs.Messages.{sent_in}
use Rattle.bench_abstraction.proofs.Asked.{plan_alike, commit_own, stepped, plan_tame, said_tame}
use Rattle.bench_abstraction.proofs.Following.{followed}
use Rattle.bench_abstraction.proofs.Shown.{verifier_view}
use Rattle.bench_abstraction.proofs.Steps as steps
use Rattle.bench_abstraction.proofs.VerifierCalls as calls
use Rattle.bench_abstraction.proofs.laws.verifier_follows.Goals as goal

pub returns : goal.returns
returns c τ H e today asked h unforged day whole of bytes known next_known =
    let editions = c.histories.ensures.today in
    let ordered = c.orders.ensures.ordered τ todays_rules _ H editions h in
    let recorded : IsRecorded (counted H) = record { order = ordered.verifier; roomy = ordered.roomy; range = c.counts.ensures.ranges τ todays_rules _ H editions h } in
    let sound = c.acts_follow_the_commits.ensures.sound in
    let follow = c.acts_follow_the_commits.ensures.follows in
    let are_planned = c.acts_follow_the_commits.ensures.planned in
    let n = verifier.counting in
    let v = verifier_view H in
    let act : VerifierCall → Act Change Reply Said = λ k. views.verifier_act today k v.state in
    let call_plan : VerifierCall → Plan = λ k. seen_plan n Verifier v (act k) in
    let call_commit : VerifierCall → Option (Commit × verifier.Seen) = λ k. commit_of n v (act k) in
    let counts = follow.counted (counted H) recorded in
    let whole_call : (k : VerifierCall) → asked ≡ Call k → calls.IsWholeCall k =
    λ k is. calls.whole_call H (quote_in τ H) e k (subst (λ a. routed (sent_in H) (quote_in τ H) e ≡ Some (route.OfDay (of_day.Verifier a))) is of) whole (subst views.AreBytes is bytes) in
    followed n views.verifier_kind Verifier tt τ H e today asked
    (c.orders.ensures.torn τ todays_rules _ H editions h)
    (c.orders.ensures.next τ todays_rules _ H editions h e [] whole unforged)
    counts
    (calls.planned_call H recorded known sound follow are_planned τ today (quote_in τ H) day counts e asked of whole bytes)
    (plan_alike n Verifier call_plan call_commit v (λ k. seen_commit n Verifier v (act k)) asked)
    (commit_own n Verifier call_plan call_commit v asked
    (λ k is x made. seen_own n Verifier v (act k) x (calls.call_own H recorded known sound follow are_planned today k (whole_call k is)) made))
    whole
    (plan_tame n Verifier call_plan v (λ k. said_tame n Verifier v (act k)) asked)
    (stepped n Verifier seen_after H call_plan call_commit asked
    (λ k is x may. steps.acts n Verifier seen_after H (act k) x (calls.call_quiet today k v.state) (calls.call_right H recorded known sound follow are_planned today k (whole_call k is)) may))
