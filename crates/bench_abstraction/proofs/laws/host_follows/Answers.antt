use Rattle.std.proofs.Common.{◌≡◌, [], Option, Some, subst}
use Rattle.bench_base.specs.declared.{words.Node.TheVariants.Host, ledger.Commit.Commit, events.Reply.Reply}
use Rattle.bench_base.specs.Plans.{Plan}
use Rattle.bench_base.specs.Rules.{todays_rules}
use Rattle.bench_base.specs.Ledger.{counted}
use Rattle.node_acts.specs.declared.{act.Act.Act, said.Said.Said, asked.Asked.TheVariants.Call}
use Rattle.node_acts.specs.Acts.{commit_of}
use Rattle.node_acts.specs.Said.{seen_plan}
use Rattle.node_acts.proofs.Told.{seen_commit, seen_own}
use Rattle.host_jobs.specs.declared.rows.JobRow.{JobRow}
use Rattle.host_jobs.specs.Records.{seen_after}
use Rattle.host_jobs.specs.Seen as host
use Rattle.bench_abstraction.specs.declared.calls.HostCall.{HostCall}
use Rattle.bench_abstraction.specs.declared.routing.Routed.TheVariants as route
use Rattle.bench_abstraction.specs.declared.routing.OfDay.TheVariants as of_day
use Rattle.bench_abstraction.specs.Routing.{routed}
use Rattle.bench_abstraction.specs.Host as views
use Rattle.bench_abstraction.specs.Tariff.{quote_in}
use Rattle.bench_abstraction.specs.Messages.{sent_in}
use Rattle.bench_abstraction.proofs.Asked.{plan_alike, commit_own, stepped, plan_tame, said_tame}
use Rattle.bench_abstraction.proofs.Following.{followed}
use Rattle.bench_abstraction.proofs.HostCalls as calls
use Rattle.bench_abstraction.proofs.HostCommits as commits
use Rattle.bench_abstraction.proofs.Shown.{host_view}
use Rattle.bench_abstraction.proofs.Steps as steps
use Rattle.bench_abstraction.proofs.laws.host_follows.Goals as goal

pub returns : goal.returns
returns c τ H e today asked h unforged day whole of fits known next_known =
    let editions = c.histories.ensures.today in
    let turn = (c.orders.ensures.ordered τ todays_rules _ H editions h).turns in
    let n = host.counting in
    let v = host_view H in
    let act : HostCall → Act JobRow Reply Said = λ k. views.host_act k (host.rows_in v.state) in
    let call_plan : HostCall → Plan = λ k. seen_plan n Host v (act k) in
    let call_commit : HostCall → Option (Commit × host.Seen) = λ k. commit_of n v (act k) in
    let laws = c.cells_follow_the_commits.ensures in
    let leave = c.acts_follow_the_commits.ensures.sound in
    let follow = c.acts_follow_the_commits.ensures.follows in
    let are_planned = c.acts_follow_the_commits.ensures.planned in
    let counts = commits.counts laws (counted H) turn (c.counts.ensures.cells τ todays_rules _ H editions h) in
    let whole_call : (k : HostCall) → asked ≡ Call k → calls.IsWholeCall k =
    λ k is. calls.whole_call H (quote_in τ H) e k (subst (λ a. routed (sent_in H) (quote_in τ H) e ≡ Some (route.OfDay (of_day.Host a))) is of) whole in
    followed n views.host_kind Host tt τ H e today asked
    (c.orders.ensures.torn τ todays_rules _ H editions h)
    (c.orders.ensures.next τ todays_rules _ H editions h e [] whole unforged)
    counts
    (calls.planned_call H known turn laws leave follow are_planned τ today day counts e asked of whole)
    (plan_alike n Host call_plan call_commit v (λ k. seen_commit n Host v (act k)) asked)
    (commit_own n Host call_plan call_commit v asked (λ k is x made. seen_own n Host v (act k) x (calls.call_own H known turn laws leave follow are_planned k (whole_call k is)) made))
    whole
    (plan_tame n Host call_plan v (λ k. said_tame n Host v (act k)) asked)
    (stepped n Host seen_after H call_plan call_commit asked
    (λ k is x may. steps.acts n Host seen_after H (act k) x (calls.call_quiet k (host.rows_in v.state)) (calls.call_right H known turn laws leave follow are_planned k (whole_call k is)) may))
