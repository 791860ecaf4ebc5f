use Rattle.std.proofs.Common.{◌≡◌, ◌∷◌, [], Option, Some, refl, ◌∙◌, ap, subst}
use Rattle.std.specs.Prelude.{IfSome}
use Rattle.bench_base.specs.declared.{words.Node.TheVariants.Device, words.Node.TheVariants.Centre, ledger.Commit.Commit, events.Reply.Reply}
use Rattle.bench_base.specs.Plans.{Plan}
use Rattle.bench_base.specs.Rules.{todays_rules}
use Rattle.bench_base.specs.Ledger.{counted}
use Rattle.node_acts.specs.declared.{act.Act.Act, said.Said.Said, asked.Asked.Asked, asked.Asked.TheVariants.Call}
use Rattle.node_acts.specs.Acts.{commit_of}
use Rattle.node_acts.specs.Kinds.{node_plan, node_commit}
use Rattle.node_acts.specs.Said.{seen_plan}
use Rattle.node_acts.proofs.Told.{seen_commit, seen_own}
use Rattle.psd_state.specs.State.{State}
use Rattle.psd_state.specs.Seen as device
use Rattle.centre_ledger.specs.Seen as centre
use Rattle.centre_ledger.specs.declared.rows.Row.{Row}
use Rattle.ledger_laws.specs.Nexts.{AreOrdered}
use Rattle.bench_abstraction.specs.declared.{calls.DeviceCall.DeviceCall, calls.CentreCall.CentreCall}
use Rattle.bench_abstraction.specs.declared.routing.Routed.TheVariants as route
use Rattle.bench_abstraction.specs.declared.routing.OfDay.TheVariants as of_day
use Rattle.bench_abstraction.specs.Routing.{routed}
use Rattle.bench_abstraction.specs.Devices as devices
use Rattle.bench_abstraction.specs.Centre as views
use Rattle.bench_abstraction.specs.Centre.{AreBytes}
use Rattle.bench_abstraction.specs.Tariff.{quote_in}
use Rattle.bench_abstraction.specs.Messages.{sent_in}
use Rattle.bench_abstraction.proofs.Acts as acts
use Rattle.bench_abstraction.proofs.Asked.{plan_alike, commit_own, stepped, plan_tame, said_tame}
use Rattle.bench_abstraction.proofs.Calling.{made_by}
use Rattle.bench_abstraction.proofs.CentreCalls as calls
use Rattle.bench_abstraction.proofs.CentreCounts as counting
use Rattle.bench_abstraction.proofs.CentreRows.{books_of}
use Rattle.bench_abstraction.proofs.Following.{followed}
use Rattle.bench_abstraction.proofs.Genuine.{genuine, OfAsked}
use Rattle.bench_abstraction.proofs.Plans.{planned, call_own}
use Rattle.bench_abstraction.proofs.Quiet.{planned_quiet}
use Rattle.bench_abstraction.proofs.Shown.{device_view, centre_view}
use Rattle.bench_abstraction.proofs.Steps as steps
use Rattle.bench_abstraction.proofs.laws.nodes_follow.Goals as goal

pub returns-clause-devices : goal.returns-clause-devices
returns-clause-devices c d τ H e today asked h unforged day whole of ready known next_known =
    let editions = c.histories.ensures.today in
    let ordered = c.orders.ensures.ordered τ todays_rules _ H editions h in
    let nexts = c.orders.ensures.next τ todays_rules _ H editions h e [] whole unforged in
    let laws = c.record_follows_the_commits.ensures in
    let n = device.counting in
    let v = device_view d H in
    let act : DeviceCall → Act State Reply Said = λ k. devices.device_act d today k v.state.state in
    let call_plan : DeviceCall → Plan = λ k. seen_plan n (Device d) v (act k) in
    let call_commit : DeviceCall → Option (Commit × device.Seen) = λ k. commit_of n v (act k) in
    let plan_is = planned H laws.resent τ today (quote_in τ H) day e d asked of (known, ordered.records d) in
    let real = genuine H (c.histories.ensures.holds τ todays_rules _ H editions h).replied (quote_in τ H) e d asked of unforged in
    followed n devices.device_kind (Device d) d τ H e today asked
    (c.orders.ensures.torn τ todays_rules _ H editions h) nexts
    refl
    plan_is
    (plan_alike n (Device d) call_plan call_commit v (λ k. seen_commit n (Device d) v (act k)) asked)
    (commit_own n (Device d) call_plan call_commit v asked (λ k is x made. seen_own n (Device d) v (act k) x (call_own d today k v.state.state) made))
    whole
    (plan_tame n (Device d) call_plan v (λ k. said_tame n (Device d) v (act k)) asked)
    (stepped n (Device d) (devices.seen_in d) H call_plan call_commit asked
    (λ k is x may.
    let made = made_by n (Device d) (devices.seen_in d) H (λ i. AreOrdered (i ∷ counted H)) devices.IsKnown (act k)
    (λ i at. (nexts i (ap (λ (p : Plan). p.commit) (plan_is ∙ ap (node_plan n (Device d) call_plan v) is) ∙ at)).ordered)
    (subst (λ (a : Asked DeviceCall). IfSome (node_commit call_commit a) (λ y. devices.IsKnown y.1)) is next_known) in
    steps.acts n (Device d) (devices.seen_in d) H (act k) x (acts.call_quiet d today k v.state.state)
    (acts.call_right H ordered laws.made laws.debited laws.asked laws.applied d known today k (subst (OfAsked H d) is real) made) may))

pub returns-clause-centre : goal.returns-clause-centre
returns-clause-centre c τ H e today asked h unforged day whole of bytes known next_known =
    let editions = c.histories.ensures.today in
    let ordered = c.orders.ensures.ordered τ todays_rules _ H editions h in
    let n = centre.counting in
    let v = centre_view H in
    let act : CentreCall → Act Row Reply Said = λ k. views.centre_act k (centre.books_in v.state) in
    let call_plan : CentreCall → Plan = λ k. seen_plan n Centre v (act k) in
    let call_commit : CentreCall → Option (Commit × centre.Seen) = λ k. commit_of n v (act k) in
    let are = books_of (counted H) ordered.centre (c.counts.ensures.ranges τ todays_rules _ H editions h) (c.withdrawals.ensures τ todays_rules _ H editions h) known.sound in
    let follow = c.acts_follow_the_commits.ensures.follows in
    let are_planned = c.acts_follow_the_commits.ensures.planned in
    let sent = (c.histories.ensures.holds τ todays_rules _ H editions h).sent in
    let counts = counting.counts (counted H) ordered.centre (c.counts.ensures.cells τ todays_rules _ H editions h) in
    let whole_call : (k : CentreCall) → asked ≡ Call k → calls.IsWholeCall k =
    λ k is. calls.whole_call H (quote_in τ H) e k (subst (λ a. routed (sent_in H) (quote_in τ H) e ≡ Some (route.OfDay (of_day.Centre a))) is of) whole (subst AreBytes is bytes) in
    followed n views.centre_kind Centre tt τ H e today asked
    (c.orders.ensures.torn τ todays_rules _ H editions h)
    (c.orders.ensures.next τ todays_rules _ H editions h e [] whole unforged)
    counts
    (calls.planned_call H known are follow are_planned sent τ today (quote_in τ H) day counts e asked of whole bytes)
    (plan_alike n Centre call_plan call_commit v (λ k. seen_commit n Centre v (act k)) asked)
    (commit_own n Centre call_plan call_commit v asked (λ k is x made. seen_own n Centre v (act k) x (calls.call_own H known are follow are_planned sent k (whole_call k is)) made))
    whole
    (plan_tame n Centre call_plan v (λ k. said_tame n Centre v (act k)) asked)
    (stepped n Centre views.seen_in H call_plan call_commit asked
    (λ k is x may. steps.acts n Centre views.seen_in H (act k) x (calls.call_quiet k (centre.books_in v.state)) (calls.call_right H known are follow are_planned sent k (whole_call k is)) may))

pub returns-clause-quiet : goal.returns-clause-quiet
returns-clause-quiet c τ H e today x reply h day is known answers =
    let editions = c.histories.ensures.today in
    let ordered = c.orders.ensures.ordered τ todays_rules _ H editions h in
    let are = books_of (counted H) ordered.centre (c.counts.ensures.ranges τ todays_rules _ H editions h) (c.withdrawals.ensures τ todays_rules _ H editions h) known.sound in
    planned_quiet H (c.acts_follow_the_commits.ensures.planned (centre.books_in (centre_view H).state) (counted H) known.sound are) τ today (quote_in τ H) day e x is reply answers
