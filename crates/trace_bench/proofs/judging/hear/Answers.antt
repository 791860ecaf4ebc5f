use Rattle.std.proofs.Common.{Result, refl, sym, ◌∙◌, subst}
use Rattle.bench_base.specs.declared.events.Event.{Event}
use Rattle.bench_base.specs.declared.events.Event.TheVariants as ev
use Rattle.bench_base.specs.declared.events.Reply.TheVariants as r
use Rattle.bench_abstraction.specs.declared.routing.Routed.TheVariants as route
use Rattle.bench_abstraction.specs.declared.routing.OfDay.TheVariants as of_day
use Rattle.bench_abstraction.specs.Tariff.{quote}
use Rattle.bench.proofs.Events.{taken_as, work_as, needs_taken}
use Rattle.trace_bench.specs.declared.{judging.Heard.Heard, judging.Finding.Finding}
use Rattle.trace_bench.specs.Debits.{OthersRest}
use Rattle.trace_bench.specs.Judging.{IsHeard}
use Rattle.trace_bench.specs.Placed.{ComparesInPlace}
use Rattle.trace_bench.specs.Seeing.{audit_of}
use Rattle.bench_abstraction.proofs.Quiet.{quiet_is}
use Rattle.trace_bench.proofs.Days.{hears_day, misses_day, hears_end, hears_no_day, hears_quiet, missing_still, compared_at}
use Rattle.trace_bench.proofs.Debiting.{none_changed, other_places}
use Rattle.trace_bench.proofs.Nodes.{hears_device, hears_centre, hears_host, hears_verifier}
use Rattle.trace_bench.proofs.OfRates.{heard_rates}
use Rattle.trace_bench.proofs.judging.hear.Goals as goal

pub returns-in-Ok-clause-judged : goal.returns-in-Ok-clause-judged
returns-in-Ok-clause-judged g c τ H texts history unforged sees =
    let old = audit_of c.args.auditor.now in
    let is = taken_as old.messages c.deref.result.now (quote old.rates) c.args.event.now c.route-found.result c.in-Some.taken (route.Day c.in-Day.day) c.deref.ensures.value c.route-found.ensures.exact c.in-Some.is c.in-Day.is in
    hears_day g.T.Tell.IsOf τ H c.args.left.now c.args.line.now old sees c.args.event.now c.in-Day.day (quiet_is old.messages (quote old.rates) c.args.event.now (route.Day c.in-Day.day) is tt) c.requires.whole c.in-Ok.heard (rw c.in-Ok.is at c.day_told.ensures)

pub returns-in-Err-clause-judged : goal.returns-in-Err-clause-judged
returns-in-Err-clause-judged g c τ H texts history unforged sees =
    let old = audit_of c.args.auditor.now in
    let is = taken_as old.messages c.deref.result.now (quote old.rates) c.args.event.now c.route-found.result c.in-Some.taken (route.Day c.in-Day.day) c.deref.ensures.value c.route-found.ensures.exact c.in-Some.is c.in-Day.is in
    misses_day g.T.Tell.IsOf τ H c.args.left.now c.args.line.now old sees c.args.event.now c.in-Day.day (quiet_is old.messages (quote old.rates) c.args.event.now (route.Day c.in-Day.day) is tt) c.requires.whole c.in-Err.finding (rw c.in-Err.is at c.day_told.ensures)

pub returns-in-End-clause-judged : goal.returns-in-End-clause-judged
returns-in-End-clause-judged g c τ H texts history unforged sees =
    let old = audit_of c.args.auditor.now in
    let is = taken_as old.messages c.deref.result.now (quote old.rates) c.args.event.now c.route-found.result c.in-Some.taken route.End c.deref.ensures.value c.route-found.ensures.exact c.in-Some.is c.in-End.is in
    hears_end g.T.Tell.IsOf τ H c.args.left.now c.args.line.now old sees c.args.event.now (quiet_is old.messages (quote old.rates) c.args.event.now route.End is tt) c.requires.whole c.plain.result c.plain.ensures

pub returns-in-NoMessage-clause-judged : goal.returns-in-NoMessage-clause-judged
returns-in-NoMessage-clause-judged g c τ H texts history unforged sees =
    let old = audit_of c.args.auditor.now in
    let k = c.in-NoMessage.number in
    let is = work_as old.messages c.deref.result.now (quote old.rates) c.args.event.now c.route-found.result c.in-Some.taken c.in-OfDay.work (of_day.NoMessage k) c.deref.ensures.value c.route-found.ensures.exact c.in-Some.is c.in-OfDay.is c.in-NoMessage.is in
    hears_quiet g.T.Tell.IsOf τ H c.args.left.now c.args.line.now old sees texts c.prices_by_text.ensures.kept history c.nodes_follow.ensures.quiet c.is_known.ensures c.in-Some-today.day c.in-Some-today.is c.args.event.now (of_day.NoMessage k) is (λ same. cc)
    (r.NoMessage k) refl (missing_still k) c.requires.whole c.plain-in-NoMessage.result c.plain-in-NoMessage.ensures

pub returns-in-Reconcile-clause-judged : goal.returns-in-Reconcile-clause-judged
returns-in-Reconcile-clause-judged g c τ H texts history unforged sees =
    let old = audit_of c.args.auditor.now in
    let d = c.in-Reconcile.device in
    let is = work_as old.messages c.deref.result.now (quote old.rates) c.args.event.now c.route-found.result c.in-Some.taken c.in-OfDay.work (of_day.Reconcile d) c.deref.ensures.value c.route-found.ensures.exact c.in-Some.is c.in-OfDay.is c.in-Reconcile.is in
    let at = compared_at H old sees c.requires.ready d c.compare_in_place-due.ensures.named c.compare_in_place-due.result (subst (λ l. ComparesInPlace d l old.centre c.compare_in_place-due.result) c.deref-in-Reconcile.ensures.value c.compare_in_place-due.ensures.shows) in
    hears_quiet g.T.Tell.IsOf τ H c.args.left.now c.args.line.now old sees texts c.prices_by_text.ensures.kept history c.nodes_follow.ensures.quiet c.is_known.ensures c.in-Some-today.day c.in-Some-today.is c.args.event.now (of_day.Reconcile d) is (λ same. cc)
    c.compare_in_place-due.result at.0 at.1 c.requires.whole c.plain-in-Reconcile.result c.plain-in-Reconcile.ensures

-- == without a day ==

pub returns-in-None-clause-judged : goal.returns-in-None-clause-judged
returns-in-None-clause-judged g c τ H texts history unforged sees =
    let old = audit_of c.args.auditor.now in
    let is = taken_as old.messages c.deref.result.now (quote old.rates) c.args.event.now c.route-found.result c.in-Some.taken (route.OfDay c.in-OfDay.work) c.deref.ensures.value c.route-found.ensures.exact c.in-Some.is c.in-OfDay.is in
    hears_no_day g.T.Tell.IsOf τ H c.args.left.now c.args.line.now old sees c.args.event.now (needs_taken old.messages (quote old.rates) c.args.event.now c.in-OfDay.work is) c.in-None.is c.requires.whole c.plain-in-None.result c.plain-in-None.ensures

-- == on a day ==

pub returns-in-Rates-clause-judged : goal.returns-in-Rates-clause-judged
returns-in-Rates-clause-judged g c τ H texts history unforged sees =
    let old = audit_of c.args.auditor.now in
    let new = record old { rates = c.judge_rates.new.kept } in
    let is = work_as old.messages c.deref.result.now (quote old.rates) c.args.event.now c.route-found.result c.in-Some.taken c.in-OfDay.work of_day.Rates c.deref.ensures.value c.route-found.ensures.exact c.in-Some.is c.in-OfDay.is c.in-Rates.is in
    let heard = heard_rates τ H texts c.in-Some-today.day (sym sees.day.day ∙ c.in-Some-today.is) c.args.left.now c.args.line.now old new sees refl g.T.Tell.IsOf c.judge_rates.result c.judge_rates.ensures in
    subst (λ (e : Event). IsHeard g.T.Tell.IsOf τ H e c.args.left.now c.args.line.now new c.of_rates.result) (sym (quiet_is old.messages (quote old.rates) c.args.event.now (route.OfDay of_day.Rates) is tt))
    (subst (λ (x : Result (Heard _) Finding). IsHeard g.T.Tell.IsOf τ H ev.Rates c.args.left.now c.args.line.now new x) (sym c.of_rates.ensures) heard)

pub returns-in-Device-clause-judged : goal.returns-in-Device-clause-judged
returns-in-Device-clause-judged g c τ H texts history unforged sees =
    let old = audit_of c.args.auditor.now in
    let b = c.in-Device in
    let is = work_as old.messages c.deref.result.now (quote old.rates) c.args.event.now c.route-found.result c.in-Some.taken c.in-OfDay.work (of_day.Device b.device b.asked) c.deref.ensures.value c.route-found.ensures.exact c.in-Some.is c.in-OfDay.is b.is in
    let heard = hears_device g.T.Tell.IsOf old c.args.event.now c.prices_by_text.ensures.kept c.requires.whole c.in-Some-today.day c.in-Some-today.is c.args.left.now c.args.line.now τ H texts history unforged sees b.device b.asked is c.device_in_place.new.devices.items c.device_in_place.result c.device_in_place.ensures.judged in
    subst (λ (x : Result (Heard _) Finding). IsHeard g.T.Tell.IsOf τ H c.args.event.now c.args.left.now c.args.line.now (record old { devices = c.device_in_place.new.devices.items }) x) (sym c.of_node.ensures) heard

pub returns-in-Centre-clause-judged : goal.returns-in-Centre-clause-judged
returns-in-Centre-clause-judged g c τ H texts history unforged sees =
    let old = audit_of c.args.auditor.now in
    let b = c.in-Centre in
    let is = work_as old.messages c.deref.result.now (quote old.rates) c.args.event.now c.route-found.result c.in-Some.taken c.in-OfDay.work (of_day.Centre b.asked) c.deref.ensures.value c.route-found.ensures.exact c.in-Some.is c.in-OfDay.is b.is in
    let heard = hears_centre g.T.Tell.IsOf old c.args.event.now c.prices_by_text.ensures.kept c.requires.whole c.in-Some-today.day c.in-Some-today.is c.args.left.now c.args.line.now τ H texts history unforged sees b.asked is c.hands_centre.ensures c.judge_centre.new.traced c.judge_centre.result c.judge_centre.ensures.by_ledger in
    subst (λ (x : Result (Heard _) Finding). IsHeard g.T.Tell.IsOf τ H c.args.event.now c.args.left.now c.args.line.now (record old { centre = c.judge_centre.new.traced }) x) (sym c.of_node-in-Centre.ensures) heard

pub returns-in-Host-clause-judged : goal.returns-in-Host-clause-judged
returns-in-Host-clause-judged g c τ H texts history unforged sees =
    let old = audit_of c.args.auditor.now in
    let b = c.in-Host in
    let is = work_as old.messages c.deref.result.now (quote old.rates) c.args.event.now c.route-found.result c.in-Some.taken c.in-OfDay.work (of_day.Host b.asked) c.deref.ensures.value c.route-found.ensures.exact c.in-Some.is c.in-OfDay.is b.is in
    let heard = hears_host g.T.Tell.IsOf old c.args.event.now c.prices_by_text.ensures.kept c.requires.whole c.in-Some-today.day c.in-Some-today.is c.args.left.now c.args.line.now τ H texts history unforged sees b.asked is c.judge_host.new.traced c.judge_host.result c.judge_host.ensures.by_ledger in
    subst (λ (x : Result (Heard _) Finding). IsHeard g.T.Tell.IsOf τ H c.args.event.now c.args.left.now c.args.line.now (record old { host = c.judge_host.new.traced }) x) (sym c.of_node-in-Host.ensures) heard

pub returns-in-Verifier-clause-judged : goal.returns-in-Verifier-clause-judged
returns-in-Verifier-clause-judged g c τ H texts history unforged sees =
    let old = audit_of c.args.auditor.now in
    let b = c.in-Verifier in
    let is = work_as old.messages c.deref.result.now (quote old.rates) c.args.event.now c.route-found.result c.in-Some.taken c.in-OfDay.work (of_day.Verifier b.asked) c.deref.ensures.value c.route-found.ensures.exact c.in-Some.is c.in-OfDay.is b.is in
    let heard = hears_verifier g.T.Tell.IsOf old c.args.event.now c.prices_by_text.ensures.kept c.requires.whole c.in-Some-today.day c.in-Some-today.is c.args.left.now c.args.line.now τ H texts history unforged sees b.asked is c.hands_verifier.ensures c.judge_scans.new.traced c.judge_scans.result c.judge_scans.ensures.by_ledger in
    subst (λ (x : Result (Heard _) Finding). IsHeard g.T.Tell.IsOf τ H c.args.event.now c.args.left.now c.args.line.now (record old { verifier = c.judge_scans.new.traced }) x) (sym c.of_node-in-Verifier.ensures) heard

-- == the other devices ==

pub returns-in-Ok-clause-others : goal.returns-in-Ok-clause-others
returns-in-Ok-clause-others g c i s at other = at

pub returns-in-End-clause-others : goal.returns-in-End-clause-others
returns-in-End-clause-others g c = none_changed _ _

pub returns-in-NoMessage-clause-others : goal.returns-in-NoMessage-clause-others
returns-in-NoMessage-clause-others g c = none_changed _ _

pub returns-in-Reconcile-clause-others : goal.returns-in-Reconcile-clause-others
returns-in-Reconcile-clause-others g c = none_changed _ _

pub returns-in-None-clause-others : goal.returns-in-None-clause-others
returns-in-None-clause-others g c = none_changed _ _

pub returns-in-Rates-clause-others : goal.returns-in-Rates-clause-others
returns-in-Rates-clause-others g c = none_changed _ _

pub returns-in-Device-clause-others : goal.returns-in-Device-clause-others
returns-in-Device-clause-others g c =
    let b = c.in-Device in
    subst (λ (x : Result (Heard _) Finding). OthersRest x (audit_of c.args.auditor.now).devices c.device_in_place.new.devices.items) (sym c.of_node.ensures) (other_places b.device c.device_in_place.ensures.judged)

pub returns-in-Centre-clause-others : goal.returns-in-Centre-clause-others
returns-in-Centre-clause-others g c = none_changed _ _

pub returns-in-Host-clause-others : goal.returns-in-Host-clause-others
returns-in-Host-clause-others g c = none_changed _ _

pub returns-in-Verifier-clause-others : goal.returns-in-Verifier-clause-others
returns-in-Verifier-clause-others g c = none_changed _ _
