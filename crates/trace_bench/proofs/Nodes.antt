-- What is heard of an event of a node, by the ledger.
use Rattle.std.proofs.Common.{◌≡◌, ◌≢◌, ℕ, ℤ, List, [], ◌++◌, Option, Some, None, Result, Ok, Err, append-nil, refl, sym, ◌∙◌, ap, subst}
use Rattle.std.specs.Prelude.{slice_set}
use Rattle.bench_base.specs.declared.{words.Node.Node, words.Node.TheVariants.Device, words.Node.TheVariants.Centre, words.Node.TheVariants.Host, words.Node.TheVariants.Verifier, events.Event.Event, events.Reply.Reply}
use Rattle.bench_base.specs.declared.events.Event.TheVariants as ev
use Rattle.bench_base.specs.Rules.{editions}
use Rattle.bench_base.specs.Ledger.{Ledger, day_in}
use Rattle.bench_base.specs.Events.{IsWholeEvent}
use Rattle.node_acts.specs.declared.asked.Asked.{Asked}
use Rattle.node_acts.specs.Kinds.{view_in}
use Rattle.psd_state.specs.State.{State}
use Rattle.centre_ledger.specs.declared.rows.Row.{Row}
use Rattle.host_jobs.specs.declared.rows.JobRow.{JobRow}
use Rattle.verifier.specs.declared.acts.Change.{Change}
use Rattle.host_rates.specs.Laws.{KeptPrices}
use Rattle.ledger_moves.specs.Tariffs.{Tariff}
use Rattle.ledger_moves.specs.Histories.{History, Unforged}
use Rattle.bench_abstraction.specs.declared.{calls.DeviceCall.DeviceCall, calls.CentreCall.CentreCall, calls.HostCall.HostCall, calls.VerifierCall.VerifierCall, routing.Routed.Routed, routing.OfDay.OfDay}
use Rattle.bench_abstraction.specs.declared.routing.Routed.TheVariants as route
use Rattle.bench_abstraction.specs.declared.routing.OfDay.TheVariants as of_day
use Rattle.bench_abstraction.specs.Centre as centres
use Rattle.bench_abstraction.specs.Host as hosts
use Rattle.bench_abstraction.specs.Verifier as verifiers
use Rattle.bench_abstraction.specs.Follows.{OthersStay, Rests}
use Rattle.bench_abstraction.specs.Kinds.{bench_kinds}
use Rattle.bench_abstraction.specs.Messages.{sent_in}
use Rattle.bench_abstraction.specs.Tariff.{IsOfTexts, Quote, quote, quote_in}
use Rattle.bench_abstraction.specs.Routing.{routed}
use Rattle.node_turns.specs.Turns as turns
use Rattle.node_turns.specs.declared.turn.Turn.{Turn}
use Rattle.trace_nodes.specs.Released.{released_in}
use Rattle.trace_nodes.specs.declared.traced.Traced.{Traced}
use Rattle.trace_views.specs.Verdicts.{listed, turn_at, Adds}
use Rattle.trace_views.specs.Verdicts as verdicts
use Rattle.centre_ledger.specs.Seen as centre_counts
use Rattle.host_jobs.specs.Seen as host_counts
use Rattle.verifier.specs.Seen as verifier_counts
use Rattle.trace_device.specs.declared.record.DeviceRecord.{DeviceRecord}
use Rattle.trace_centre.specs.declared.record.CentreRecord.{CentreRecord}
use Rattle.trace_host.specs.declared.record.HostRecord.{HostRecord}
use Rattle.trace_verifier.specs.declared.record.ScanRecord.{ScanRecord}
use Rattle.trace_device.specs.Records as device
use Rattle.trace_device.specs.Verdicts as device_verdicts
use Rattle.trace_centre.specs.Cells as centre
use Rattle.trace_centre.specs.Verdicts as centre_verdicts
use Rattle.trace_host.specs.Cells as host
use Rattle.trace_host.specs.Verdicts as host_verdicts
use Rattle.trace_verifier.specs.Cells as verifier
use Rattle.trace_verifier.specs.Verdicts as verifier_verdicts
use Rattle.trace_bench.specs.Judging.{IsHeard}
use Rattle.trace_bench.specs.Placed.{DeviceJudged}
use Rattle.bench_abstraction.proofs.Events.{same_work}
use Rattle.bench_abstraction.proofs.RatesPlans.{taken_by}
use Rattle.trace_bench.specs.declared.noting.Noted.{Noted}
use Rattle.trace_bench.specs.Noting.{IsNoted}
use Rattle.trace_bench.specs.Plainly.{heard_of_node}
use Rattle.trace_bench.specs.Seeing.{Audit, SeesRun, sending}
use Rattle.trace_bench.proofs.Lifting.{TakesNone, takes_none, nothing_taken, lift_told, lift_untold, lift_adds, lift_turn}
use Rattle.trace_bench.proofs.Seen.{sends_nothing, sees_device, sees_centre, sees_host, sees_verifier}

-- what is routed by what the auditor has is routed by the ledger
pub taken_there : (τ : Tariff) → KeptPrices → IsOfTexts τ → (H : Ledger) (a : Audit) (e : Event) (x : Routed) → SeesRun a H → routed a.messages (quote a.rates) e ≡ Some x → routed (sent_in H) (quote_in τ H) e ≡ Some x
taken_there τ prices texts H a e x sees is = taken_by τ prices texts H a.messages a.rates e x sees.day.messages sees.day.rates is

-- an event that is for a node reads no rates
pub not_for_rates : (pool : List (List ℕ)) (q : Quote) (e : Event) (x : OfDay) → routed pool q e ≡ Some (route.OfDay x) → x ≢ of_day.Rates → e ≢ ev.Rates
not_for_rates pool q e x is not same = let it : Some (route.OfDay of_day.Rates) ≡ Some (route.OfDay x) = sym (ap (routed pool q) same) ∙ is in not (sym (same_work it))

module _ {T : Type 0} (IsOf : T → Turn → Type 0) (old : Audit) (e : Event) (prices : KeptPrices) (whole : IsWholeEvent e) (today : ℤ) (dated : old.day ≡ Some today) (left line : List ℕ)
    (τ : Tariff) (H : Ledger) (texts : IsOfTexts τ) (history : History τ editions H) (unforged : Unforged e H) (sees : SeesRun old H) where
  day_is : day_in H ≡ Some today
  day_is = sym sees.day.day ∙ dated

  -- nothing was changed
  stays : (m : Node) → OthersStay bench_kinds m H H
  stays m = record { devices = λ i differs. refl; centre = λ differs. refl; host = λ differs. refl; verifier = λ differs. refl }

  rests : Rests H H
  rests = record { day = refl; rates = refl }

  unsent : sent_in H ≡ sent_in H ++ listed None
  unsent = sym (append-nil (sent_in H))

  as_it_was : (a : Audit) → SeesRun (sending None a) H → SeesRun a H
  as_it_was a = subst (λ (b : Audit). SeesRun b H) (sends_nothing a)

  -- what is noted of a turn is what it sent and released
  sent_so : (noted : Noted T) (reply : Reply) (L : Ledger) → sent_in L ≡ sent_in H ++ listed (turns.sent_in (turn_at τ H e [] reply).entries) → IsNoted IsOf noted (turn_at τ H e [] reply)
      → sent_in L ≡ sent_in H ++ listed noted.sent
  sent_so noted reply L sends is = sends ∙ ap (λ (o : Option (List ℕ)). sent_in H ++ listed o) (sym is.1)

  adds_so : (noted : Noted T) (reply : Reply) (L : Ledger) → Adds (turns.sent_in (turn_at τ H e [] reply).entries) (released_in (turn_at τ H e [] reply).entries) H L
      → IsNoted IsOf noted (turn_at τ H e [] reply) → Adds noted.sent noted.released H L
  adds_so noted reply L adds is =
      subst (λ (o : Option (List ℕ)). Adds o noted.released H L) (sym is.1)
      (subst (λ (o : Option (List ℕ)). Adds (turns.sent_in (turn_at τ H e [] reply).entries) o H L) (sym is.2) adds)

  pub hears_device : (d : ℕ) (asked : Asked DeviceCall) → routed old.messages (quote old.rates) e ≡ Some (route.OfDay (of_day.Device d asked)) → (devices : List (Traced DeviceRecord State)) (result : Result (Noted T) Reply)
      → DeviceJudged (IsNoted IsOf) d today asked line old.devices devices result → IsHeard IsOf τ H e left line (record old { devices = devices }) (heard_of_node (Some d) result)
  hears_device d asked is devices result judged =
      subst (λ (l : List (Traced DeviceRecord State)). IsHeard IsOf τ H e left line (record old { devices = l }) (heard_of_node (Some d) result)) (sym judged.set)
      (by result (judged.by_ledger τ H e history unforged day_is whole (taken_there τ prices texts H old e (route.OfDay (of_day.Device d asked)) sees is) tt seen))
    where
      none : TakesNone e (day_in H) left
      none = takes_none e (day_in H) left (not_for_rates old.messages (quote old.rates) e (of_day.Device d asked) is (λ same. cc))

      seen : view_in (Device d) (bench_kinds.devices.seen d) H ≡ device.view_of judged.before
      seen = ap (λ (k : ℕ). view_in (Device k) (bench_kinds.devices.seen k) H) judged.is_device ∙ sym (sees.devices judged.place judged.before judged.was)

      now : Audit
      now = record old { devices = slice_set old.devices judged.place judged.now }

      by : (r : Result (Noted T) Reply) → device_verdicts.MovesBy (IsNoted IsOf) τ H e d line (device.view_of judged.now) r → IsHeard IsOf τ H e left line now (heard_of_node (Some d) r)
      by (Ok noted) so = (
        so.0,
        lift_told τ H e left line none (sending noted.sent now) so.0 so.1.text so.1.whole so.1.moves
            (sees_device old H _ sees noted.sent so.1.rests (sent_so noted so.0 (verdicts.behind τ H e so.0) so.1.sends so.2) d judged.place judged.before judged.now judged.is_device judged.was so.1.here so.1.others),
        nothing_taken τ H e left line none so.0,
        lift_adds τ H e left line none noted.sent noted.released so.0 (adds_so noted so.0 (verdicts.behind τ H e so.0) so.1.adds so.2),
        lift_turn τ H e left line none IsOf noted.told so.0 so.2.0,
      )
      by (Err due) never = lift_untold τ H e left line none now due never.due_is never.never
          (as_it_was now (sees_device old H H sees None rests unsent d judged.place judged.before judged.now judged.is_device judged.was (sym never.rests) (stays (Device d))))

  pub hears_centre : (asked : Asked CentreCall) → routed old.messages (quote old.rates) e ≡ Some (route.OfDay (of_day.Centre asked)) → centres.AreBytes asked → (now : Traced CentreRecord Row) (result : Result (Noted T) Reply)
      → centre_verdicts.IsByLedger (IsNoted IsOf) today asked line (centre.view_of old.centre) (centre.view_of now) result → IsHeard IsOf τ H e left line (record old { centre = now }) (heard_of_node None result)
  hears_centre asked is bytes now result by_ledger = by result (by_ledger τ H e history unforged day_is whole (taken_there τ prices texts H old e (route.OfDay (of_day.Centre asked)) sees is) bytes (sym sees.centre))
    where
      none : TakesNone e (day_in H) left
      none = takes_none e (day_in H) left (not_for_rates old.messages (quote old.rates) e (of_day.Centre asked) is (λ same. cc))

      by : (r : Result (Noted T) Reply) → verdicts.MovesBy centre_counts.counting centres.centre_kind Centre tt (IsNoted IsOf) τ H e line (centre.view_of now) r → IsHeard IsOf τ H e left line (record old { centre = now }) (heard_of_node None r)
      by (Ok noted) so = (
        so.0,
        lift_told τ H e left line none (sending noted.sent (record old { centre = now })) so.0 so.1.text so.1.whole so.1.moves
            (sees_centre old H _ sees noted.sent so.1.rests (sent_so noted so.0 (verdicts.behind τ H e so.0) so.1.sends so.2) now so.1.here so.1.others),
        nothing_taken τ H e left line none so.0,
        lift_adds τ H e left line none noted.sent noted.released so.0 (adds_so noted so.0 (verdicts.behind τ H e so.0) so.1.adds so.2),
        lift_turn τ H e left line none IsOf noted.told so.0 so.2.0,
      )
      by (Err due) never = lift_untold τ H e left line none (record old { centre = now }) due never.due_is never.never
          (as_it_was (record old { centre = now }) (sees_centre old H H sees None rests unsent now (sym never.rests) (stays Centre)))

  pub hears_host : (asked : Asked HostCall) → routed old.messages (quote old.rates) e ≡ Some (route.OfDay (of_day.Host asked)) → (now : Traced HostRecord JobRow) (result : Result (Noted T) Reply)
      → host_verdicts.IsByLedger (IsNoted IsOf) today asked line (host.view_of old.host) (host.view_of now) result → IsHeard IsOf τ H e left line (record old { host = now }) (heard_of_node None result)
  hears_host asked is now result by_ledger = by result (by_ledger τ H e history unforged day_is whole (taken_there τ prices texts H old e (route.OfDay (of_day.Host asked)) sees is) tt (sym sees.host))
    where
      none : TakesNone e (day_in H) left
      none = takes_none e (day_in H) left (not_for_rates old.messages (quote old.rates) e (of_day.Host asked) is (λ same. cc))

      by : (r : Result (Noted T) Reply) → verdicts.MovesBy host_counts.counting hosts.host_kind Host tt (IsNoted IsOf) τ H e line (host.view_of now) r → IsHeard IsOf τ H e left line (record old { host = now }) (heard_of_node None r)
      by (Ok noted) so = (
        so.0,
        lift_told τ H e left line none (sending noted.sent (record old { host = now })) so.0 so.1.text so.1.whole so.1.moves
            (sees_host old H _ sees noted.sent so.1.rests (sent_so noted so.0 (verdicts.behind τ H e so.0) so.1.sends so.2) now so.1.here so.1.others),
        nothing_taken τ H e left line none so.0,
        lift_adds τ H e left line none noted.sent noted.released so.0 (adds_so noted so.0 (verdicts.behind τ H e so.0) so.1.adds so.2),
        lift_turn τ H e left line none IsOf noted.told so.0 so.2.0,
      )
      by (Err due) never = lift_untold τ H e left line none (record old { host = now }) due never.due_is never.never
          (as_it_was (record old { host = now }) (sees_host old H H sees None rests unsent now (sym never.rests) (stays Host)))

  pub hears_verifier : (asked : Asked VerifierCall) → routed old.messages (quote old.rates) e ≡ Some (route.OfDay (of_day.Verifier asked)) → verifiers.AreBytes asked → (now : Traced ScanRecord Change) (result : Result (Noted T) Reply)
      → verifier_verdicts.IsByLedger (IsNoted IsOf) today asked line (verifier.view_of old.verifier) (verifier.view_of now) result → IsHeard IsOf τ H e left line (record old { verifier = now }) (heard_of_node None result)
  hears_verifier asked is bytes now result by_ledger = by result (by_ledger τ H e history unforged day_is whole (taken_there τ prices texts H old e (route.OfDay (of_day.Verifier asked)) sees is) bytes (sym sees.verifier))
    where
      none : TakesNone e (day_in H) left
      none = takes_none e (day_in H) left (not_for_rates old.messages (quote old.rates) e (of_day.Verifier asked) is (λ same. cc))

      by : (r : Result (Noted T) Reply) → verdicts.MovesBy verifier_counts.counting verifiers.verifier_kind Verifier tt (IsNoted IsOf) τ H e line (verifier.view_of now) r → IsHeard IsOf τ H e left line (record old { verifier = now }) (heard_of_node None r)
      by (Ok noted) so = (
        so.0,
        lift_told τ H e left line none (sending noted.sent (record old { verifier = now })) so.0 so.1.text so.1.whole so.1.moves
            (sees_verifier old H _ sees noted.sent so.1.rests (sent_so noted so.0 (verdicts.behind τ H e so.0) so.1.sends so.2) now so.1.here so.1.others),
        nothing_taken τ H e left line none so.0,
        lift_adds τ H e left line none noted.sent noted.released so.0 (adds_so noted so.0 (verdicts.behind τ H e so.0) so.1.adds so.2),
        lift_turn τ H e left line none IsOf noted.told so.0 so.2.0,
      )
      by (Err due) never = lift_untold τ H e left line none (record old { verifier = now }) due never.due_is never.never
          (as_it_was (record old { verifier = now }) (sees_verifier old H H sees None rests unsent now (sym never.rests) (stays Verifier)))
