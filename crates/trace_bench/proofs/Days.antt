-- Events of no node, and each event without a day, by the ledger.
use Rattle.std.proofs.Common.{◌≡◌, ◌≢◌, ℕ, ℤ, ◌+◌, ◌-◌, List, [], ◌∷◌, Option, Some, None, Bool, true, false, Result, Ok, Err, refl, sym, ◌∙◌, ap, subst, true≢false, is_some, arith}
use Rattle.std.specs.Prelude.{◌&&◌, not, take, if◌then◌else◌}
use Rattle.bench_base.specs.declared.{words.Node.Node, words.Node.TheVariants.Device, words.Node.TheVariants.Centre, events.Event.Event, events.Reply.Reply}
use Rattle.bench_base.specs.declared.ledger.Entry.TheVariants as entry
use Rattle.bench_base.specs.declared.events.Event.TheVariants as ev
use Rattle.bench_base.specs.declared.events.Reply.TheVariants as r
use Rattle.bench_base.specs.Events.{needs_day, takes_rates, IsWholeEvent}
use Rattle.bench_base.specs.Plans.{refuse, told}
use Rattle.node_acts.specs.declared.act.Act.TheVariants.{Refuse, Tell, Commits}
use Rattle.node_acts.specs.Kinds.{view_in}
use Rattle.node_acts.specs.Plans.{after}
use Rattle.node_acts.specs.Views.{View}
use Rattle.psd_state.specs.State.{State}
use Rattle.psd_state.specs.Seen as device
use Rattle.centre_ledger.specs.Seen as centre
use Rattle.centre_ledger.specs.Seen.{books_in}
use Rattle.centre_ledger.specs.Acts.{CentreAct, standing_act}
use Rattle.centre_ledger.specs.declared.standing.Standing.{Standing}
use Rattle.host_rates.specs.Laws.{KeptPrices}
use Rattle.ledger_moves.specs.Histories.{History}
use Rattle.bench_abstraction.specs.Comparing.{stood, compared, compare}
use Rattle.bench_abstraction.specs.Follows.{OthersAreQuiet, quiet_by}
use Rattle.bench_abstraction.specs.Kinds.{bench_kinds}
use Rattle.bench_base.specs.Rules.{todays_rules, editions}
use Rattle.bench_base.specs.Ranges.{IsDevice}
use Rattle.bench_base.specs.Ledger.{Ledger, day_in}
use Rattle.ledger_moves.specs.Tariffs.{Tariff}
use Rattle.ledger_moves.specs.Moves.{FailsToRead, plan}
use Rattle.bench_abstraction.specs.declared.routing.Routed.TheVariants as route
use Rattle.bench_abstraction.specs.declared.routing.OfDay.{OfDay}
use Rattle.bench_abstraction.specs.declared.routing.OfDay.TheVariants as of_day
use Rattle.bench_abstraction.specs.Tariff.{IsOfTexts, quote}
use Rattle.bench_abstraction.specs.Routing.{routed}
use Rattle.bench_abstraction.proofs.Quiet.{plan_day, plan_end, plan_none}
use Rattle.bench.proofs.Making.{get_some}
use Rattle.trace_bench.specs.declared.{judging.Heard.Heard, judging.Finding.Finding}
use Rattle.trace_device.specs.Records as device_records
use Rattle.trace_centre.specs.Cells as centre_cells
use Rattle.node_turns.specs.Turns as turns
use Rattle.node_turns.specs.Turns.{in_order}
use Rattle.node_turns.specs.declared.turn.Turn.{Turn}
use Rattle.trace_nodes.specs.Released.{released_in}
use Rattle.trace_views.specs.Verdicts.{Adds}
use Rattle.bench_base.specs.Replies.{fails_to_read}
use Rattle.trace_bench.specs.Judging.{IsHeard}
use Rattle.trace_bench.specs.Plainly.{IsPlainly}
use Rattle.trace_bench.specs.Placed.{ComparesInPlace}
use Rattle.trace_bench.specs.Seeing.{Audit, IsReady, SeesRun}
use Rattle.trace_bench.proofs.Keeping.{adds_none}
use Rattle.trace_bench.proofs.Lifting.{TakesNone, takes_none}
use Rattle.trace_bench.proofs.Nodes.{taken_there, not_for_rates}
use Rattle.trace_bench.proofs.Quiet.{IsSilent, heard_plainly}

-- == what is heard ==

-- without a day nothing is routed
takes_undated : (e : Event) (today : Option ℤ) (left : List ℕ) → is_some today ≡ false → TakesNone e today left
takes_undated e today left undated t = by (takes_rates e) (is_some today) undated
  where
    by : (b c : Bool) → c ≡ false → (if b && (c && not (fails_to_read t)) then take 65537 left else []) ≡ []
    by true true wrong = absurd (true≢false wrong)
    by true false none = refl
    by false c none = refl

-- it refuses, or reports what it compared: it follows no boot and prints nothing, and the ledger stays
pub record IsStill (x : Reply) : Type 0 where
  pub no_up : (m : Node) (k : ℕ) → x ≢ r.Up m k
  pub no_print : (j : ℕ) → x ≢ r.Printed j
  pub stays : (H : Ledger) → after (refuse x) x H ≡ H

still_off : (m : Node) → IsStill (r.OffNode m)
still_off m = record { no_up = λ n k is. cc; no_print = λ j is. cc; stays = λ H. refl }

stood_still : (d held : ℕ) (act : CentreAct Standing) → IsStill (stood d held act)
stood_still d held (Refuse x) = record { no_up = λ n k is. cc; no_print = λ j is. cc; stays = λ H. refl }
stood_still d held (Tell a) = record { no_up = λ n k is. cc; no_print = λ j is. cc; stays = λ H. refl }
stood_still d held (Commits c x a) = record { no_up = λ n k is. cc; no_print = λ j is. cc; stays = λ H. refl }

compared_still : (d : ℕ) (s : Option State) (act : CentreAct Standing) → IsStill (compared d s act)
compared_still d None act = record { no_up = λ n k is. cc; no_print = λ j is. cc; stays = λ H. refl }
compared_still d (Some s) act = stood_still d (s.registers.ascending + s.registers.descending) act

pub compare_still : (d : ℕ) (v : View device.Seen) (w : View centre.Seen) → IsStill (compare d v w)
compare_still d v w = by v.on w.on
  where
    both : Reply
    both = compared d v.state.state (standing_act d (books_in w.state))

    by : (a b : Bool) → IsStill (if a then (if b then both else r.OffNode Centre) else r.OffNode (Device d))
    by true true = compared_still d v.state.state (standing_act d (books_in w.state))
    by true false = still_off Centre
    by false b = still_off (Device d)

pub end_still : IsStill r.End
end_still = record { no_up = λ n k is. cc; no_print = λ j is. cc; stays = λ H. refl }

pub missing_still : (k : ℕ) → IsStill (r.NoMessage k)
missing_still k = record { no_up = λ n c is. cc; no_print = λ j is. cc; stays = λ H. refl }

-- a day sends and releases nothing
day_adds : (t : ℤ) (L : Ledger) → Adds None None L (entry.Day t ∷ L)
day_adds t L = let none = adds_none L in record { sends = none.sends; releases = none.releases }

-- == what is heard ==

module _ {T : Type 0} (IsOf : T → Turn → Type 0) (τ : Tariff) (H : Ledger) (left line : List ℕ) (old : Audit) (sees : SeesRun old H) where
  pub hears_day : (e : Event) (t : ℤ) → e ≡ ev.Day t → IsWholeEvent e → (heard : Heard T) → IsPlainly IsOf (r.Day t) (entry.Day t ∷ []) line (Ok heard) → IsHeard IsOf τ H e left line (record old { day = Some t }) (Ok heard)
  hears_day e t is whole heard plainly =
      heard_plainly τ H e (told (r.Day t) (entry.Day t ∷ [])) (subst (λ (i : Event). plan τ todays_rules H i [] ≡ told (r.Day t) (entry.Day t ∷ [])) (sym is) (plan_day τ H t [])) quiet
      (λ reply reading. not reading.event) IsOf (entry.Day t ∷ []) refl left line (takes_none e (day_in H) left not) whole old (record old { day = Some t }) (Ok heard) plainly sees
      (λ h same. record {
        day = record { day = refl; messages = sees.day.messages; rates = sees.day.rates };
        devices = sees.devices;
        centre = sees.centre;
        host = sees.host;
        verifier = sees.verifier;
      })
      (λ due wrong. cc)
    where
      not : e ≢ ev.Rates
      not same = let wrong : ev.Day t ≡ ev.Rates = sym is ∙ same in cc

      quiet : IsSilent (told (r.Day t) (entry.Day t ∷ []))
      quiet = record { silent = refl; no_up = λ m k named. cc; no_print = λ j named. cc; adds = day_adds t; unsent = refl; unreleased = refl }

  pub misses_day : (e : Event) (t : ℤ) → e ≡ ev.Day t → IsWholeEvent e → (finding : Finding) → IsPlainly IsOf (r.Day t) (entry.Day t ∷ []) line (Err finding) → IsHeard IsOf τ H e left line old (Err finding)
  misses_day e t is whole finding plainly =
      heard_plainly τ H e (told (r.Day t) (entry.Day t ∷ [])) (subst (λ (i : Event). plan τ todays_rules H i [] ≡ told (r.Day t) (entry.Day t ∷ [])) (sym is) (plan_day τ H t []))
      (record { silent = refl; no_up = λ m k named. cc; no_print = λ j named. cc; adds = day_adds t; unsent = refl; unreleased = refl })
      (λ reply reading. not reading.event) IsOf (entry.Day t ∷ []) refl left line (takes_none e (day_in H) left not) whole old old (Err finding) plainly sees (λ h wrong. cc) (λ due same. refl)
    where
      not : e ≢ ev.Rates
      not same = let wrong : ev.Day t ≡ ev.Rates = sym is ∙ same in cc

  -- without a day
  pub hears_no_day : (e : Event) → needs_day e ≡ true → old.day ≡ None → IsWholeEvent e → (result : Result (Heard T) Finding) → IsPlainly IsOf r.NoDay [] line result → IsHeard IsOf τ H e left line old result
  hears_no_day e needs none whole result plainly =
      heard_plainly τ H e (refuse r.NoDay) (plan_none τ H e [] needs (sym none ∙ sees.day.day)) (record { silent = refl; no_up = λ m k is. cc; no_print = λ j is. cc; adds = λ L. adds_none L; unsent = refl; unreleased = refl }) reads IsOf [] refl left line (takes_undated e (day_in H) left undated) whole
      old old result plainly sees (λ heard is. sees) (λ due is. refl)
    where
      undated : is_some (day_in H) ≡ false
      undated = ap is_some (sym sees.day.day ∙ none)

      reads : (reply : Reply) → FailsToRead e reply (day_in H) → ⊥
      reads reply fails = true≢false (sym fails.dated ∙ undated)

  pub hears_still : (e : Event) (x : Reply) → plan τ todays_rules H e [] ≡ refuse x → IsStill x → e ≢ ev.Rates → IsWholeEvent e → (result : Result (Heard T) Finding) → IsPlainly IsOf x [] line result → IsHeard IsOf τ H e left line old result
  hears_still e x planned still not whole result plainly =
      heard_plainly τ H e (refuse x) planned (record { silent = refl; no_up = still.no_up; no_print = still.no_print; adds = λ L. subst (λ (K : Ledger). Adds None None L K) (sym (still.stays L)) (adds_none L); unsent = ap (λ (l : Ledger). turns.sent_in (in_order l)) (still.stays []); unreleased = ap (λ (l : Ledger). released_in (in_order l)) (still.stays []) }) (λ reply reading. not reading.event)
      IsOf [] (still.stays []) left line (takes_none e (day_in H) left not) whole
      old old result plainly sees (λ heard is. subst (λ (K : Ledger). SeesRun old K) (sym (still.stays H)) sees) (λ due is. refl)

  pub hears_end : (e : Event) → e ≡ ev.End → IsWholeEvent e → (result : Result (Heard T) Finding) → IsPlainly IsOf r.End [] line result → IsHeard IsOf τ H e left line old result
  hears_end e is whole result plainly = hears_still e r.End (subst (λ (i : Event). plan τ todays_rules H i [] ≡ refuse r.End) (sym is) (plan_end τ H [])) end_still (λ same. let wrong : ev.End ≡ ev.Rates = sym is ∙ same in cc) whole result plainly

  -- an event of no node that the bench answers by what it sees
  module _ (texts : IsOfTexts τ) (prices : KeptPrices) (history : History τ editions H) (quiet : OthersAreQuiet bench_kinds centre.IsKnown) (known : centre.IsKnown (centre_cells.view_of old.centre).state) where
    pub hears_quiet : (today : ℤ) → old.day ≡ Some today → (e : Event) (x : OfDay) → routed old.messages (quote old.rates) e ≡ Some (route.OfDay x) → x ≢ of_day.Rates → (reply : Reply) → quiet_by bench_kinds H x ≡ Some reply → IsStill reply → IsWholeEvent e
        → (result : Result (Heard T) Finding) → IsPlainly IsOf reply [] line result → IsHeard IsOf τ H e left line old result
    hears_quiet today day e x is other reply answers still whole result plainly =
        hears_still e reply
        (quiet τ H e today x reply history (sym sees.day.day ∙ day) (taken_there τ prices texts H old e (route.OfDay x) sees is) (subst (λ (v : View centre.Seen). centre.IsKnown v.state) sees.centre known) answers)
        still (not_for_rates old.messages (quote old.rates) e x is other) whole result plainly

-- what compares a device and the centre is what the ledger compares
pub compared_at : (H : Ledger) (old : Audit) → SeesRun old H → IsReady old → (d : ℕ) → IsDevice d → (reply : Reply) → ComparesInPlace d old.devices old.centre reply → (quiet_by bench_kinds H (of_day.Reconcile d) ≡ Some reply) × IsStill reply
compared_at H old sees ready d named reply shows =
    let i = d - 1 in
    let place : d ≡ i + 1 = omega (arith, named.0) in
    let there = get_some old.devices i (omega (arith, ready.eight, named.0, named.1)) in
    let is = shows i there.0 place there.1 in
    let view : device_records.view_of there.0 ≡ view_in (Device d) (bench_kinds.devices.seen d) H =
    sees.devices i there.0 there.1 ∙ ap (λ (k : ℕ). view_in (Device k) (bench_kinds.devices.seen k) H) (sym place) in
    let one : reply ≡ compare d (view_in (Device d) (bench_kinds.devices.seen d) H) (view_in Centre (bench_kinds.centre.seen tt) H) =
    is ∙ ap (λ (v : View device.Seen). compare d v (centre_cells.view_of old.centre)) view ∙ ap (λ (w : View centre.Seen). compare d (view_in (Device d) (bench_kinds.devices.seen d) H) w) sees.centre in
    (ap (λ (x : Reply). Some x) (sym one), subst IsStill (sym is) (compare_still d (device_records.view_of there.0) (centre_cells.view_of old.centre)))
