-- Events that leave all as it is but the day: a day, the end, each event without a day, and those that the bench answers by what it
-- sees: a message that nobody sent, and a device beside the centre.
use Rattle.std.proofs.Common.{◌≡◌, ◌≢◌, inl, inr, ◌⊎◌, ⊎_elim, ℕ, ℤ, ◌+◌, ◌-◌, [], ◌∷◌, Option, Some, None, Bool, true, false, ◌↔◌, refl, sym, ◌∙◌, ap, subst, true≢false, arith}
use Rattle.std.specs.Prelude.{slice_get, IsSome}
use Rattle.std.proofs.lemmas.Option.{same_Some}
use Rattle.bench_base.specs.declared.{words.Node.Node, words.Node.TheVariants.Device, words.Node.TheVariants.Centre, words.Node.TheVariants.Host, words.Node.TheVariants.Verifier, events.Event.Event, events.Reply.Reply}
use Rattle.bench_base.specs.declared.ledger.Entry.TheVariants as entry
use Rattle.bench_base.specs.declared.events.Event.TheVariants as ev
use Rattle.bench_base.specs.declared.events.Reply.TheVariants as r
use Rattle.bench_base.specs.Events.{needs_day, day_after, IsWholeEvent}
use Rattle.bench_base.specs.Plans.{Plan, refuse}
use Rattle.bench_base.specs.Replies.{on_after, tells_power, tells_fault, has_read, MayGet}
use Rattle.bench_base.specs.Rules.{todays_rules}
use Rattle.bench_base.specs.Ledger.{Ledger}
use Rattle.nv_model.specs.declared.nv.Nv as nv
use Rattle.node_acts.specs.Kinds.{view_in}
use Rattle.node_acts.specs.Plans.{after}
use Rattle.node_acts.specs.Views.{View}
use Rattle.node_storage.specs.declared.node.Node.{Ghosts}
use Rattle.node_storage.specs.Stands as node
use Rattle.node_turns.specs.Adds.{Adds}
use Rattle.node_turns.specs.NodeTurns.{Switches}
use Rattle.node_turns.specs.Turns.{turn_of, in_order}
use Rattle.ledger_moves.specs.Moves.{plan}
use Rattle.host_rates.specs.Laws.{KeptPrices}
use Rattle.bench_abstraction.specs.declared.routing.Routed.TheVariants as route
use Rattle.bench_abstraction.specs.declared.routing.OfDay.{OfDay}
use Rattle.bench_abstraction.specs.declared.routing.OfDay.TheVariants as of_day
use Rattle.bench_abstraction.specs.Follows.{OthersAreQuiet, quiet_by}
use Rattle.bench_abstraction.specs.Tariff.{quote}
use Rattle.bench_abstraction.specs.Routing.{routed, as_given}
use Rattle.bench_abstraction.proofs.Events.{same_work}
use Rattle.bench_abstraction.proofs.Quiet.{IsQuietAs, quiet_is, plan_day, plan_end, plan_none}
use Rattle.bench.specs.Benches.{Nodes, OfState, Of, IsReady, Stands, BenchOf}
use Rattle.bench.specs.Outside.{Outside, ReadsRates}
use Rattle.bench.specs.Steps.{Steps, DoesAsked, ComparesViews}
use Rattle.bench.proofs.EachKind.{all_rest, of_all, of_with}
use Rattle.bench.proofs.Events.{given_alike}
use Rattle.bench.proofs.Making.{get_some}
use Rattle.bench_abstraction.proofs.RatesPlans.{taken_by}
use Rattle.bench.proofs.Quiet.{SwitchesIs, asking, quiet}
use Rattle.bench.proofs.Unprinted.{IsUnprinted}

-- == days ==

-- an event that needs a day sets none
pub not_day : (e : Event) → needs_day e ≡ true → (t : ℤ) → e ≢ ev.Day t
not_day e needs t is = absurd (true≢false (sym needs ∙ ap needs_day is))

pub not_end : (e : Event) → needs_day e ≡ true → e ≢ ev.End
not_end e needs is = absurd (true≢false (sym needs ∙ ap needs_day is))

pub leaves_day : (e : Event) → needs_day e ≡ true → (o : Option ℤ) → o ≡ day_after e o
leaves_day (ev.Day t) needs o = absurd (not_day (ev.Day t) needs t refl)
leaves_day _ needs o = refl

pub no_some : {X P : Type 0} (x : X) → ◌≡◌ {A = Option X} None (Some x) → P
no_some x is = cc

is_none : (o : Option ℤ) → IsSome o → o ≡ None → ⊥
is_none None some same = cc
is_none (Some t) some same = cc

-- a node that represents a ledger represents it on another day
pub again : {K S N X R : Type 0} (n : Ghosts K S N X R) (g : nv.Ghosts S) (d : N) (v : View n.Seen) (s : K) (w : View n.Seen) → w.state ≡ v.state → w.next ≡ v.next → w.on ≡ v.on
    → node.Stands n g d v s → node.Stands n g d w s
again n g d v s w state next on stands = let same : w ≡ v = λ k. record { state = state k; next = next k; on = on k } in subst (λ (u : View n.Seen). node.Stands n g d u s) (sym same) stands

-- nothing is read of the rates but by a `rates` on a day
reads_nothing : (e : Event) (reply : Reply) (today : Option ℤ) (kept : Option _) (out : Outside) → (e ≡ ev.Rates → IsSome today → ⊥) → ReadsRates e [] (turn_of reply []) today kept kept out.rates out.rates
reads_nothing e reply today kept out not = record {
  reads = λ is some. absurd (not is some);
  no_day = λ none. record { nothing = refl; keeps = refl; rests = refl };
  others = λ other. record { nothing = refl; keeps = refl; rests = refl };
  later = omega arith;
}

-- a reply that reports neither a failure nor anything of the printer
pub record Answers (x : Event) (reply : Reply) : Type 0 where
  pub gets : MayGet x reply
  pub says : Adds x reply (in_order [])
  pub power : (i : Node) → tells_power i reply ≡ false
  pub fault : (i : Node) → tells_fault i reply ≡ false
  pub not_read : has_read reply ≡ false
  pub adds : (H : Ledger) → after (refuse reply) reply H ≡ H
  pub dated : reply ≢ r.NoDay
  pub prints : IsUnprinted reply

module _ (n : Nodes) (old : BenchOf n) (ready : IsReady old) (out : Outside) where
  abbrev StandsIs : Ledger → OfState n.Storage
  StandsIs L o i d s = node.Stands o.ghosts n.storage d (view_in i (o.kind.seen d) L) s

  pub steps_day : (t : ℤ) → IsWholeEvent (ev.Day t) → Steps n (ev.Day t) [] (turn_of (r.Day t) (entry.Day t ∷ [])) old (record old { day = Some t }) out out
  steps_day t whole = quiet n (ev.Day t) (ev.Day t) [] (r.Day t) (entry.Day t ∷ []) old (record old { day = Some t }) out out
      (record { devices = refl; centre = refl; host = refl; verifier = refl }) refl ready whole
      (record {
        given = refl;
        power = λ i. refl;
        fault = λ i. refl;
        gets = refl;
        says = refl;
        day = λ needs. absurd (true≢false (sym needs));
        dated = refl;
        dates = λ u is. ap (λ (x : ℤ). turn_of (r.Day x) (entry.Day x ∷ [])) (cc);
        ends = λ is. cc;
        compares = λ i is. let wrong : ⊥ = cc in absurd wrong;
        message = λ k is. cc;
        unsent = refl;
        unmade = refl;
        untouched = λ calls. absurd (true≢false (sym calls.0));
        refused = λ is. absurd (true≢false (sym is));
        switches = of_all n (SwitchesIs n (ev.Day t) (ev.Day t) [] (r.Day t) (entry.Day t ∷ []) old (record old { day = Some t }) out out) old (λ o i d s some is. no_some i is);
        unarmed = λ some m calls keep byte is. cc;
        rates = record {
          reads = λ is. cc;
          no_day = λ none. record { nothing = refl; keeps = refl; rests = refl };
          others = λ other. record { nothing = refl; keeps = refl; rests = refl };
          later = omega arith;
        };
        printer = refl;
        prints = record { whole = λ j is. cc; cut = λ j is. cc };
      })
      (λ τ L texts history stands tells. record {
        moves = (whole, inl (ap (λ (p : Plan). p.reply) (sym (plan_day τ L t []))));
        silent = ap (λ (p : Plan). p.commit) (plan_day τ L t []);
        adds = λ K. ap (λ (p : Plan). after p (r.Day t) K) (plan_day τ L t []);
        stands = record {
          day = record { day = refl; rates = stands.day.rates; messages = stands.day.messages };
          nodes = λ m. of_with n (StandsIs L) (StandsIs (entry.Day t ∷ L)) old
              (λ o i d s st. again o.ghosts n.storage d (view_in i (o.kind.seen d) L) s (view_in i (o.kind.seen d) (entry.Day t ∷ L)) refl refl refl st) m (stands.nodes m);
        };
        still = λ k. refl;
      })
      (λ tells. record { does = λ today y day is. let wrong : Some (route.Day t) ≡ Some (route.OfDay y) = is in cc; not_read = refl })

  pub steps_end : IsWholeEvent ev.End → Steps n ev.End [] (turn_of r.End []) old old out out
  steps_end whole = quiet n ev.End ev.End [] r.End [] old old out out (all_rest old) refl ready whole
      (record {
        given = refl;
        power = λ i. refl;
        fault = λ i. refl;
        gets = refl;
        says = (None, λ none. refl, refl);
        day = λ needs. absurd (true≢false (sym needs));
        dated = refl;
        dates = λ u is. cc;
        ends = λ is. (refl, refl);
        compares = λ i is. let wrong : ⊥ = cc in absurd wrong;
        message = λ k is. cc;
        unsent = refl;
        unmade = refl;
        untouched = λ calls. absurd (true≢false (sym calls.0));
        refused = λ is. absurd (true≢false (sym is));
        switches = of_all n (SwitchesIs n ev.End ev.End [] r.End [] old old out out) old (λ o i d s some is. no_some i is);
        unarmed = λ some m calls keep byte is. cc;
        rates = reads_nothing ev.End r.End old.day old.rates out (λ is. cc);
        printer = refl;
        prints = record { whole = λ j is. cc; cut = λ j is. cc };
      })
      (λ τ L texts history stands tells. record {
        moves = (whole, inl (ap (λ (p : Plan). p.reply) (sym (plan_end τ L []))));
        silent = ap (λ (p : Plan). p.commit) (plan_end τ L []);
        adds = λ K. ap (λ (p : Plan). after p r.End K) (plan_end τ L []);
        stands = stands;
        still = λ k. refl;
      })
      (λ tells. record { does = λ today y day is. let wrong : Some route.End ≡ Some (route.OfDay y) = is in cc; not_read = refl })

  pub steps_none : (e : Event) → IsWholeEvent e → needs_day e ≡ true → old.day ≡ None → Steps n e [] (turn_of r.NoDay []) old old out out
  steps_none e whole needs none = quiet n e (as_given old.messages e) [] r.NoDay [] old old out out (all_rest old) refl ready whole
      (record {
        given = refl;
        power = λ i. refl;
        fault = λ i. refl;
        gets = sym (given_alike old.messages e).day ∙ needs;
        says = refl;
        day = λ dated. (λ same. none, λ same. refl);
        dated = leaves_day e needs old.day;
        dates = λ u is. absurd (not_day e needs u is);
        ends = λ is. absurd (not_end e needs is);
        compares = λ i is. (refl, refl, λ some. absurd (is_none old.day some none));
        message = λ k is some. absurd (is_none old.day some none);
        unsent = refl;
        unmade = refl;
        untouched = λ calls. refl;
        refused = λ is. (refl, refl);
        switches = of_all n (SwitchesIs n e (as_given old.messages e) [] r.NoDay [] old old out out) old (λ o i d s some. absurd (is_none old.day some none));
        unarmed = λ some m calls keep byte is. is_none old.day some none;
        rates = reads_nothing e r.NoDay old.day old.rates out (λ is some. is_none old.day some none);
        printer = refl;
        prints = record { whole = λ j is. cc; cut = λ j is. cc };
      })
      (λ τ L texts history stands tells.
      let is = plan_none τ L e [] needs (sym none ∙ stands.day.day) in
      record {
        moves = (whole, inl (ap (λ (p : Plan). p.reply) (sym is)));
        silent = ap (λ (p : Plan). p.commit) is;
        adds = λ K. ap (λ (p : Plan). after p r.NoDay K) is;
        stands = stands;
        still = λ k. refl;
      })
      (λ tells. record { does = λ today y day. no_some today (sym none ∙ day); not_read = refl })

  -- == on a day, by what is seen ==

  module _ (today : ℤ) (day_is : old.day ≡ Some today) (IsKnown : n.centre.Seen → Type 0) (knows : (s : n.centre.Seen) → n.centre.IsSound tt s → IsKnown s) (law : OthersAreQuiet n.kinds IsKnown) (prices : KeptPrices) where
    module _ (e : Event) (x : OfDay) (reply : Reply) (whole : IsWholeEvent e) (needs : needs_day e ≡ true) (taken_is : routed old.messages (quote old.rates) e ≡ Some (route.OfDay x)) (given : as_given old.messages e ≡ e)
        (answers : Answers e reply) where
      pub record OnDay : Type 0 where
        pub shown : (L : Ledger) → Stands n old L → n.storage.tells → quiet_by n.kinds L x ≡ Some reply
        pub does : n.storage.tells → DoesAsked n today (turn_of reply []) old old out out x
        pub message : (k : ℕ) → x ≡ of_day.NoMessage k → reply ≡ r.NoMessage k
        pub switches : (m : Node) → Of n (SwitchesIs n e e [] reply [] old old out out) old m
        pub unarmed : (m : Node) (calls keep byte : ℕ) → e ≡ ev.Cut m calls keep byte → ⊥
        pub not_rates : e ≢ ev.Rates
        pub finds : (d : ℕ) → e ≡ ev.Reconcile d → (i : ℕ) (s : n.Devices) → d ≡ i + 1 → slice_get old.devices i ≡ Some s
            → (reply ≡ r.OffNode Centre) ↔ ((n.devices.is_on s ≡ true) × (n.centre.is_on old.centre ≡ false))

      steps_on : OnDay → Steps n e [] (turn_of reply []) old old out out
      steps_on on = quiet n e e [] reply [] old old out out (all_rest old) refl ready whole
          (record {
            given = given;
            power = answers.power;
            fault = answers.fault;
            gets = answers.gets;
            says = answers.says;
            day = λ dated. (λ is. absurd (answers.dated is), λ none. no_some today (sym none ∙ day_is));
            dated = leaves_day e needs old.day;
            dates = λ u is. absurd (not_day e needs u is);
            ends = λ is. absurd (not_end e needs is);
            compares = λ i is. (refl, refl, λ some. on.finds i is);
            message = λ k is some. on.message k (same_work (sym taken_is ∙ is));
            unsent = refl;
            unmade = refl;
            untouched = λ calls. refl;
            refused = λ is. (refl, refl);
            switches = on.switches;
            unarmed = λ some. on.unarmed;
            rates = reads_nothing e reply old.day old.rates out (λ is some. on.not_rates is);
            printer = refl;
            prints = answers.prints;
          })
          (λ τ L texts history stands tells.
          let is : plan τ todays_rules L e [] ≡ refuse reply = law τ L e today x reply history (sym stands.day.day ∙ day_is)
          (taken_by τ prices texts L old.messages old.rates e (route.OfDay x) stands.day.messages stands.day.rates taken_is) (knows _ ((stands.nodes Centre).store.sound tells).state) (on.shown L stands tells) in
          record {
            moves = (whole, inl (ap (λ (p : Plan). p.reply) (sym is)));
            silent = ap (λ (p : Plan). p.commit) is;
            adds = λ K. ap (λ (p : Plan). after p reply K) is ∙ answers.adds K;
            stands = stands;
            still = λ k. refl;
          })
          (λ tells. asking _ _ _ _ _ _ _ _ _ _ x taken_is (λ u day. subst (λ (t : ℤ). DoesAsked n t (turn_of reply []) old old out out x) (same_Some _ _ (sym day_is ∙ day)) (on.does tells)) answers.not_read)

    module _ (e : Event) (whole : IsWholeEvent e) where
      pub steps_missing : (k : ℕ) → routed old.messages (quote old.rates) e ≡ Some (route.OfDay (of_day.NoMessage k)) → Steps n e [] (turn_of (r.NoMessage k) []) old old out out
      steps_missing k is = ⊎_elim
          (λ (at : e ≡ ev.Deliver k). steps (ap needs_day at) (inl at) (λ m calls keep byte same. let wrong : ev.Deliver k ≡ ev.Cut m calls keep byte = sym at ∙ same in cc)
          (λ same. let wrong : ev.Deliver k ≡ ev.Rates = sym at ∙ same in cc) (λ d same. let wrong : ev.Deliver k ≡ ev.Reconcile d = sym at ∙ same in cc))
          (λ (at : (scan : ℕ) × (e ≡ ev.ScanMsg scan k)). steps (ap needs_day at.1) (inr at) (λ m calls keep byte same. let wrong : ev.ScanMsg at.0 k ≡ ev.Cut m calls keep byte = sym at.1 ∙ same in cc)
          (λ same. let wrong : ev.ScanMsg at.0 k ≡ ev.Rates = sym at.1 ∙ same in cc) (λ d same. let wrong : ev.ScanMsg at.0 k ≡ ev.Reconcile d = sym at.1 ∙ same in cc))
          found.1
        where
          found : IsQuietAs old.messages e (route.OfDay (of_day.NoMessage k))
          found = quiet_is old.messages (quote old.rates) e (route.OfDay (of_day.NoMessage k)) is tt

          steps : needs_day e ≡ true → MayGet e (r.NoMessage k) → ((m : Node) (calls keep byte : ℕ) → e ≡ ev.Cut m calls keep byte → ⊥) → e ≢ ev.Rates → ((d : ℕ) → e ≢ ev.Reconcile d)
              → Steps n e [] (turn_of (r.NoMessage k) []) old old out out
          steps needs gets unarmed not_rates not_compare = steps_on e (of_day.NoMessage k) (r.NoMessage k) whole needs is found.0
              (record {
                gets = gets;
                says = refl;
                power = λ i. refl;
                fault = λ i. refl;
                not_read = refl;
                adds = λ H. refl;
                dated = λ same. cc;
                prints = record { whole = λ j same. cc; cut = λ j same. cc };
              })
              (record {
                shown = λ L stands tells. refl;
                does = λ tells. tt;
                message = λ j same. ap (λ (i : ℕ). r.NoMessage i) (cc);
                switches = of_all n (SwitchesIs n e e [] (r.NoMessage k) [] old old out out) old (λ o i d s some at there. absurd (there k refl));
                unarmed = unarmed;
                not_rates = not_rates;
                finds = λ d same. absurd (not_compare d same);
              })

      pub steps_compared : (d : ℕ) (reply : Reply) → routed old.messages (quote old.rates) e ≡ Some (route.OfDay (of_day.Reconcile d)) → Answers (ev.Reconcile d) reply → ((was : Bool) → was ≡ on_after reply was)
          → ((i : ℕ) (s : n.Devices) → d ≡ i + 1 → slice_get old.devices i ≡ Some s → (reply ≡ r.OffNode (Device d)) ↔ (n.devices.is_on s ≡ false))
          → ((i : ℕ) (s : n.Devices) → d ≡ i + 1 → slice_get old.devices i ≡ Some s → (reply ≡ r.OffNode Centre) ↔ ((n.devices.is_on s ≡ true) × (n.centre.is_on old.centre ≡ false)))
          → ((i : ℕ) (s : n.Devices) → d ≡ i + 1 → slice_get old.devices i ≡ Some s → ComparesViews n d reply old.centre s) → Steps n e [] (turn_of reply []) old old out out
      steps_compared d reply is answers leaves off finds compares =
          let found : e ≡ ev.Reconcile d = quiet_is old.messages (quote old.rates) e (route.OfDay (of_day.Reconcile d)) is tt in
          let own = subst IsWholeEvent found whole in
          let s = get_some old.devices (d - 1) (omega (arith, own.0, own.1, ready.eight)) in
          let at : d ≡ d - 1 + 1 = omega (arith, own.0) in
          subst (λ (x : Event). Steps n x [] (turn_of reply []) old old out out) (sym found)
          (steps_on (ev.Reconcile d) (of_day.Reconcile d) reply own refl refl refl answers (record {
            shown = λ L stands tells. ap (λ x. Some x) (sym (compares (d - 1) s.0 at s.1 (view_in (Device d) (n.kinds.devices.seen d) L) (view_in Centre (n.kinds.centre.seen tt) L)
                (stands.nodes (Device d) (d - 1) s.0 at s.1) (stands.nodes Centre) tells));
            does = λ tells. compares;
            message = λ j same. cc;
            switches = λ m. switches_at m;
            unarmed = λ m calls keep byte same. cc;
            not_rates = λ same. cc;
            finds = λ u same i s at there. let one : d ≡ u = cc in finds i s (one ∙ at) there;
          }))
        where
          switches_at : (m : Node) → Of n (SwitchesIs n (ev.Reconcile d) (ev.Reconcile d) [] reply [] old old out out) old m
          switches_at (Device k) = λ i u next was some at there. switches_of k i u (let one : Some (Device d) ≡ Some (Device k) = at in cc) next was
            where
              switches_of : (k i : ℕ) (u : n.Devices) → d ≡ k → k ≡ i + 1 → slice_get old.devices i ≡ Some u → Switches (Device k) (ev.Reconcile d) reply (n.devices.is_on u) (n.devices.is_on u)
              switches_of k i u same next was = record {
                off = λ on. subst (λ (j : ℕ). (reply ≡ r.OffNode (Device j)) ↔ (n.devices.is_on u ≡ false)) same (off i u (same ∙ next) was);
                already = λ is. cc;
                leaves = leaves (n.devices.is_on u);
              }
          switches_at Centre = λ some at there. let wrong : Some (Device d) ≡ Some Centre = at in cc
          switches_at Host = λ some at there. let wrong : Some (Device d) ≡ Some Host = at in cc
          switches_at Verifier = λ some at there. let wrong : Some (Device d) ≡ Some Verifier = at in cc
