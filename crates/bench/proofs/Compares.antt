-- What the bench answers where it compares a device with the centre.
use Rattle.std.proofs.Common.{◌≡◌, inl, inr, ℕ, ◌+◌, Option, Some, None, Bool, true, false, ◌↔◌, refl, sym, ◌∙◌, ap, true≢false, if◌then◌else◌}
use Rattle.bench_base.specs.declared.{words.Kind.Kind, words.Node.TheVariants.Device, words.Node.TheVariants.Centre, refusals.CentreRefusal.CentreRefusal, refusals.DevRefusal.TheVariants.Blank, events.Reply.Reply}
use Rattle.bench_base.specs.declared.events.Event.TheVariants as ev
use Rattle.bench_base.specs.declared.events.Reply.TheVariants as r
use Rattle.bench_base.specs.Replies.{on_after}
use Rattle.node_acts.specs.declared.act.Act.TheVariants.{Refuse, Tell, Commits}
use Rattle.node_acts.specs.Views.{View}
use Rattle.psd_state.specs.State.{State}
use Rattle.psd_state.specs.Seen as device
use Rattle.centre_ledger.specs.Acts.{CentreAct, standing_act}
use Rattle.centre_ledger.specs.Seen as centre
use Rattle.centre_ledger.specs.Seen.{books_in}
use Rattle.centre_ledger.specs.declared.standing.Standing.{Standing}
use Rattle.bench_abstraction.specs.Comparing.{stood, compared, compare}
use Rattle.bench.proofs.Answered.{Answers}

each_stood : (P : Reply → Type 0) (d held : ℕ) → ((x : CentreRefusal) → P (r.CentreRefused x)) → ((a b : ℕ) (c : Option (Kind × ℕ)) → P (r.Reconciled d a b c)) → (act : CentreAct Standing) → P (stood d held act)
each_stood P d held refused fine (Refuse x) = refused x
each_stood P d held refused fine (Tell a) = fine held a.centre a.in_flight
each_stood P d held refused fine (Commits c x a) = fine held a.centre a.in_flight

each_compared : (P : Reply → Type 0) (d : ℕ) → P (r.DevRefused d Blank) → ((x : CentreRefusal) → P (r.CentreRefused x)) → ((a b : ℕ) (c : Option (Kind × ℕ)) → P (r.Reconciled d a b c)) → (o : Option State) (act : CentreAct Standing)
    → P (compared d o act)
each_compared P d blank refused fine None act = blank
each_compared P d blank refused fine (Some s) act = each_stood P d (s.registers.ascending + s.registers.descending) refused fine act

module _ (d : ℕ) (v : View device.Seen) (w : View centre.Seen) where
  abbrev shown : Reply
  shown = compared d v.state.state (standing_act d (books_in w.state))

  pub compare_answers : Answers (ev.Reconcile d) (compare d v w)
  compare_answers = by v.on w.on
    where
      by : (a b : Bool) → Answers (ev.Reconcile d) (if a then (if b then shown else r.OffNode Centre) else r.OffNode (Device d))
      by false b = record { gets = inl (refl, refl); says = refl; power = λ i. refl; fault = λ i. refl; not_read = refl; adds = λ H. refl; dated = λ e. cc; prints = record { whole = λ j is. cc; cut = λ j is. cc } }
      by true false = record { gets = inr (refl, (d, refl)); says = refl; power = λ i. refl; fault = λ i. refl; not_read = refl; adds = λ H. refl; dated = λ e. cc; prints = record { whole = λ j is. cc; cut = λ j is. cc } }
      by true true = each_compared (λ x. Answers (ev.Reconcile d) x) d
          (record { gets = record { on = refl; at = refl; no_switch = λ e. cc }; says = refl; power = λ i. refl; fault = λ i. refl; not_read = refl; adds = λ H. refl; dated = λ e. cc; prints = record { whole = λ j is. cc; cut = λ j is. cc } })
          (λ x. record { gets = inr (d, refl); says = refl; power = λ i. refl; fault = λ i. refl; not_read = refl; adds = λ H. refl; dated = λ e. cc; prints = record { whole = λ j is. cc; cut = λ j is. cc } })
          (λ a b c. record { gets = refl; says = (None, λ none. refl, refl); power = λ i. refl; fault = λ i. refl; not_read = refl; adds = λ H. refl; dated = λ e. cc; prints = record { whole = λ j is. cc; cut = λ j is. cc } }) v.state.state (standing_act d (books_in w.state))

  pub compare_off : (compare d v w ≡ r.OffNode (Device d)) ↔ (v.on ≡ false)
  compare_off = by v.on w.on
    where
      by : (a b : Bool) → ((if a then (if b then shown else r.OffNode Centre) else r.OffNode (Device d)) ≡ r.OffNode (Device d)) ↔ (a ≡ false)
      by false b = (λ is. refl, λ is. refl)
      by true false = (λ is. cc, λ is. absurd (true≢false is))
      by true true = (
        λ is. absurd (each_compared (λ x. x ≡ r.OffNode (Device d) → ⊥) d (λ e. cc) (λ x e. cc) (λ a b c e. cc) v.state.state (standing_act d (books_in w.state)) is),
        λ is. absurd (true≢false is),
      )

  pub compare_off_centre : (compare d v w ≡ r.OffNode Centre) ↔ ((v.on ≡ true) × (w.on ≡ false))
  compare_off_centre = by v.on w.on
    where
      by : (a b : Bool) → ((if a then (if b then shown else r.OffNode Centre) else r.OffNode (Device d)) ≡ r.OffNode Centre) ↔ ((a ≡ true) × (b ≡ false))
      by false b = (λ is. cc, λ is. absurd (true≢false (sym is.0)))
      by true false = (λ is. (refl, refl), λ is. refl)
      by true true = (
        λ is. absurd (each_compared (λ x. x ≡ r.OffNode Centre → ⊥) d (λ e. cc) (λ x e. cc) (λ a b c e. cc) v.state.state (standing_act d (books_in w.state)) is),
        λ is. absurd (true≢false is.1),
      )

  pub compare_leaves : (was : Bool) → was ≡ on_after (compare d v w) was
  compare_leaves was = by v.on w.on
    where
      by : (a b : Bool) → was ≡ on_after (if a then (if b then shown else r.OffNode Centre) else r.OffNode (Device d)) was
      by false b = refl
      by true false = refl
      by true true = each_compared (λ x. was ≡ on_after x was) d refl (λ x. refl) (λ a b c. refl) v.state.state (standing_act d (books_in w.state))

-- what is seen of a node that is off doesn't count
pub compare_same : (d : ℕ) (v v' : View device.Seen) (w w' : View centre.Seen) → v.on ≡ v'.on → w.on ≡ w'.on → (v'.on ≡ true → v.state ≡ v'.state) → (w'.on ≡ true → w.state ≡ w'.state)
    → compare d v w ≡ compare d v' w'
compare_same d v v' w w' on on' state state' =
    ap (λ (a : Bool). if a then (if w.on then shown d v w else r.OffNode Centre) else r.OffNode (Device d)) on
    ∙ ap (λ (b : Bool). if v'.on then (if b then shown d v w else r.OffNode Centre) else r.OffNode (Device d)) on'
    ∙ by v'.on w'.on state state'
  where
    by : (a b : Bool) → (a ≡ true → v.state ≡ v'.state) → (b ≡ true → w.state ≡ w'.state)
        → (if a then (if b then shown d v w else r.OffNode Centre) else r.OffNode (Device d)) ≡ (if a then (if b then shown d v' w' else r.OffNode Centre) else r.OffNode (Device d))
    by false b same same' = refl
    by true false same same' = refl
    by true true same same' =
        ap (λ (s : device.Seen). compared d s.state (standing_act d (books_in w.state))) (same refl) ∙ ap (λ (s : centre.Seen). compared d v'.state.state (standing_act d (books_in s))) (same' refl)
