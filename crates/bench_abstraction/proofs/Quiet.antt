-- Events of no node: which they are, what the ledger plans for them, and that they are answered by what is seen of the nodes.
use Rattle.std.proofs.Common.{◌≡◌, inl, inr, ◌⊎◌, ℕ, ℤ, List, [], ◌∷◌, Some, None, true, refl, sym, ◌+◌, Option, Bool, false, ◌∙◌, ap}
use Rattle.std.specs.Prelude.{if◌then◌else◌}
use Rattle.std.proofs.lemmas.Option.{none-some, same_Some}
use Rattle.bench_base.specs.declared.{events.Event.Event, words.Node.Node, words.Node.TheVariants.Device, words.Node.TheVariants.Centre, ledger.Commit.Commit, events.Reply.Reply}
use Rattle.bench_base.specs.Events.{needs_day}
use Rattle.bench_base.specs.Plans.{refuse, told, Plan}
use Rattle.bench_base.specs.Rules.{todays_rules}
use Rattle.bench_base.specs.Ledger.{Ledger, day_in, is_on, counted}
use Rattle.bench_base.specs.declared.ledger.Entry.TheVariants as entry
use Rattle.bench_base.specs.declared.events.Event.TheVariants as ev
use Rattle.bench_base.specs.declared.events.Reply.TheVariants as r
use Rattle.node_acts.specs.Said.{said_plan}
use Rattle.ledger_terms.specs.Sums.{ascending, descending}
use Rattle.ledger_terms.specs.Devices.{key_of}
use Rattle.ledger_moves.specs.Tariffs.{Tariff}
use Rattle.ledger_moves.specs.Moves.{plan, at_node, reconcile_plan}
use Rattle.ledger_moves.specs.Devices.{record_with}
use Rattle.centre_ledger.specs.Acts.{CentreAct, LookUps, in_books, stood_act, stand_by, standing_act}
use Rattle.centre_ledger.specs.Plans.{says, told_standing, in_commits}
use Rattle.centre_ledger.specs.Seen.{books_in}
use Rattle.centre_ledger.specs.declared.standing.Standing.{Standing}
use Rattle.bench_abstraction.specs.declared.{routing.Routed.Routed, routing.OfDay.OfDay}
use Rattle.bench_abstraction.specs.Tariff.{Quote}
use Rattle.bench_abstraction.specs.Routing.{routed, as_given}
use Rattle.bench_abstraction.proofs.Events.{each_quiet, IsOfNone}
use Rattle.bench_abstraction.specs.Comparing.{stood, compared, compare}
use Rattle.bench_abstraction.specs.Follows.{quiet_by}
use Rattle.bench_abstraction.specs.Kinds.{bench_kinds}
use Rattle.bench_abstraction.specs.Messages.{sent_in}
use Rattle.bench_abstraction.proofs.Sent.{sent_at}
use Rattle.bench_abstraction.proofs.Shown.{device_view, centre_view}
use Rattle.bench_abstraction.specs.declared.routing.Routed.TheVariants as route
use Rattle.bench_abstraction.specs.declared.routing.OfDay.TheVariants as of_day

-- == which they are ==

abbrev pub IsQuietAs : List (List ℕ) → Event → Routed → Type 0
IsQuietAs pool e (route.Day t) = e ≡ ev.Day t
IsQuietAs pool e route.End = e ≡ ev.End
IsQuietAs pool e (route.OfDay of_day.Rates) = e ≡ ev.Rates
IsQuietAs pool e (route.OfDay (of_day.NoMessage k)) = (as_given pool e ≡ e) × ((e ≡ ev.Deliver k) ⊎ ((scan : ℕ) × (e ≡ ev.ScanMsg scan k)))
IsQuietAs pool e (route.OfDay (of_day.Reconcile d)) = e ≡ ev.Reconcile d
IsQuietAs pool e (route.OfDay (of_day.Device d asked)) = Unit {0}
IsQuietAs pool e (route.OfDay (of_day.Centre asked)) = Unit {0}
IsQuietAs pool e (route.OfDay (of_day.Host asked)) = Unit {0}
IsQuietAs pool e (route.OfDay (of_day.Verifier asked)) = Unit {0}

pub quiet_is : (pool : List (List ℕ)) (q : Quote) (e : Event) (x : Routed) → routed pool q e ≡ Some x → IsOfNone pool q x → IsQuietAs pool e x
quiet_is pool q e x is of = each_quiet pool q (IsQuietAs pool) (record {
  day = λ t. refl;
  end = refl;
  rates = refl;
  reconcile = λ d. refl;
  deliver = λ k none. (rw none refl, inl refl);
  scan = λ j k none. (rw none refl, inr (j, refl));
}) e x is of

-- == what the ledger plans for those that the bench answers alone, and for any without a day ==

pub plan_day : (τ : Tariff) (H : Ledger) (t : ℤ) (text : List ℕ) → plan τ todays_rules H (ev.Day t) text ≡ told (r.Day t) (entry.Day t ∷ [])
unfolding plan
plan_day τ H t text = refl

pub plan_end : (τ : Tariff) (H : Ledger) (text : List ℕ) → plan τ todays_rules H ev.End text ≡ refuse r.End
unfolding plan
plan_end τ H text = refl

pub plan_none : (τ : Tariff) (H : Ledger) (e : Event) (text : List ℕ) → needs_day e ≡ true → None ≡ day_in H → plan τ todays_rules H e text ≡ refuse r.NoDay
unfolding plan
plan_none τ H e text needs none = rw (sym none, needs) refl

-- == answers by what is seen ==

module _ (H : Ledger) (same : in_books (books_in (centre_view H).state) ≡ in_commits (counted H)) where
  abbrev C : List Commit
  C = counted H

  abbrev Reply_of : OfDay → Option Reply
  Reply_of x = quiet_by bench_kinds H x

  abbrev IsAnswered : Reply → Routed → Type 0
  IsAnswered reply (route.Day t) = ⊥
  IsAnswered reply route.End = ⊥
  IsAnswered reply (route.OfDay x) = Reply_of x ≡ Some reply

  -- == comparing ==

  abbrev stands : ℕ → CentreAct Standing
  stands d = standing_act d (books_in (centre_view H).state)

  -- to say how a device stands commits nothing
  stood_refuses : (d held : ℕ) (o : Option Standing) → said_plan (says (told_standing d held) (stood_act d o)) ≡ refuse (stood d held (stood_act d o))
  stood_refuses d held None = refl
  stood_refuses d held (Some x) = refl

  compared_is : (d : ℕ) (o : Option (List ℕ)) → reconcile_plan d o C ≡ refuse (compared d (record_with d C o) (stands d))
  compared_is d None = refl
  compared_is d (Some key) =
      let total = ascending d C + descending d C in
      ap (λ (at : LookUps). said_plan (says (told_standing d total) (stand_by d at))) (sym same) ∙ stood_refuses d total ((in_books (books_in (centre_view H).state)).standing d)

  -- a reply that commits nothing, at a node
  at_quiet : (m : Node) (x : Reply) → at_node m H (refuse x) ≡ refuse (if is_on m H then x else r.OffNode m)
  at_quiet m x = by (is_on m H)
    where
      by : (on : Bool) → (if on then refuse x else refuse (r.OffNode m)) ≡ refuse (if on then x else r.OffNode m)
      by true = refl
      by false = refl

  compare_is : (d : ℕ) → at_node (Device d) H (at_node Centre H (reconcile_plan d (key_of d C) C)) ≡ refuse (compare d (device_view d H) (centre_view H))
  compare_is d =
      ap (λ (p : Plan). at_node (Device d) H (at_node Centre H p)) (compared_is d (key_of d C))
      ∙ ap (at_node (Device d) H) (at_quiet Centre (compared d (record_with d C (key_of d C)) (stands d)))
      ∙ at_quiet (Device d) (if is_on Centre H then compared d (record_with d C (key_of d C)) (stands d) else r.OffNode Centre)

  -- == each event ==

  pub planned_quiet : (τ : Tariff) (today : ℤ) (quote : Quote) → day_in H ≡ Some today → (e : Event) (x : OfDay) → routed (sent_in H) quote e ≡ Some (route.OfDay x) → (reply : Reply) → Reply_of x ≡ Some reply
      → plan τ todays_rules H e [] ≡ refuse reply
  unfolding plan
  planned_quiet τ today quote day e x is reply answers = each_quiet (sent_in H) quote (λ i y. IsAnswered reply y → plan τ todays_rules H i [] ≡ refuse reply) (record {
    day = λ t wrong. absurd wrong;
    end = λ wrong. absurd wrong;
    rates = λ answers. absurd (none-some _ answers);
    reconcile = λ d answers. rw day (compare_is d ∙ ap refuse (same_Some _ _ answers));
    deliver = λ k none answers. rw (day, sym (sent_at H k) ∙ none) (ap refuse (same_Some _ _ answers));
    scan = λ n k none answers. rw (day, sym (sent_at H k) ∙ none) (ap refuse (same_Some _ _ answers));
  }) e (route.OfDay x) is (of_none x answers) answers
    where
      of_none : (y : OfDay) → Reply_of y ≡ Some reply → IsOfNone (sent_in H) quote (route.OfDay y)
      of_none of_day.Rates same = tt
      of_none (of_day.NoMessage k) same = tt
      of_none (of_day.Reconcile d) same = tt
      of_none (of_day.Device d asked) same = absurd (none-some _ same)
      of_none (of_day.Centre asked) same = absurd (none-some _ same)
      of_none (of_day.Host asked) same = absurd (none-some _ same)
      of_none (of_day.Verifier asked) same = absurd (none-some _ same)
