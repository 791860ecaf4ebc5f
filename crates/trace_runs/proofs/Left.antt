-- What a stop leaves: what the auditor has then looks like every ledger that it may leave.
use Rattle.std.specs.Prelude.{nat_lt, ◌&&◌, not, is_some, if◌then◌else◌}
use Rattle.std.proofs.Common.{◌≡◌, inl, inr, ℕ, ℤ, ◌+◌, List, [], ◌∷◌, ◌++◌, length, take, Bool, true, false, Option, Some, None, Result, Ok, Err, true≢false, refl, sym, ◌∙◌, ap, subst}
use Rattle.std.proofs.lemmas.Option.{same_Some, none-some}
use Rattle.bench_base.specs.declared.{words.Node.Node, ledger.Commit.Commit, ledger.Commit.TheVariants.Made, ledger.Commit.TheVariants.Asked, ledger.Commit.TheVariants.Applied, ledger.Commit.TheVariants.Debited, ledger.Commit.TheVariants.Registered, ledger.Commit.TheVariants.Opened, ledger.Commit.TheVariants.Deposited, ledger.Commit.TheVariants.Flagged, ledger.Commit.TheVariants.Ruled, ledger.Commit.TheVariants.Settled, ledger.Commit.TheVariants.Ordered, ledger.Commit.TheVariants.Held, ledger.Commit.TheVariants.Began, ledger.Commit.TheVariants.Closed, ledger.Commit.TheVariants.Trusted, ledger.Commit.TheVariants.Accepted, events.Event.Event, events.Reply.Reply}
use Rattle.bench_base.specs.declared.ledger.Entry.TheVariants as entry
use Rattle.bench_base.specs.declared.events.Event.TheVariants as ev
use Rattle.bench_base.specs.declared.events.Reply.TheVariants as r
use Rattle.bench_base.specs.Events.{takes_rates, IsWholeEvent}
use Rattle.bench_base.specs.Ledger.{Ledger, day_in}
use Rattle.bench_base.specs.Nodes.{node_of}
use Rattle.bench_base.specs.Plans.{Plan, refuse}
use Rattle.bench_base.specs.Ranges.{IsNode, InRange}
use Rattle.bench_base.specs.Replies.{Did, class_of, fails_to_read}
use Rattle.bench_base.specs.Rules.{todays_rules, wide_rules, first_rules, editions}
use Rattle.bench_base.proofs.Rows.{chosen}
use Rattle.node_acts.specs.Plans.{after, with_commit, with_torn, Fails}
use Rattle.node_acts.specs.Plans as plans
use Rattle.ledger_terms.specs.Editions.{Editions}
use Rattle.ledger_moves.specs.Tariffs.{Tariff, TextFault, NoToml, NoForm}
use Rattle.ledger_moves.specs.Moves.{plan, answer, OtherUp, FailsToRead, reading_plan, rates_plan, on_day}
use Rattle.ledger_moves.specs.Histories.{History, Unforged, moves}
use Rattle.ledger_laws.proofs.Plans.{PlanOk}
use Rattle.ledger_laws.proofs.Histories.{plan_ok, histories, allows_same, carried_by}
use Rattle.scan_laws.proofs.Tells.{is_failure}
use Rattle.scan_laws.proofs.Plans.{plan_says, only_print}
use Rattle.script_text.specs.Texts.{text_of}
use Rattle.bench.specs.Steps.{with_open}
use Rattle.trace_bench.specs.Judging.{taken_by, text_with, ledger_with}
use Rattle.trace_bench.specs.Seeing.{Audit, Sees}
use Rattle.trace_bench.specs.Stopping.{MayBegin, MayFail, MayComeOn, IsInDoubt, unanswered, failed, either_up, Leaves, done, torn, rests}
use Rattle.trace_runs.specs.Between.{SeesBetween, LooksLike}
use Rattle.trace_runs.specs.Runs.{opened, StopLeaves, was_done, is_open}
use Rattle.trace_runs.proofs.Alike.{AreAlike, same, equal, back, printed, rates, looks, between}

-- the node of a commit in range is one of the nodes
node_in : (c : Commit) → InRange c → IsNode (node_of c)
node_in (Made d k) r = r.0
node_in (Asked d n x) r = r.0
node_in (Applied d n v) r = r.0
node_in (Debited d p a k t v) r = r.0
node_in (Registered d o k) r = tt
node_in (Opened c) r = tt
node_in (Deposited c n a) r = tt
node_in (Flagged c s) r = tt
node_in (Ruled d n v x) r = tt
node_in (Settled d n) r = tt
node_in (Ordered j d p a k) r = tt
node_in (Held j x) r = tt
node_in (Began j) r = tt
node_in (Closed j) r = tt
node_in (Trusted d k) r = tt
node_in (Accepted d p s) r = tt

-- the plan of a whole event is right at every history
pub right_plan : (τ : Tariff) (H : Ledger) (e : Event) (text : List ℕ) → Editions editions → History τ editions H → IsWholeEvent e → Unforged e H → PlanOk todays_rules H (plan τ todays_rules H e text)
right_plan τ H e text E history whole unforged =
    let carried = carried_by (wide_rules ∷ first_rules ∷ []) todays_rules E.0 in
    plan_ok τ todays_rules carried H (histories τ editions E H history todays_rules (carried, allows_same todays_rules)) e text whole unforged

-- a reply that reports no failure doesn't report that the rates can't be read
read_fine : (x : Reply) → is_failure x ≡ false → fails_to_read (class_of x) ≡ false
read_fine r.RatesFault wrong = absurd (true≢false wrong)
read_fine _ is = refl

-- the next count in the place of an `up`
abbrev one_more_up : Reply → Reply
one_more_up (r.Up m k) = r.Up m (k + 1)
one_more_up x = x

-- == what a `rates` leaves ==

-- it is no `up`, and what it leaves looks like what was before
record IsFleeting (H : Ledger) (p : Plan) : Type 0 where
  no_up : (m : Node) (k : ℕ) → p.reply ≡ r.Up m k → ⊥
  leaves : AreAlike (after p p.reply H) H

module _ (τ : Tariff) (H : Ledger) (text : List ℕ) where
  reading : (x : Result (ℕ × ℕ) TextFault) → IsFleeting H (reading_plan text x)
  reading (Err NoToml) = record { no_up = λ m k is. absurd (cc); leaves = same H }
  reading (Err NoForm) = record { no_up = λ m k is. absurd (cc); leaves = same H }
  reading (Ok x) = record { no_up = λ m k is. absurd (cc); leaves = rates text H }

  rates_fleet : IsFleeting H (rates_plan τ text)
  rates_fleet = chosen (IsFleeting H) (nat_lt 65536 (length text)) (refuse r.RatesLength) (reading_plan text (τ.reading text))
      (λ long. record { no_up = λ m k is. absurd (cc); leaves = same H }) (λ short. reading (τ.reading text))

  dated : (day : Option ℤ) → IsFleeting H (on_day (λ today. rates_plan τ text) day)
  dated None = record { no_up = λ m k is. absurd (cc); leaves = same H }
  dated (Some today) = rates_fleet

  fleeting : IsFleeting H (plan τ todays_rules H ev.Rates text)
  unfolding plan
  fleeting = dated (day_in H)

module _ (τ : Tariff) (H : Ledger) (e : Event) (left told : List ℕ) where
  abbrev text : Reply → List ℕ
  text reply = text_with τ H e left told reply

  -- what is taken where nothing fails, and the plan then
  abbrev T : List ℕ
  T = taken_by e (day_in H) Did left

  abbrev P : Plan
  P = plan τ todays_rules H e T

  abbrev L : Reply → Ledger
  L reply = ledger_with τ H e left told reply

  fine_text : (reply : Reply) → fails_to_read (class_of reply) ≡ false → text reply ≡ T
  fine_text reply fine = ap (λ (b : Bool). if takes_rates e && (is_some (day_in H) && not b) then take 65537 left else []) fine

  answers_fine : (t : List ℕ) → is_failure (answer τ todays_rules H e t) ≡ false
  answers_fine t = (plan_says H τ e t).unfailed

  -- no answer is a failure
  never : (x : Reply) (t : List ℕ) → is_failure x ≡ true → x ≡ answer τ todays_rules H e t → ⊥
  never x t fails is = true≢false (sym fails ∙ ap is_failure is ∙ answers_fine t)

  up_fine : (x : Reply) (m : Node) (k : ℕ) → x ≡ r.Up m k → fails_to_read (class_of x) ≡ false
  up_fine x m k is = ap (λ (y : Reply). fails_to_read (class_of y)) is

  -- == replies that are no failure of a node ==

  data Comes (x : Reply) : Type 0 where
    as_answer : x ≡ P.reply → Comes x
    as_up : OtherUp P.reply x H → Comes x
    as_cut_print : (j : ℕ) → P.reply ≡ r.Printed j → x ≡ r.PrinterFault j → Comes x
    as_unread : FailsToRead e x (day_in H) → Comes x

  come : (x : Reply) → MayBegin τ H e left told x → (IsInDoubt τ H e left told → ⊥) → Comes x
  come x may certain = elim may.moves.1 [
    | inl is ↦
        let fine = read_fine x (ap is_failure is ∙ answers_fine (text x)) in
        as_answer (is ∙ ap (λ (t : List ℕ). answer τ todays_rules H e t) (fine_text x fine))
    | inr (inl up) ↦
        let same_text = fine_text x (up_fine x up.node (up.count + 1) up.more) in
        as_up (subst (λ (t : List ℕ). OtherUp (answer τ todays_rules H e t) x H) same_text up)
    | inr (inr (inl fails)) ↦ failing x may fails
    | inr (inr (inr reads)) ↦ as_unread reads
  ]
    where
      failing : (y : Reply) → MayBegin τ H e left told y → Fails (plan τ todays_rules H e (text y)) y → Comes y
      failing (r.Power m) begun fails = absurd (certain (failed m (inl begun)))
      failing (r.Fault m) begun fails = absurd (certain (failed m (inr begun)))
      failing (r.PrinterFault j) begun fails = as_cut_print j fails refl
      failing _ begun fails = absurd fails

  -- == what they leave looks alike ==

  -- a mark that was printed, and one whose printing failed
  print_alike : (j : ℕ) → P.reply ≡ r.Printed j → AreAlike (L (r.Printed j)) (L (r.PrinterFault j))
  print_alike j is =
      let w = only_print H τ e T j is in
      subst (λ (l : Ledger). AreAlike (l ++ with_commit P.commit H) (with_commit P.commit H)) (sym w.1.1) (printed j w.1.0 (with_commit P.commit H))

  -- rates that were read, and rates that could not be read
  rates_alike : (x : Reply) → e ≡ ev.Rates → x ≡ P.reply → AreAlike (L x) (L r.RatesFault)
  rates_alike x event is =
      let fine = read_fine x (ap is_failure is ∙ answers_fine T) in
      let fleet : IsFleeting H P = subst (λ (f : Event). IsFleeting H (plan τ todays_rules H f T)) (sym event) (fleeting τ H T) in
      subst (λ (t : List ℕ). AreAlike (after (plan τ todays_rules H e t) x H) H) (sym (fine_text x fine))
      (subst (λ (y : Reply). AreAlike (after P y H) H) (sym is) fleet.leaves)

  same_reply : (x y : Reply) → x ≡ y → AreAlike (L x) (L y)
  same_reply x y is = equal (L x) (L y) (ap L is)

  module _ (certain : IsInDoubt τ H e left told → ⊥) where
    both_ups : (x y : Reply) → MayBegin τ H e left told x → MayBegin τ H e left told y → x ≡ P.reply → OtherUp P.reply y H → ⊥
    both_ups x y may may' is up = certain (either_up (
      up.node,
      up.count,
      subst (λ (z : Reply). MayBegin τ H e left told z) (is ∙ up.answer_is) may,
      subst (λ (z : Reply). MayBegin τ H e left told z) up.more may',
    ))

    up_unread : (y : Reply) (x : Reply) → OtherUp P.reply x H → FailsToRead e y (day_in H) → ⊥
    up_unread y x up reads =
        let fleet : IsFleeting H P = subst (λ (f : Event). IsFleeting H (plan τ todays_rules H f T)) (sym reads.event) (fleeting τ H T) in
        fleet.no_up up.node up.count up.answer_is

    print_unread : (j : ℕ) (y : Reply) → P.reply ≡ r.Printed j → FailsToRead e y (day_in H) → ⊥
    print_unread j y is reads = let wrong : ev.Rates ≡ ev.Print j = sym reads.event ∙ (only_print H τ e T j is).0 in absurd (cc)

    alike : (x y : Reply) → MayBegin τ H e left told x → MayBegin τ H e left told y → Comes x → Comes y → AreAlike (L x) (L y)
    alike x y may may' (as_answer a) (as_answer b) = same_reply x y (a ∙ sym b)
    alike x y may may' (as_answer a) (as_up up) = absurd (both_ups x y may may' a up)
    alike x y may may' (as_answer a) (as_cut_print j is b) =
        subst (λ (z : Reply). AreAlike (L z) (L y)) (sym (a ∙ is)) (subst (λ (z : Reply). AreAlike (L (r.Printed j)) (L z)) (sym b) (print_alike j is))
    alike x y may may' (as_answer a) (as_unread reads) = subst (λ (z : Reply). AreAlike (L x) (L z)) (sym reads.reply_is) (rates_alike x reads.event a)
    alike x y may may' (as_up up) (as_answer b) = absurd (both_ups y x may' may b up)
    alike x y may may' (as_up up) (as_up other) = same_reply x y (up.more ∙ ap one_more_up (sym up.answer_is ∙ other.answer_is) ∙ sym other.more)
    alike x y may may' (as_up up) (as_cut_print j is b) = let wrong : r.Up up.node up.count ≡ r.Printed j = sym up.answer_is ∙ is in absurd (cc)
    alike x y may may' (as_up up) (as_unread reads) = absurd (up_unread y x up reads)
    alike x y may may' (as_cut_print j is a) (as_answer b) =
        back (L y) (L x) (subst (λ (z : Reply). AreAlike (L z) (L x)) (sym (b ∙ is)) (subst (λ (z : Reply). AreAlike (L (r.Printed j)) (L z)) (sym a) (print_alike j is)))
    alike x y may may' (as_cut_print j is a) (as_up up) = let wrong : r.Up up.node up.count ≡ r.Printed j = sym up.answer_is ∙ is in absurd (cc)
    alike x y may may' (as_cut_print j is a) (as_cut_print i is' b) =
        let jobs : r.Printed j ≡ r.Printed i = sym is ∙ is' in
        same_reply x y (a ∙ ap (λ (n : ℕ). r.PrinterFault n) (cc) ∙ sym b)
    alike x y may may' (as_cut_print j is a) (as_unread reads) = absurd (print_unread j y is reads)
    alike x y may may' (as_unread reads) (as_answer b) = back (L y) (L x) (subst (λ (z : Reply). AreAlike (L y) (L z)) (sym reads.reply_is) (rates_alike y reads.event b))
    alike x y may may' (as_unread reads) (as_up up) = absurd (up_unread x y up reads)
    alike x y may may' (as_unread reads) (as_cut_print j is b) = absurd (print_unread j x is reads)
    alike x y may may' (as_unread reads) (as_unread other) = same_reply x y (reads.reply_is ∙ sym other.reply_is)

  -- == what a failure leaves ==

  module _ (ok : PlanOk todays_rules H P) where
    fails_own : (m : Node) (x : Reply) → plans.MayFail P m → (c : Commit) → P.commit ≡ Some c → node_of c ≡ m
    fails_own m x (inl up) c is = absurd (none-some _ (sym (ok.no_up m up.0 up.1) ∙ is))
    fails_own m x (inr made) c is = ap node_of (same_Some _ _ (sym is ∙ made.1)) ∙ made.2

    power_own : (m : Node) → MayBegin τ H e left told (r.Power m) → (c : Commit) → P.commit ≡ Some c → node_of c ≡ m
    power_own m may = elim may.moves.1 [
      | inl is ↦ absurd (never (r.Power m) (text (r.Power m)) refl is)
      | inr (inl up) ↦ let wrong : r.Power m ≡ r.Up up.node (up.count + 1) = up.more in absurd (cc)
      | inr (inr (inl fails)) ↦ fails_own m (r.Power m) fails
      | inr (inr (inr reads)) ↦ let wrong : r.Power m ≡ r.RatesFault = reads.reply_is in absurd (cc)
    ]

    fault_own : (m : Node) → MayBegin τ H e left told (r.Fault m) → (c : Commit) → P.commit ≡ Some c → node_of c ≡ m
    fault_own m may = elim may.moves.1 [
      | inl is ↦ absurd (never (r.Fault m) (text (r.Fault m)) refl is)
      | inr (inl up) ↦ let wrong : r.Fault m ≡ r.Up up.node (up.count + 1) = up.more in absurd (cc)
      | inr (inr (inl fails)) ↦ fails_own m (r.Fault m) fails
      | inr (inr (inr reads)) ↦ let wrong : r.Fault m ≡ r.RatesFault = reads.reply_is in absurd (cc)
    ]

    own : (m : Node) → MayFail τ H e left told m → (c : Commit) → P.commit ≡ Some c → node_of c ≡ m
    own m (inl power) = power_own m power
    own m (inr fault) = fault_own m fault

    -- the commit is open
    torn_opened : (m : Node) → MayFail τ H e left told m → L (r.Power m) ≡ opened τ H e left told
    torn_opened m fails = by P.commit refl
      where
        by : (o : Option Commit) → P.commit ≡ o → with_torn o m H ≡ with_open o H
        by None is = refl
        by (Some c) is = ap (λ (n : Node). entry.Torn n c ∷ H) (sym (own m fails c is))

    -- it has none, if it is in doubt and no node may have failed
    none_made : IsWholeEvent e → IsInDoubt τ H e left told → ((m : Node) → MayFail τ H e left told m → ⊥) → (c : Commit) → P.commit ≡ Some c → ⊥
    none_made whole (failed m fails) none c is = none m fails
    none_made whole (unanswered nothing) none c is =
        none (node_of c) (inl (record {
          moves = (whole, inr (inr (inl (inr (c, is, refl)))));
          whole = node_in c (ok.fit c is).range;
          begins = (text_of (r.Power (node_of c)), ap (λ (l : List ℕ). l ++ text_of (r.Power (node_of c))) (sym nothing));
        }))
    none_made whole (either_up ups) none c is = let up = up_is ups in none-some _ (sym (ok.no_up up.0 up.1 up.2) ∙ is)
      where
        up_is : MayComeOn τ H e left told → (m : Node) × (k : ℕ) × (P.reply ≡ r.Up m k)
        up_is (m, k, may, more) = elim may.moves.1 [
          | inl is ↦ (m, k, sym is)
          | inr (inl up) ↦ (up.node, up.count, up.answer_is)
          | inr (inr (inl fails)) ↦ absurd fails
          | inr (inr (inr reads)) ↦ let wrong : r.Up m k ≡ r.RatesFault = reads.reply_is in absurd (cc)
        ]

    rests_opened : IsWholeEvent e → IsInDoubt τ H e left told → ((m : Node) → MayFail τ H e left told m → ⊥) → H ≡ opened τ H e left told
    rests_opened whole doubt none = by P.commit refl
      where
        by : (o : Option Commit) → P.commit ≡ o → H ≡ with_open o H
        by None is = refl
        by (Some c) is = absurd (none_made whole doubt none c is)

    -- WHAT THE AUDITOR HAS AFTER A STOP looks like all that the stop may leave
    pub left_seen : (now : Audit) (K : Ledger) → IsWholeEvent e → Leaves τ H e left told now → StopLeaves τ H e left told K → SeesBetween now K
    left_seen now K whole (done x may certain sees) (was_done y may' certain' is) =
        record { ledger = L x; sees = sees; alike = subst (λ (X : Ledger). LooksLike (L x) X) (sym is) (looks (L x) (L y) (alike certain x y may may' (come x may certain) (come y may' certain))) }
    left_seen now K whole (done x may certain sees) (is_open doubt is) = absurd (certain doubt)
    left_seen now K whole (torn m fails sees) (was_done y may certain is) = absurd (certain (failed m fails))
    left_seen now K whole (torn m fails sees) (is_open doubt is) = between now K (subst (λ (X : Ledger). Sees now X) (torn_opened m fails ∙ sym is) sees)
    left_seen now K whole (rests doubt none sees) (was_done y may certain is) = absurd (certain doubt)
    left_seen now K whole (rests doubt none sees) (is_open other is) = between now K (subst (λ (X : Ledger). Sees now X) (rests_opened whole doubt none ∙ sym is) sees)

  -- what the auditor has is what a stop may leave
  pub left_some : (now : Audit) → Leaves τ H e left told now → (K : Ledger) × StopLeaves τ H e left told K
  left_some now (done x may certain sees) = (L x, was_done x may certain refl)
  left_some now (torn m fails sees) = (opened τ H e left told, is_open (failed m fails) refl)
  left_some now (rests doubt none sees) = (opened τ H e left told, is_open doubt refl)

  -- it is a history
  pub left_history : (K : Ledger) → History τ editions H → IsWholeEvent e → Unforged e H → StopLeaves τ H e left told K → History τ editions K
  left_history K history whole unforged (was_done x may certain is) = subst (λ (X : Ledger). History τ editions X) (sym is) (moves e (text x) x history unforged may.moves)
  left_history K history whole unforged (is_open doubt is) = subst (λ (X : Ledger). History τ editions X) (sym is) (by P.commit refl)
    where
      by : (o : Option Commit) → P.commit ≡ o → History τ editions (with_open o H)
      by None none = history
      by (Some c) some =
          let ledger : after P (r.Power (node_of c)) H ≡ entry.Torn (node_of c) c ∷ H = ap (λ (o : Option Commit). with_torn o (node_of c) H) some in
          subst (λ (X : Ledger). History τ editions X) ledger (moves e T (r.Power (node_of c)) history unforged (whole, inr (inr (inl (inr (c, some, refl))))))
