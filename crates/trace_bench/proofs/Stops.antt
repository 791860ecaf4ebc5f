-- Which replies may come for an event, and so which bytes may be the prefix of one.
use Rattle.std.proofs.Common.{◌≡◌, ◌⊎◌, inl, inr, ℕ, ◌+◌, ◌≤◌, List, [], length, Bool, true, false, Some, Result, Ok, Err, IfOk, true≢false, ◌≢◌, ⊎_elim, refl, sym, ◌∙◌, ap, subst, arith}
use Rattle.std.specs.Prelude.{◌&&◌, ◌==◌, not, take, is_some, if◌then◌else◌}
use Rattle.std.proofs.lemmas.Bool.{cases_eq}
use Rattle.std.proofs.lemmas.Bool.Decides.{Decides-eqb}
use Rattle.std.proofs.lemmas.List.{nil_from_length}
use Rattle.bench_base.specs.declared.{words.Node.Node, words.Node.TheVariants.Device, words.Node.TheVariants.Centre, words.Node.TheVariants.Host, words.Node.TheVariants.Verifier, events.Event.Event, events.Reply.Reply}
use Rattle.bench_base.specs.declared.events.Reply.TheVariants as r
use Rattle.bench_base.specs.Ranges.{IsNode}
use Rattle.bench_base.specs.Replies.{Did, class_of, fails_to_read}
use Rattle.bench_base.specs.Rules.{todays_rules}
use Rattle.bench_base.specs.Ledger.{Ledger, day_in}
use Rattle.node_acts.specs.Plans.{Fails}
use Rattle.ledger_moves.specs.Tariffs.{Tariff}
use Rattle.ledger_moves.specs.Moves.{plan, answer, OtherUp}
use Rattle.script_text.specs.Texts.{text_of, IsWholeReply, told}
use Rattle.bench_base.specs.Events.{takes_rates, IsWholeEvent}
use Rattle.trace_bench.specs.Judging.{taken_by, text_with, MayGet, ledger_with, IsTold}
use Rattle.trace_bench.specs.Seeing.{Audit, Sees}
use Rattle.trace_bench.specs.Stopping.{IsPrefixOf, MayBegin, MayFail, MayComeOn, IsInDoubt, unanswered, failed, either_up, done, torn, rests, IsDoneWith, IsBegun, IsUnbegun}
use Rattle.trace_bench.specs.Prefixes.{number_of, BeginsOtherUp, BeginsCutPrint, BeginsRatesFault, BeginsBothUps, BeginsFailure, IsFailure, IsDue, OnlyFails, Comes, MayLose, LosesAt, LosesThere, NoneBelow, Loses}
use Rattle.scan_laws.proofs.Tells.{is_failure}
use Rattle.scan_laws.proofs.Plans.{plan_says}

-- two nodes of one number are one
pub one_node : (m n : Node) → IsNode m → IsNode n → number_of m ≡ number_of n → m ≡ n
one_node (Device d) (Device e) a b is = ap Device is
one_node (Device d) Centre a b is = absurd (omega (arith, a.1, is))
one_node (Device d) Host a b is = absurd (omega (arith, a.1, is))
one_node (Device d) Verifier a b is = absurd (omega (arith, a.1, is))
one_node Centre (Device e) a b is = absurd (omega (arith, b.1, is))
one_node Centre Centre a b is = refl
one_node Centre Host a b is = absurd (omega (arith, is))
one_node Centre Verifier a b is = absurd (omega (arith, is))
one_node Host (Device e) a b is = absurd (omega (arith, b.1, is))
one_node Host Centre a b is = absurd (omega (arith, is))
one_node Host Host a b is = refl
one_node Host Verifier a b is = absurd (omega (arith, is))
one_node Verifier (Device e) a b is = absurd (omega (arith, b.1, is))
one_node Verifier Centre a b is = absurd (omega (arith, is))
one_node Verifier Host a b is = absurd (omega (arith, is))
one_node Verifier Verifier a b is = refl

pub numbered : (m : Node) → IsNode m → (1 ≤ number_of m) × (number_of m ≤ 11)
numbered (Device d) is = (is.0, omega (arith, is.1))
numbered Centre is = (omega arith, omega arith)
numbered Host is = (omega arith, omega arith)
numbered Verifier is = (omega arith, omega arith)

-- a reply that reports no failure doesn't report that the rates can't be read
read_fine : (x : Reply) → is_failure x ≡ false → fails_to_read (class_of x) ≡ false
read_fine r.RatesFault wrong = absurd (true≢false wrong)
read_fine _ is = refl

-- what is reported as the loss of power is that reply
pub power_back : (x : Reply) (m : Node) → told x ≡ r.Power m → x ≡ r.Power m
power_back (r.Power n) m is = is
power_back _ m is = cc

-- whether there are no bytes
pub empty_is : (b : Bool) (prefix : List ℕ) → b ≡ (length prefix == 0) → b ≡ true → prefix ≡ []
empty_is b prefix is empty = nil_from_length prefix ((Decides-eqb (length prefix) 0).0 (sym is ∙ empty))

pub some_is : (b : Bool) (prefix : List ℕ) → b ≡ (length prefix == 0) → b ≡ false → prefix ≡ [] → ⊥
some_is b prefix is some none = true≢false (sym (is ∙ ap (λ (l : List ℕ). length l == 0) none) ∙ some)

-- what follows where all went well
pub then_ok : {A E : Type 0} (P Q : A → Type 0) → ((x : A) → P x → Q x) → (r : Result A E) → IfOk r P → IfOk r Q
then_ok P Q follows (Ok x) is = follows x is
then_ok P Q follows (Err e) is = tt

module _ (τ : Tariff) (H : Ledger) (e : Event) (left : List ℕ) (m : Node) (named : IsNode m) where
  -- the line of a lost power was heard
  pub power_told : ((x y : Reply) → IsWholeReply x → IsWholeReply y → text_of x ≡ text_of y → told x ≡ told y) → (line : List ℕ) → line ≡ text_of (r.Power m) → (a : Audit) (reply : Reply)
      → IsTold τ H e left line a reply → LosesAt τ H e left m a true
  power_told one line line_is a reply t =
      let is : reply ≡ r.Power m = power_back reply m (one reply (r.Power m) t.whole named (t.text ∙ line_is)) in (
        subst (λ (x : Reply). MayGet τ H e left [] x) is t.moves,
        subst (λ (x : Reply). Sees a (ledger_with τ H e left [] x)) is t.sees,
      )

  pub loses_there : (prefix : List ℕ) (now : Audit) → BeginsFailure prefix m → (b : Bool) → LosesAt τ H e left m now b → LosesThere τ H e left prefix m now b
  loses_there prefix now begins true lost = ((named, lost.0), begins, lost.1)
  loses_there prefix now begins false lost = (λ may begun. lost.0 may.1, lost.1)

  -- one node more
  pub one_more : (prefix : List ℕ) (now : Audit) (number : ℕ) → number_of m ≡ number → NoneBelow τ H e left number prefix → LosesThere τ H e left prefix m now false
      → NoneBelow τ H e left (number + 1) prefix
  one_more prefix now number number_is below lost n before may begins = ⊎_elim
      (λ (same : number_of n ≡ number).
      let is : n ≡ m = one_node n m may.0 named (same ∙ sym number_is) in
      lost.0 (subst (λ (x : Node). MayLose τ H e left prefix x) is may) (subst (λ (x : Node). BeginsFailure prefix x) is begins))
      (λ (differs : number_of n ≢ number). below n (omega (arith, before, differs)) may begins)
      (cases_eq (number_of n) number)

pub all_below : (τ : Tariff) (H : Ledger) (e : Event) (left prefix : List ℕ) (now : Audit) → NoneBelow τ H e left 12 prefix → Sees now H → Loses τ H e left prefix now false
all_below τ H e left prefix now below sees = (λ m may begins. let w = numbered m may.0 in below m (omega (arith, w.1)) may begins, sees)

-- the number of commits that an `up` shows
abbrev up_count : Reply → ℕ
up_count (r.Up m k) = k
up_count _ = 0

module _ (τ : Tariff) (H : Ledger) (e : Event) (left prefix : List ℕ) where
  abbrev text : Reply → List ℕ
  text reply = text_with τ H e left prefix reply

  -- what is taken where nothing fails
  abbrev T : List ℕ
  T = taken_by e (day_in H) Did left

  fine_text : (reply : Reply) → fails_to_read (class_of reply) ≡ false → text reply ≡ T
  fine_text reply fine = ap (λ (b : Bool). if takes_rates e && (is_some (day_in H) && not b) then take 65537 left else []) fine

  answers_fine : (t : List ℕ) → is_failure (answer τ todays_rules H e t) ≡ false
  answers_fine t = (plan_says H τ e t).unfailed

  -- no answer is a failure
  never : (x : Reply) (t : List ℕ) → is_failure x ≡ true → x ≡ answer τ todays_rules H e t → {P : Type 0} → P
  never x t fails is = absurd (true≢false (sym fails ∙ ap is_failure is ∙ answers_fine t))

  -- == power and faults ==

  pub power_faults : (m : Node) → MayGet τ H e left prefix (r.Power m) → MayGet τ H e left prefix (r.Fault m)
  power_faults m (whole, inl is) = never (r.Power m) (text (r.Power m)) refl is
  power_faults m (whole, inr (inl up)) = let wrong : r.Power m ≡ r.Up up.node (up.count + 1) = up.more in cc
  power_faults m (whole, inr (inr (inl fails))) = (whole, inr (inr (inl fails)))
  power_faults m (whole, inr (inr (inr reads))) = let wrong : r.Power m ≡ r.RatesFault = reads.reply_is in cc

  fault_powers : (m : Node) → MayGet τ H e left prefix (r.Fault m) → MayGet τ H e left prefix (r.Power m)
  fault_powers m (whole, inl is) = never (r.Fault m) (text (r.Fault m)) refl is
  fault_powers m (whole, inr (inl up)) = let wrong : r.Fault m ≡ r.Up up.node (up.count + 1) = up.more in cc
  fault_powers m (whole, inr (inr (inl fails))) = (whole, inr (inr (inl fails)))
  fault_powers m (whole, inr (inr (inr reads))) = let wrong : r.Fault m ≡ r.RatesFault = reads.reply_is in cc

  -- == beside the answer ==

  module _ (whole : IsWholeEvent e) (due : Reply) (due_is : IsDue τ H e left due) where
    due_fine : fails_to_read (class_of due) ≡ false
    due_fine = read_fine due (ap is_failure due_is ∙ answers_fine T)

    -- the answer to what is taken with a reply that reports no fault of the rates
    answered : (reply : Reply) → fails_to_read (class_of reply) ≡ false → due ≡ answer τ todays_rules H e (text reply)
    answered reply fine = due_is ∙ ap (λ (t : List ℕ). answer τ todays_rules H e t) (sym (fine_text reply fine))

    pub by_answer : IsWholeReply due → IsPrefixOf prefix (text_of due) → Comes τ H e left prefix (Some due)
    by_answer ranged is = record { moves = (whole, inl (answered due due_fine)); whole = ranged; begins = is }

    up_fine : (up : Reply) (m : Node) (k : ℕ) → up ≡ r.Up m k → fails_to_read (class_of up) ≡ false
    up_fine up m k is = ap (λ (x : Reply). fails_to_read (class_of x)) is

    pub by_up : (x : Reply) → BeginsOtherUp due H prefix x → Comes τ H e left prefix (Some x)
    by_up x b =
        let same = answered x (up_fine x b.0.node (b.0.count + 1) b.0.more) in
        record { moves = (whole, inr (inl (subst (λ (y : Reply). OtherUp y x H) same b.0))); whole = b.1.0; begins = b.1.1 }

    pub by_rates : (x : Reply) → BeginsRatesFault e (day_in H) prefix x → Comes τ H e left prefix (Some x)
    by_rates x b = record { moves = (whole, inr (inr (inr b.0))); whole = b.1.0; begins = b.1.1 }

    pub by_none : (IsPrefixOf prefix (text_of due) → ⊥) → ((x : Reply) → BeginsOtherUp due H prefix x → ⊥) → ((x : Reply) → BeginsCutPrint due prefix x → ⊥)
        → ((x : Reply) → BeginsRatesFault e (day_in H) prefix x → ⊥) → OnlyFails τ H e left prefix
    by_none no_answer no_up no_print no_rates reply may = elim may.moves.1 [
      | inl is ↦
          let fine = read_fine reply (ap is_failure is ∙ answers_fine (text reply)) in
          let same : reply ≡ due = is ∙ sym (answered reply fine) in
          absurd (no_answer (subst (λ (x : Reply). IsPrefixOf prefix (text_of x)) same may.begins))
      | inr (inl up) ↦
          let same = answered reply (up_fine reply up.node (up.count + 1) up.more) in
          absurd (no_up reply (subst (λ (x : Reply). OtherUp x reply H) (sym same) up, (may.whole, may.begins)))
      | inr (inr (inl fails)) ↦ fails_alone reply may fails
      | inr (inr (inr reads)) ↦ absurd (no_rates reply (reads, (may.whole, may.begins)))
    ]
      where
        fails_alone : (x : Reply) → MayBegin τ H e left prefix x → Fails (plan τ todays_rules H e (text x)) x → (m : Node) × IsFailure x m
        fails_alone (r.Power m) begun fails = (m, inl refl)
        fails_alone (r.Fault m) begun fails = (m, inr refl)
        fails_alone (r.PrinterFault j) begun fails = absurd (no_print (r.PrinterFault j) ((j, answered (r.PrinterFault j) refl ∙ fails, refl), (begun.whole, begun.begins)))
        fails_alone _ begun fails = absurd fails

    -- == both `up`s ==

    pub both_come : BeginsBothUps due H prefix → IsInDoubt τ H e left prefix
    both_come b =
        let up = b.2.0 in
        let without = by_answer b.0.0 b.0.1 in
        let counted = by_up b.1 b.2 in
        either_up (up.node, up.count, subst (λ (x : Reply). MayBegin τ H e left prefix x) up.answer_is without, subst (λ (x : Reply). MayBegin τ H e left prefix x) up.more counted)

    up_by : (m : Node) (k : ℕ) → MayBegin τ H e left prefix (r.Up m k) → (due ≡ r.Up m k) ⊎ OtherUp due (r.Up m k) H
    up_by m k may = elim may.moves.1 [
      | inl is ↦ inl (answered (r.Up m k) refl ∙ sym is)
      | inr (inl up) ↦ inr (subst (λ (x : Reply). OtherUp x (r.Up m k) H) (sym (answered (r.Up m k) refl)) up)
      | inr (inr (inl fails)) ↦ absurd fails
      | inr (inr (inr reads)) ↦ let wrong : r.Up m k ≡ r.RatesFault = reads.reply_is in cc
    ]

    -- of two `up`s that may come the first is the answer
    both_begin : (m : Node) (k : ℕ) → MayBegin τ H e left prefix (r.Up m k) → MayBegin τ H e left prefix (r.Up m (k + 1)) → BeginsBothUps due H prefix
    both_begin m k without counted = by (up_by m k without) (up_by m (k + 1) counted)
      where
        by : (due ≡ r.Up m k) ⊎ OtherUp due (r.Up m k) H → (due ≡ r.Up m (k + 1)) ⊎ OtherUp due (r.Up m (k + 1)) H → BeginsBothUps due H prefix
        by (inl is) (inl other) =
            let wrong : k ≡ k + 1 = ap up_count (sym is ∙ other) in
            absurd (omega (arith, wrong))
        by (inl is) (inr up) = (
          (subst IsWholeReply (sym is) without.whole, subst (λ (x : Reply). IsPrefixOf prefix (text_of x)) (sym is) without.begins),
          r.Up m (k + 1),
          (up, (counted.whole, counted.begins)),
        )
        by (inr up) (inl is) =
            let more : k ≡ up.count + 1 = ap up_count up.more in
            let same : k + 1 ≡ up.count = ap up_count (sym is ∙ up.answer_is) in
            absurd (omega (arith, more, same))
        by (inr up) (inr other) =
            let more : k ≡ up.count + 1 = ap up_count up.more in
            let most : k + 1 ≡ other.count + 1 = ap up_count other.more in
            let same : up.count ≡ other.count = ap up_count (sym up.answer_is ∙ other.answer_is) in
            absurd (omega (arith, more, most, same))

    pub none_come : (BeginsBothUps due H prefix → ⊥) → MayComeOn τ H e left prefix → ⊥
    none_come none ups = none (both_begin ups.0 ups.1 ups.2 ups.3)

  -- == what is found ==

  -- a failure of the node may come, and begins so
  may_fail : (m : Node) → MayLose τ H e left prefix m → BeginsFailure prefix m → MayFail τ H e left prefix m
  may_fail m may (inl power) = inl (record { moves = may.1; whole = may.0; begins = power })
  may_fail m may (inr fault) = inr (record { moves = power_faults m may.1; whole = may.0; begins = fault })

  may_lose : (m : Node) → MayFail τ H e left prefix m → MayLose τ H e left prefix m × BeginsFailure prefix m
  may_lose m (inl power) = ((power.whole, power.moves), inl power.begins)
  may_lose m (inr fault) = ((fault.whole, fault_powers m fault.moves), inr fault.begins)

  failure_of : (m : Node) → MayFail τ H e left prefix m → (reply : Reply) × MayBegin τ H e left prefix reply
  failure_of m (inl power) = (r.Power m, power)
  failure_of m (inr fault) = (r.Fault m, fault)

  module _ (now : Audit) where
    pub lost_begun : Loses τ H e left prefix now true → IsBegun τ H e left prefix now × IsInDoubt τ H e left prefix
    lost_begun (m, may, begins, sees) =
        let fails = may_fail m may begins in
        let come = failure_of m fails in
        (record { reply = come.0; may = come.1; leaves = torn m fails sees }, failed m fails)

    -- no node may have failed
    none_fails : Loses τ H e left prefix now false → (m : Node) → MayFail τ H e left prefix m → ⊥
    none_fails lost m fails = let w = may_lose m fails in lost.0 m w.0 w.1

    pub rests_begun : (reply : Reply) → MayBegin τ H e left prefix reply → IsInDoubt τ H e left prefix → Loses τ H e left prefix now false → IsBegun τ H e left prefix now × IsInDoubt τ H e left prefix
    rests_begun reply may doubt lost = (record { reply = reply; may = may; leaves = rests doubt (none_fails lost) lost.1 }, doubt)

    pub no_doubt : (prefix ≡ [] → ⊥) → (MayComeOn τ H e left prefix → ⊥) → Loses τ H e left prefix now false → IsInDoubt τ H e left prefix → ⊥
    no_doubt some up lost (unanswered is) = some is
    no_doubt some up lost (failed m fails) = none_fails lost m fails
    no_doubt some up lost (either_up ups) = up ups

    pub none_begun : (due : Reply) → IsDue τ H e left due → OnlyFails τ H e left prefix → Loses τ H e left prefix now false → IsUnbegun τ H e left prefix now due
    none_begun due due_is only lost = record { due_is = due_is; none = none; rests = lost.1 }
      where
        none : (reply : Reply) → MayBegin τ H e left prefix reply → ⊥
        none reply may = let w = only reply may in elim w.1 [
          | inl power ↦ none_fails lost w.0 (inl (subst (λ (x : Reply). MayBegin τ H e left prefix x) power may))
          | inr fault ↦ none_fails lost w.0 (inr (subst (λ (x : Reply). MayBegin τ H e left prefix x) fault may))
        ]

  -- the event was done with this reply, and recorded with one of the same text
  pub done_begun : (now : Audit) (reply : Reply) → MayBegin τ H e left prefix reply → (IsInDoubt τ H e left prefix → ⊥) → (x : Reply) × IsTold τ H e left (text_of reply) now x
      → IsBegun τ H e left prefix now × IsDoneWith τ H e left prefix (Some reply)
  done_begun now reply may certain (x, it) = (
    record {
      reply = reply;
      may = may;
      leaves = done x (record { moves = it.moves; whole = it.whole; begins = subst (λ (t : List ℕ). IsPrefixOf prefix t) (sym it.text) may.begins }) certain it.sees;
    },
    (may, certain),
  )
