-- What is judged of a line by what is seen of a node is so by the ledger, where the two follow each other: for nodes of any kind.
use Rattle.std.proofs.Common.{◌≡◌, ◌≢◌, ◌⊎◌, inl, inr, ℕ, ℤ, ◌+◌, List, [], ◌∷◌, ◌++◌, ◌↔◌, Option, Some, None, Result, Ok, Err, IsSome, option_map, Bool, true, false, if◌then◌else◌, refl, sym, ◌∙◌, ap, subst, arith}
use Rattle.std.specs.Prelude.{IfSome}
use Rattle.bench_base.specs.declared.{words.Node.Node, ledger.Commit.Commit, ledger.Entry.Entry, events.Event.Event, events.Reply.Reply}
use Rattle.bench_base.specs.declared.ledger.Entry.TheVariants as entry
use Rattle.bench_base.specs.declared.events.Event.TheVariants as ev
use Rattle.bench_base.specs.declared.events.Reply.TheVariants as r
use Rattle.bench_base.specs.Plans.{Plan, refuse, told}
use Rattle.bench_base.specs.Replies.{ReplyClass, Did, Refused, Armed, CameOn, WentOff, LostPower, Faulted, WasDamaged, PrinterFailed, RatesFailed, class_of}
use Rattle.bench_base.specs.Rules.{todays_rules}
use Rattle.bench_base.specs.Ledger.{Ledger, torn_of, counted, IsSent, IsReleased}
use Rattle.node_acts.specs.declared.{act.Act.Act, asked.Asked.Asked, asked.Asked.TheVariants.On, asked.Asked.TheVariants.Off, asked.Asked.TheVariants.Cut, asked.Asked.TheVariants.Call, said.Said.Said}
use Rattle.node_acts.specs.Views.{Counting, View}
use Rattle.node_acts.specs.Kinds.{Kind, view_in}
use Rattle.node_acts.specs.Plans.{MayReply, Fails, after, after_told, with_commit, with_torn}
use Rattle.node_acts.specs.Said.{IsPlain, seen_plan}
use Rattle.ledger_moves.specs.Tariffs.{Tariff}
use Rattle.ledger_moves.specs.Moves.{Moves, plan}
use Rattle.bench_abstraction.specs.declared.routing.Routed.TheVariants as route
use Rattle.bench_abstraction.specs.declared.routing.OfDay.{OfDay}
use Rattle.bench_abstraction.specs.declared.routing.OfDay.TheVariants as of_day
use Rattle.bench_abstraction.specs.Follows.{Follows, FollowsAlways}
use Rattle.bench_abstraction.specs.Kinds.{bench_kinds}
use Rattle.bench_abstraction.specs.Messages.{sent_in, SendsNone, IsFew}
use Rattle.bench_abstraction.specs.Tariff.{quote_in}
use Rattle.bench_abstraction.specs.Routing.{routed}
use Rattle.node_turns.specs.Turns as turns
use Rattle.node_turns.specs.Turns.{in_order, turn_of}
use Rattle.node_turns.specs.declared.turn.Turn.{Turn}
use Rattle.trace_nodes.specs.Judged.{TellsOf, TellsNone}
use Rattle.trace_nodes.specs.Released.{released_in}
use Rattle.trace_nodes.proofs.Releasing.{Shows, ShowsAll, plan_shows, call_shows, on_shows, off_shows, cut_shows}
use Rattle.trace_nodes.proofs.Telling.{seen_due}
use Rattle.trace_views.specs.Verdicts.{plan_in, commit_in, listed, turn_at, Adds, MovesSo, MovesNever, MovesBy, IsByView, IsByLedger}
use Rattle.bench_abstraction.proofs.Sent.{sends_none}

-- == what was sent ==

-- the message that was sent last, if it is the newest entry
abbrev newest : List Entry → Option (List ℕ)
newest [] = None
newest (entry.Sent bytes ∷ T) = Some bytes
newest (_ ∷ T) = None

few_sent : (T : List Entry) → IsFew T → sent_in T ≡ listed (newest T)
few_sent [] few = refl
few_sent (entry.Sent bytes ∷ T) few = ap (λ (l : List (List ℕ)). l ++ bytes ∷ []) (sends_none T few.1)
few_sent (entry.Begin ∷ T) few = refl
few_sent (_ ∷ T) few = sends_none T few.1

-- a turn has its message last
passed : (x : Entry) (T : List Entry) (rest : List (Option Entry)) → SendsNone (x ∷ T) → turns.sent_in (Some x ∷ rest) ≡ turns.sent_in rest
passed (entry.Sent bytes) T rest none = absurd none
passed _ T rest none = refl

last : (x : Entry) (T : List Entry) (rest : List (Option Entry)) → turns.sent_in rest ≡ None → turns.sent_in (Some x ∷ rest) ≡ newest (x ∷ T)
last (entry.Sent bytes) T rest none = refl
last _ T rest none = none

sends_rest : (x : Entry) (T : List Entry) → SendsNone (x ∷ T) → SendsNone T
sends_rest (entry.Sent bytes) T none = absurd none
sends_rest _ T none = none

turn_sent : (T : List Entry) → IsFew T → turns.sent_in (in_order T) ≡ newest T
turn_sent [] few = refl
turn_sent (x ∷ []) few = last x [] (None ∷ None ∷ []) refl
turn_sent (y ∷ x ∷ []) few = passed x [] (Some y ∷ None ∷ []) few.1 ∙ last y (x ∷ []) (None ∷ []) refl
turn_sent (z ∷ y ∷ x ∷ []) few =
    passed x [] (Some y ∷ Some z ∷ []) (sends_rest y (x ∷ []) few.1) ∙ passed y (x ∷ []) (Some z ∷ []) few.1 ∙ last z (y ∷ x ∷ []) [] refl
turn_sent (z ∷ y ∷ x ∷ w ∷ more) few = absurd (omega (arith, few.0))

-- == what is added ==

never_sent : (T : List Entry) → SendsNone T → (bytes : List ℕ) → IsSent bytes T → ⊥
never_sent [] none bytes is = is
never_sent (entry.Sent x ∷ T) none bytes is = none
never_sent (_ ∷ T) none bytes is = never_sent T none bytes is

-- of what one event adds the newest may be a message, and no other
one_sent : (T : List Entry) → IsFew T → (bytes : List ℕ) → IsSent bytes T ↔ (newest T ≡ Some bytes)
one_sent [] few bytes = (λ is. absurd is, λ is. cc)
one_sent (entry.Sent x ∷ T) few bytes = (by, λ is. let same : x ≡ bytes = cc in inl same)
  where
    by : (x ≡ bytes) ⊎ IsSent bytes T → Some x ≡ Some bytes
    by (inl same) = ap (λ (y : List ℕ). Some y) same
    by (inr is) = absurd (never_sent T few.1 bytes is)
one_sent (_ ∷ T) few bytes = (λ is. absurd (never_sent T few.1 bytes is), λ is. cc)

-- what was sent or released is among the entries that were added, or was before
sent_split : (T H : List Entry) (bytes : List ℕ) → IsSent bytes (T ++ H) ↔ (IsSent bytes T ⊎ IsSent bytes H)
sent_split [] H bytes = (λ is. inr is, λ is. elim is [ inl none ↦ absurd none | inr was ↦ was ])
sent_split (entry.Sent x ∷ T) H bytes = (
  λ is. elim is [ inl same ↦ inl (inl same) | inr rest ↦ elim ((sent_split T H bytes).0 rest) [ inl at ↦ inl (inr at) | inr was ↦ inr was ] ],
  λ is. elim is [ inl at ↦ elim at [ inl same ↦ inl same | inr rest ↦ inr ((sent_split T H bytes).1 (inl rest)) ] | inr was ↦ inr ((sent_split T H bytes).1 (inr was)) ],
)
sent_split (_ ∷ T) H bytes = sent_split T H bytes

released_split : (T H : List Entry) (mark : List ℕ) → IsReleased mark (T ++ H) ↔ (IsReleased mark T ⊎ IsReleased mark H)
released_split [] H mark = (λ is. inr is, λ is. elim is [ inl none ↦ absurd none | inr was ↦ was ])
released_split (entry.Released d piece x ∷ T) H mark = (
  λ is. elim is [ inl same ↦ inl (inl same) | inr rest ↦ elim ((released_split T H mark).0 rest) [ inl at ↦ inl (inr at) | inr was ↦ inr was ] ],
  λ is. elim is [ inl at ↦ elim at [ inl same ↦ inl same | inr rest ↦ inr ((released_split T H mark).1 (inl rest)) ] | inr was ↦ inr ((released_split T H mark).1 (inr was)) ],
)
released_split (_ ∷ T) H mark = released_split T H mark

-- what a plan adds stands before the ledger
append_both : (a b c : List Entry) → (a ++ b) ++ c ≡ a ++ (b ++ c)
append_both [] b c = refl
append_both (x ∷ a) b c = ap (λ (l : List Entry). x ∷ l) (append_both a b c)

commit_before : (o : Option Commit) (H : Ledger) → with_commit o H ≡ with_commit o [] ++ H
commit_before None H = refl
commit_before (Some c) H = refl

torn_before : (o : Option Commit) (m : Node) (H : Ledger) → with_torn o m H ≡ with_torn o m [] ++ H
torn_before None m H = refl
torn_before (Some c) m H = refl

both_before : (p : Plan) (H : Ledger) → p.after ++ with_commit p.commit H ≡ (p.after ++ with_commit p.commit []) ++ H
both_before p H = ap (λ (l : Ledger). p.after ++ l) (commit_before p.commit H) ∙ sym (append_both p.after (with_commit p.commit []) H)

told_before : (p : Plan) (t : ReplyClass) (H : Ledger) → after_told p t H ≡ after_told p t [] ++ H
told_before p Did H = both_before p H
told_before p Refused H = both_before p H
told_before p (Armed m) H = both_before p H
told_before p (CameOn m k) H = refl
told_before p (WentOff m) H = both_before p H
told_before p (LostPower m) H = torn_before p.commit m H
told_before p (Faulted m) H = torn_before p.commit m H
told_before p (WasDamaged m) H = both_before p H
told_before p (PrinterFailed j) H = commit_before p.commit H
told_before p RatesFailed H = refl

-- or by what is the same
either : {P Q R : Type 0} → P ↔ Q → (P ⊎ R) ↔ (Q ⊎ R)
either same = (λ is. elim is [ inl p ↦ inl (same.0 p) | inr r ↦ inr r ], λ is. elim is [ inl q ↦ inl (same.1 q) | inr r ↦ inr r ])

through : {P Q R : Type 0} → P ↔ Q → Q ↔ R → P ↔ R
through a b = (λ p. b.0 (a.0 p), λ r. a.1 (b.1 r))

plan_adds : (p : Plan) (reply : Reply) (H : Ledger) → IsFew (after p reply []) → Shows (after p reply [])
    → Adds (turns.sent_in (in_order (after p reply []))) (released_in (in_order (after p reply []))) H (after p reply H)
plan_adds p reply H few only = subst (λ (L : Ledger). Adds (turns.sent_in (in_order T)) (released_in (in_order T)) H L) (sym (told_before p (class_of reply) H)) (record {
  sends = λ bytes. through (sent_split T H bytes) (either (subst (λ (o : Option (List ℕ)). IsSent bytes T ↔ (o ≡ Some bytes)) (sym (turn_sent T few)) (one_sent T few bytes)));
  releases = λ mark. through (released_split T H mark) (either (only mark));
})
  where
    T : Ledger
    T = after p reply []

-- == an `on` alone is answered by Up ==

-- the plan of each call of the node is that of an act, which refuses or reports that it was done
abbrev pub IsByActs : {N S X C : Type 0} → Counting S X → Kind N S C → Node → N → Type 0
IsByActs {N} {S} {X} {C} n kind m d = (today : ℤ) (v : View S) (c : C) → (act : Act X Reply Said) × (kind.plan d today v c ≡ seen_plan n m v act) × IsPlain act

-- the turn of what it is asked shows what is released
asked_shows : {N S X C : Type 0} (n : Counting S X) (kind : Kind N S C) (m : Node) (d : N) → IsByActs n kind m d → (today : ℤ) (asked : Asked C) (v : View S) (reply : Reply)
    → Shows (after (plan_in n kind m d today asked v) reply [])
asked_shows {C = C} n kind m d acts today asked v reply = plan_shows (plan_in n kind m d today asked v) (by asked) reply
  where
    by : (x : Asked C) → ShowsAll (plan_in n kind m d today x v).after
    by On = on_shows m v.on (n.count v.state)
    by Off = off_shows m v.on
    by (Cut calls keep byte) = cut_shows m
    by (Call call) = let act = acts today v call in subst (λ (p : Plan). ShowsAll p.after) (sym act.1) (call_shows n m v act.0)

module _ {N S X C : Type 0} (n : Counting S X) (kind : Kind N S C) (m : Node) (d : N) (acts : IsByActs n kind m d) (today : ℤ) (v : View S) (i : Node) (c : ℕ) where
  abbrev IsOwnUp : Type 0
  IsOwnUp = (i ≡ m) × (c ≡ n.count v.state)

  by_on : (on : Bool) → (if on then refuse (r.OnAlready m) else told (r.Up m (n.count v.state)) (entry.Up m (n.count v.state) ∷ [])).reply ≡ r.Up i c → IsOwnUp
  by_on true is = cc
  by_on false is = (cc, cc)

  by_off : (on : Bool) → (if on then told (r.Down m) (entry.Down m ∷ []) else refuse (r.OffNode m)).reply ≡ r.Up i c → IsOwnUp
  by_off true is = cc
  by_off false is = cc

  by_call : (call : C) → (kind.plan d today v call).reply ≡ r.Up i c → IsOwnUp
  by_call call is =
      let act = acts today v call in
      let same : (seen_plan n m v act.0).reply ≡ r.Up i c = sym (ap (λ (p : Plan). p.reply) act.1) ∙ is in
      elim (seen_due n m v act.0 act.2) [
        | inl did ↦ let t : class_of (r.Up i c) ≡ Did = sym (ap class_of same) ∙ did in cc
        | inr refused ↦ let t : class_of (r.Up i c) ≡ Refused = sym (ap class_of same) ∙ refused in cc
      ]

  own_up : (asked : Asked C) → (plan_in n kind m d today asked v).reply ≡ r.Up i c → IsOwnUp
  own_up On is = by_on v.on is
  own_up Off is = by_off v.on is
  own_up (Cut calls keep byte) is = cc
  own_up (Call call) is = by_call call is

-- == by the ledger ==

module _ {N S X C : Type 0} (n : Counting S X) (kind : Kind N S C) (m : Node) (d : N) (acts : IsByActs n kind m d) (work_of : Asked C → OfDay) (no_rates : (asked : Asked C) → work_of asked ≢ of_day.Rates) where
  module _ (today : ℤ) (asked : Asked C) (τ : Tariff) (H : Ledger) (e : Event) (asks : routed (sent_in H) (quote_in τ H) e ≡ Some (route.OfDay (work_of asked))) (f : Follows n kind m d bench_kinds τ H e today asked) where
    abbrev here : View S
    here = view_in m (kind.seen d) H

    abbrev p : Plan
    p = plan_in n kind m d today asked here

    reads_none : e ≡ ev.Rates → ⊥
    reads_none is = let same : Some (route.OfDay of_day.Rates) ≡ Some (route.OfDay (work_of asked)) = sym (ap (routed (sent_in H) (quote_in τ H)) is) ∙ asks in let it : work_of asked ≡ of_day.Rates = cc in no_rates asked it

    opened : (i : Node) → i ≡ m → IsSome (torn_of i H) → IsSome here.next
    opened i is torn = by (torn_of m H) (subst (λ (j : Node). IsSome (torn_of j H)) is torn)
      where
        by : (o : Option Commit) → IsSome o → IsSome (option_map (λ (c : Commit). kind.seen d (c ∷ counted H)) o)
        by None torn = torn
        by (Some c) torn = refl

    -- each reply that it may get by the ledger is one by what is seen of the node
    may : (reply : Reply) → Moves τ todays_rules H e [] reply → MayReply n m here p reply
    may reply (whole, inl is) = inl (is ∙ ap (λ (q : Plan). q.reply) f.plan)
    may reply (whole, inr (inl up)) =
        let own = own_up n kind m d acts today here up.node up.count asked (sym (ap (λ (q : Plan). q.reply) f.plan) ∙ up.answer_is) in
        let answer_is : p.reply ≡ r.Up m (n.count here.state) = sym (ap (λ (q : Plan). q.reply) f.plan) ∙ up.answer_is ∙ ap (λ (j : Node). r.Up j up.count) own.0 ∙ ap (r.Up m) own.1 in
        inr (inl (answer_is, opened up.node own.0 up.torn, up.more ∙ ap (λ (j : Node). r.Up j (up.count + 1)) own.0 ∙ ap (λ (k : ℕ). r.Up m (k + 1)) own.1))
    may reply (whole, inr (inr (inl fails))) = inr (inr (subst (λ (q : Plan). Fails q reply) f.plan fails))
    may reply (whole, inr (inr (inr reading))) = absurd (reads_none reading.event)

    so : (line : List ℕ) (w : View S) (reply : Reply) → TellsOf n m here p (commit_in n kind m d today asked here) line w reply → MovesSo n kind m d τ H e line w reply
    so line w reply of =
        let does = f.replied reply of.may in
        let q = plan τ todays_rules H e [] in
        let T = after q reply [] in
        record {
          text = of.text;
          whole = of.whole;
          moves = does.moves;
          here = does.here ∙ sym of.leaves;
          others = does.others;
          rests = does.rests;
          sends = does.sent ∙ ap (λ (l : List (List ℕ)). sent_in H ++ l) (few_sent T does.few ∙ ap listed (sym (turn_sent T does.few)));
          adds = plan_adds q reply H does.few (subst (λ (x : Plan). Shows (after x reply [])) (sym f.plan) (asked_shows n kind m d acts today asked here reply));
          alone = λ other moves is. ap (λ (t : ReplyClass). after_told q t H) (of.alone other (may other moves) is);
        }

    -- the turn is that of the ledger
    tells : {T : Type 0} (IsOf : T → Turn → Type 0) (told : T) (reply : Reply) → IsOf told (turn_of reply (after p reply [])) → IsOf told (turn_at τ H e [] reply)
    tells IsOf told reply is = subst (λ (q : Plan). IsOf told (turn_of reply (after q reply []))) (sym f.plan) is

    never : (line : List ℕ) (w : View S) (due : Reply) → TellsNone n m here p (commit_in n kind m d today asked here) line w due → MovesNever n kind m d τ H e line w due
    never line w due none = record {
      due_is = none.due_is ∙ ap (λ (q : Plan). q.reply) (sym f.plan);
      never = λ reply moves. none.none reply (may reply moves);
      rests = none.rests;
    }

  module _ (IsWhole : Asked C → Type 0) (Fits : S → Type 0) (law : FollowsAlways n kind m d bench_kinds work_of IsWhole Fits) (today : ℤ) (asked : Asked C) (line : List ℕ) (v w : View S)
      (fits : Fits v.state) (next : IfSome (commit_in n kind m d today asked v) (λ x. Fits x.1)) where
    -- the same of any view
    abbrev From : {T : Type 0} → (T → Turn → Type 0) → Result T Reply → Tariff → Ledger → Event → View S → Type 0
    From IsOf result τ H e u = Fits u.state → IfSome (commit_in n kind m d today asked u) (λ x. Fits x.1) → IsByView n kind m d IsOf today asked line u w result
        → MovesBy n kind m d IsOf τ H e line w result

    pub lifts : {T : Type 0} (IsOf : T → Turn → Type 0) (result : Result T Reply) → IsByView n kind m d IsOf today asked line v w result
        → IsByLedger n kind m d IsOf work_of IsWhole today asked line v w result
    lifts {T} IsOf result judged τ H e history unforged day whole asks ranged seen = subst (From IsOf result τ H e) seen (at result) fits next judged
      where
        at : (x : Result T Reply) → From IsOf x τ H e (view_in m (kind.seen d) H)
        at (Ok told) known more of =
            let f = law τ H e today asked history unforged day whole asks ranged known more in
            (of.0, so today asked τ H e asks f line w of.0 of.1, tells today asked τ H e asks f IsOf told of.0 of.2)
        at (Err due) known more of = never today asked τ H e asks (law τ H e today asked history unforged day whole asks ranged known more) line w due of
