-- An event of one node, by the ledger, whatever the kind of the node: what the node then represents, what its storage shows
-- meanwhile, and what is left of it where the process is stopped.
use Rattle.std.proofs.Common.{◌≡◌, inl, inr, ⊎_elim, ℕ, ℤ, ◌+◌, List, [], ◌∷◌, ◌++◌, Option, Some, None, Bool, true, false, refl, sym, ◌∙◌, ap, subst, true≢false, ◌==◌, if◌then◌else◌}
use Rattle.std.specs.Prelude.{option_map, IfSome}
use Rattle.std.proofs.lemmas.Option.{same_Some}
use Rattle.bench_base.specs.declared.{words.Node.Node, ledger.Commit.Commit, events.Event.Event}
use Rattle.bench_base.specs.declared.ledger.Entry.TheVariants as entry
use Rattle.bench_base.specs.declared.events.Reply.TheVariants as r
use Rattle.bench_base.specs.Replies.{ReplyClass, Did, Refused, Armed, CameOn, WentOff, LostPower, Faulted, WasDamaged, PrinterFailed, RatesFailed, class_of, is_failure, tells_failure}
use Rattle.bench_base.specs.Plans.{Plan}
use Rattle.bench_base.specs.Nodes.{node_of}
use Rattle.bench_base.specs.Rules.{todays_rules}
use Rattle.bench_base.specs.Ledger.{Ledger, counted, torn_of}
use Rattle.nv_model.specs.declared.nv.Nv as nv
use Rattle.nv_model.specs.declared.fuse.Fuse as fuse
use Rattle.nv_model.specs.Moments.{Image}
use Rattle.node_acts.specs.declared.asked.Asked.{Asked}
use Rattle.node_acts.specs.Kinds.{Kind, view_in}
use Rattle.node_acts.specs.Plans.{after, MayReply, view_after, view_told, with_torn}
use Rattle.node_acts.specs.Views.{Counting, View, torn, stopped, started, up_with}
use Rattle.node_storage.specs.declared.node.Node.{Ghosts}
use Rattle.node_storage.specs.Shown.{Allowed, ShowsNext, IsAfter, IsNext, Sound}
use Rattle.node_storage.specs.Stands as node
use Rattle.node_storage.specs.Stands.{StoreStands, times_of}
use Rattle.node_turns.specs.declared.turn.Turn.{Turn}
use Rattle.node_turns.specs.NodeTurns.{NodeTurn, MovesView}
use Rattle.node_turns.specs.Turns.{in_order}
use Rattle.ledger_moves.specs.Tariffs.{Tariff}
use Rattle.ledger_moves.specs.Moves.{plan, entries}
use Rattle.bench_abstraction.specs.Kinds.{Kinds}
use Rattle.bench_abstraction.specs.Follows.{OthersStay, Follows, Replied, plan_by, commit_by}
use Rattle.bench_abstraction.proofs.Views.{same_node_self}
use Rattle.bench_abstraction.specs.Messages.{sent_in}
use Rattle.bench.proofs.Notes.{few_notes}
use Rattle.bench.specs.Steps.{notes_in, ShowsCommit, ShowsLedger, HoldsImage, with_open, after_stop}

own_torn : (m : Node) (c : Commit) (H : Ledger) → torn_of m (entry.Torn m c ∷ H) ≡ Some c
own_torn m c H = rw (same_node_self m) refl

pub none_mapped : {X Y : Type 0} (f : X → Y) (o : Option X) → option_map f o ≡ None → o ≡ None
none_mapped f None is = refl
none_mapped f (Some x) is = cc

-- what comes on has no open commit
next_up : {S X : Type 0} (n : Counting S X) (o : Option S) (k : ℕ) (v : View S) → (up_with n o k v).next ≡ None
next_up n None k v = refl
next_up {S} n (Some s) k v = by (k == n.count v.state + 1)
  where
    by : (counts : Bool) → (if counts then started s else started v.state).next ≡ None
    by true = refl
    by false = refl

-- a reply that reports no failure leaves no commit open
next_told : {S X : Type 0} (n : Counting S X) (t : ReplyClass) (made : Option (Commit × S)) (v : View S) → is_failure t ≡ false → v.next ≡ None → (view_told n t made v).next ≡ None
next_told n Did None v fine none = none
next_told n Did (Some x) v fine none = none
next_told n Refused made v fine none = none
next_told n (Armed m) made v fine none = none
next_told n (CameOn m k) made v fine none = next_up n v.next k v
next_told n (WentOff m) made v fine none = none
next_told n (LostPower m) made v fine none = absurd (true≢false fine)
next_told n (Faulted m) made v fine none = absurd (true≢false fine)
next_told n (WasDamaged m) made v fine none = none
next_told n (PrinterFailed j) None v fine none = none
next_told n (PrinterFailed j) (Some x) v fine none = none
next_told n RatesFailed made v fine none = none

-- == a storage that is left ==

module _ {K S N C R : Type 0} (n : Ghosts K S N C R) {T : Type 0} (h : nv.Ghosts T) where
  -- a storage that may hold what the node's may have represents the node, off
  pub left_stands : (d : N) (v : View n.Seen) (store : T) → h.size store ≡ n.bytes → Sound n d v → ((image : List ℕ) → Image (h.times store) image → Allowed n v image)
      → StoreStands n h d (stopped v) store
  left_stands d v store size sound allowed = record {
    size = size;
    sound = λ tells. record { state = sound.state; next = sound.next; more = sound.more };
    shows = λ tells image now. allowed image now;
  }

-- a node that is as it was represents a ledger that shows the same of it, with a new run begun
pub rest_left : {K S N C R T : Type 0} (n : Ghosts K S N C R) (g : nv.Ghosts S) (h : nv.Ghosts T) (m : Node) (d : N) (seen : List Commit → n.Seen) (H L : Ledger) (s : K) (store : T)
    → g.tells → node.Stands n g d (view_in m seen H) s → view_in m seen L ≡ view_in m seen H → h.size store ≡ n.bytes → HoldsImage n g h s s store
    → StoreStands n h d (view_in m seen (entry.Begin ∷ L)) store
rest_left n g h m d seen H L s store tells stands same size images =
    subst (λ (w : View n.Seen). StoreStands n h d (stopped w) store) (sym same)
    (left_stands n h d (view_in m seen H) store size (stands.store.sound tells) (λ image now. stands.store.shows tells image (images image now)))

-- == the node of the event ==

module _ {K S N C R X : Type 0} (n : Ghosts K S N C R) (g : nv.Ghosts S) (f : fuse.Ghosts S) (kind : Kind N n.Seen X) (m : Node) (d : N) (today : ℤ) (e given : Event) (asked : Asked X)
    (before now : K) (turn : Turn) (did : NodeTurn n g f kind m d today given asked before now turn) {D E F G : Type 0} (kinds : Kinds D E F G) (τ : Tariff) (H : Ledger)
    (st : node.Stands n g d (view_in m (kind.seen d) H) before) (tells : g.tells) (law : Follows n.counting kind m d kinds τ H e today asked) where
  abbrev v : View n.Seen
  v = view_in m (kind.seen d) H

  moved : MovesView n kind g m d today asked turn v before now
  moved = did.by_view v st tells

  pub done : Replied n.counting kind m d kinds τ H e today asked turn.reply
  done = law.replied turn.reply moved.may

  abbrev L : Ledger
  L = entries τ todays_rules H e [] turn.reply

  pub adds : turn.entries ≡ in_order (after (plan τ todays_rules H e []) turn.reply [])
  adds = moved.entries ∙ ap (λ (p : Plan). in_order (after p turn.reply [])) (sym law.plan)

  pub stands_now : node.Stands n g d (view_in m (kind.seen d) L) now
  stands_now = subst (λ (w : View n.Seen). node.Stands n g d w now) (sym done.here) moved.stands

  -- the messages of the run with what it sent
  pub sends : sent_in L ≡ sent_in H ++ notes_in turn.entries
  sends = done.sent ∙ ap (λ (l : List (List ℕ)). sent_in H ++ l) (sym (ap notes_in adds ∙ few_notes (after (plan τ todays_rules H e []) turn.reply []) done.few))

  -- the commit of the event
  abbrev made : Option (Commit × n.Seen)
  made = commit_by n.counting kind m d today asked H

  commit_is : (plan τ todays_rules H e []).commit ≡ option_map (λ (x : Commit × n.Seen). x.0) made
  commit_is = ap (λ (p : Plan). p.commit) law.plan ∙ law.commit

  no_commit : made ≡ None → (plan τ todays_rules H e []).commit ≡ None
  no_commit is = commit_is ∙ ap (λ (o : Option (Commit × n.Seen)). option_map (λ (y : Commit × n.Seen). y.0) o) is

  module _ (x : Commit × n.Seen) (made_is : made ≡ Some x) where
    planned : (plan τ todays_rules H e []).commit ≡ Some x.0
    planned = commit_is ∙ ap (λ (o : Option (Commit × n.Seen)). option_map (λ (y : Commit × n.Seen). y.0) o) made_is

    own : node_of x.0 ≡ m
    own = (law.own x made_is).0

    -- the ledger with the commit open, as if power had failed in it
    abbrev opened : Ledger
    opened = entry.Torn m x.0 ∷ H

    opened_is : entries τ todays_rules H e [] (r.Power m) ≡ opened
    opened_is = ap (λ (o : Option Commit). with_torn o m H) planned

    may_fail : MayReply n.counting m v (plan_by n.counting kind m d today asked H) (r.Power m)
    may_fail = inr (inr (inr (x.0, sym (ap (λ (p : Plan). p.commit) law.plan) ∙ planned, own)))

    failed : Replied n.counting kind m d kinds τ H e today asked (r.Power m)
    failed = law.replied (r.Power m) may_fail

    open_here : view_in m (kind.seen d) opened ≡ torn x.1 v
    open_here =
        ap (λ (M : Ledger). view_in m (kind.seen d) M) (sym opened_is) ∙ failed.here
        ∙ ap (λ (o : Option (Commit × n.Seen)). view_after n.counting (r.Power m) o v) made_is

    others_opened : OthersStay kinds m H opened
    others_opened = subst (λ (M : Ledger). OthersStay kinds m H M) opened_is failed.others

    -- the record after it
    record_is : kind.seen d (x.0 ∷ counted H) ≡ x.1
    record_is = same_Some _ _ (sym (ap (λ (o : Option Commit). option_map (λ (c : Commit). kind.seen d (c ∷ counted H)) o) (own_torn m x.0 H)) ∙ ap (λ (w : View n.Seen). w.next) open_here)

  -- == at any moment ==

  shown_after : (o : Option (Commit × n.Seen)) → made ≡ o → (image : List ℕ) → IsAfter n o image → ShowsCommit n (kind.seen d) m τ H e [] image
  shown_after None is image shown = absurd shown
  shown_after (Some x) is image shown = (x.0, planned x is, own x is, subst (λ (s : n.Seen). n.IsShown s image) (sym (record_is x is)) shown)

  pub shows : ShowsLedger n g (kind.seen d) m τ H e [] before now
  shows = λ image since. ⊎_elim (λ a. inl a) (λ b. inr (shown_after made refl image b)) (moved.any_moment image since)

  -- == where the process is stopped ==

  -- of each other node the same is seen with the commit open
  pub open_others : OthersStay kinds m H (with_open (plan τ todays_rules H e []).commit H)
  open_others = by made refl
    where
      by : (o : Option (Commit × n.Seen)) → made ≡ o → OthersStay kinds m H (with_open (plan τ todays_rules H e []).commit H)
      by None is = subst (λ (c : Option Commit). OthersStay kinds m H (with_open c H)) (sym (no_commit is)) (record { devices = λ i ne. refl; centre = λ ne. refl; host = λ ne. refl; verifier = λ ne. refl })
      by (Some x) is = subst (λ (c : Option Commit). OthersStay kinds m H (with_open c H)) (sym (planned x is))
          (subst (λ (k : Node). OthersStay kinds m H (entry.Torn k x.0 ∷ H)) (sym (own x is)) (others_opened x is))

  module _ {T : Type 0} (h : nv.Ghosts T) (store : T) (size : h.size store ≡ n.bytes) (images : HoldsImage n g h before now store) where
    module _ (x : Commit × n.Seen) (made_is : made ≡ Some x) where
      next_is : IsNext n d v.state x.1
      next_is = subst (λ (o : Option (Commit × n.Seen)). IfSome o (λ y. IsNext n d v.state y.1)) made_is (did.keeps v st tells)

      open_sound : Sound n d (torn x.1 v)
      open_sound = record { state = (st.store.sound tells).state; next = next_is.0; more = next_is.1 }

      closed : v.next ≡ None
      closed = (st.runs (law.own x made_is).1).closed

      -- an image of the node since the event began
      allowed : (image : List ℕ) → (times_of n g now).since (times_of n g before).moment image → Allowed n (torn x.1 v) image
      allowed image since = elim (moved.any_moment image since) [
        | inl was ↦ ⊎_elim (λ old. inl old) (λ next. absurd (subst (λ (o : Option n.Seen). ShowsNext n o image) closed next)) was
        | inr new ↦ inr (subst (λ (o : Option (Commit × n.Seen)). IsAfter n o image) made_is new)
      ]

      open_left : StoreStands n h d (view_in m (kind.seen d) (entry.Begin ∷ opened x made_is)) store
      open_left = subst (λ (w : View n.Seen). StoreStands n h d (stopped w) store) (sym (open_here x made_is))
          (left_stands n h d (torn x.1 v) store size open_sound (λ image held. allowed image (images image held)))

    -- where it commits nothing
    none_left : made ≡ None → StoreStands n h d (view_in m (kind.seen d) (entry.Begin ∷ H)) store
    none_left is = left_stands n h d v store size (st.store.sound tells) (λ image held. elim (moved.any_moment image (images image held)) [
      | inl was ↦ was
      | inr new ↦ absurd (subst (λ (o : Option (Commit × n.Seen)). IsAfter n o image) is new)
    ])

    pub left : StoreStands n h d (view_in m (kind.seen d) (after_stop τ H e [])) store
    left = by made refl
      where
        by : (o : Option (Commit × n.Seen)) → made ≡ o → StoreStands n h d (view_in m (kind.seen d) (after_stop τ H e [])) store
        by None is = subst (λ (c : Option Commit). StoreStands n h d (view_in m (kind.seen d) (entry.Begin ∷ with_open c H)) store) (sym (no_commit is)) (none_left is)
        by (Some x) is = subst (λ (c : Option Commit). StoreStands n h d (view_in m (kind.seen d) (entry.Begin ∷ with_open c H)) store) (sym (planned x is))
            (subst (λ (k : Node). StoreStands n h d (view_in m (kind.seen d) (entry.Begin ∷ entry.Torn k x.0 ∷ H)) store) (sym (own x is)) (open_left x is))

  -- == no commit is left open but by a failure ==

  pub closes : tells_failure turn.reply ≡ false → torn_of m H ≡ None → torn_of m L ≡ None
  closes fine none = none_mapped (λ c. kind.seen d (c ∷ counted L)) (torn_of m L)
      (ap (λ (w : View n.Seen). w.next) done.here ∙ next_told n.counting (class_of turn.reply) made v fine (ap (λ (o : Option Commit). option_map (λ c. kind.seen d (c ∷ counted H)) o) none))
