-- What is seen of each node, of the day and of the rates, after an event of one node. The node is m, of any kind; its
-- record after some commits is as seen says.
use Rattle.std.proofs.Common.{◌≡◌, ℕ, Bool, true, false, List, [], ◌∷◌, ◌++◌, Option, Some, None, cond, refl, sym, ap, ◌∙◌, true≢false, option_map}
use Rattle.std.specs.Prelude.{◌==◌, ◌+◌, ◌≢◌}
use Rattle.std.proofs.lemmas.Bool.{ne_eqb}
use Rattle.bench_base.specs.declared.{words.Node.Node, words.Node.TheVariants.Device, words.Node.TheVariants.Centre, words.Node.TheVariants.Host, words.Node.TheVariants.Verifier, ledger.Commit.Commit, ledger.Entry.Entry, events.Reply.Reply}
use Rattle.bench_base.specs.declared.ledger.Entry.TheVariants as entry
use Rattle.bench_base.specs.Nodes.{same_node, node_of}
use Rattle.bench_base.specs.Ledger.{Ledger, is_on, count_of, torn_of, at_up, counted}
pub use Rattle.bench_base.proofs.Facts.{same_node_self}
use Rattle.node_acts.specs.Views.{Counting, View, up_with, started}
use Rattle.node_acts.specs.Plans.{view_after}
use Rattle.ledger_laws.specs.Nexts.{AreOrdered, IsOpen}
use Rattle.node_acts.specs.Kinds.{view_in}
use Rattle.bench_abstraction.specs.Follows.{Rests}
use Rattle.bench_abstraction.proofs.Steps.{AreTold, Step, does_tell, does, tears, boots, stops}

same_apart : (m i : Node) → i ≢ m → same_node m i ≡ false
same_apart (Device d) (Device e) ne = ne_eqb d e (λ is. ne (ap Device (sym is)))
same_apart Centre Centre ne = absurd (ne refl)
same_apart Host Host ne = absurd (ne refl)
same_apart Verifier Verifier ne = absurd (ne refl)
same_apart _ _ ne = refl

-- what is seen of a node by these commits and its open one
abbrev seen_by : {S : Type 0} → (List Commit → S) → List Commit → Option Commit → Bool → View S
seen_by seen C t on = record { state = seen C; next = option_map (λ c. seen (c ∷ C)) t; on = on }

-- entries that report what was done change nothing that is seen
told_view : {S : Type 0} (i : Node) (seen : List Commit → S) (T : List Entry) (H : Ledger) → AreTold T → view_in i seen (T ++ H) ≡ view_in i seen H
told_view i seen [] H h = refl
told_view i seen (entry.Released d piece mark ∷ T) H h = told_view i seen T H h
told_view i seen (entry.Printed job mark ∷ T) H h = told_view i seen T H h
told_view i seen (entry.Sent note ∷ T) H h = told_view i seen T H h
told_view i seen (_ ∷ T) H h = absurd h

told_rests : (T : List Entry) (old H : Ledger) → AreTold T → Rests old H → Rests old (T ++ H)
told_rests [] old H h r = r
told_rests (entry.Released d piece mark ∷ T) old H h r = let is = told_rests T old H h r in record { day = is.day; rates = is.rates }
told_rests (entry.Sent note ∷ T) old H h r = let is = told_rests T old H h r in record { day = is.day; rates = is.rates }
told_rests (entry.Printed job mark ∷ T) old H h r = let is = told_rests T old H h r in record { day = is.day; rates = is.rates }
told_rests (_ ∷ T) old H h r = absurd h

-- a commit of another node, in order, leaves what is seen of node i as it is, also under an open commit of node i
pub record Apart {S : Type 0} (i : Node) (seen : List Commit → S) : Type 0 where
  pub frame : (c : Commit) (C : List Commit) → same_node (node_of c) i ≡ false → AreOrdered (c ∷ C) → seen (c ∷ C) ≡ seen C
  pub under : (x c : Commit) (C : List Commit) → same_node (node_of x) i ≡ true → same_node (node_of c) i ≡ false → AreOrdered (c ∷ C) → AreOrdered (x ∷ C) → seen (x ∷ c ∷ C) ≡ seen (x ∷ C)

module _ (H : Ledger) (opens : (n : Node) (c : Commit) → torn_of n H ≡ Some c → IsOpen n c H) where
  -- a node that is on has no open commit
  settled : (n : Node) → is_on n H ≡ true → (t : Option Commit) → torn_of n H ≡ t → torn_of n H ≡ None
  settled n on None h = h
  settled n on (Some c) h = absurd (true≢false (sym on ∙ (opens n c h).off))

  module _ {S X : Type 0} (n : Counting S X) (m : Node) (seen : List Commit → S) where
    -- == the node itself ==

    module _ (counts : n.count (seen (counted H)) ≡ count_of m (counted H)) where
      boot_by : (c : Commit) (counted_too : Bool)
          → seen_by seen (cond counted_too (c ∷ counted H) (counted H)) None true ≡ cond counted_too (started (seen (c ∷ counted H))) (started (seen (counted H)))
      boot_by c true = refl
      boot_by c false = refl

      boot : (k : ℕ) (t : Option Commit) → seen_by seen (at_up t m k (counted H)) None true ≡ up_with n (option_map (λ c. seen (c ∷ counted H)) t) k (view_in m seen H)
      boot k None = refl
      boot k (Some c) = boot_by c (k == count_of m (counted H) + 1)
          ∙ ap (λ (l : ℕ). cond (k == l + 1) (started (seen (c ∷ counted H))) (started (seen (counted H)))) (sym counts)

      pub here : (x : Reply) (made : Option (Commit × S)) (new : Ledger) → Step n m seen H x made new → view_in m seen new ≡ view_after n x made (view_in m seen H)
      here x made new (does_tell T are still) = told_view m seen T H are ∙ sym (still (view_in m seen H))
      here x made new (does T c s are done on own is) =
          told_view m seen T (entry.Commit c ∷ H) are ∙ rw (settled m on (torn_of m H) refl, is) refl ∙ sym (done (view_in m seen H))
      here x made new (tears c s fails own is) = (rw (same_node_self m, is) refl) ∙ sym (fails (view_in m seen H))
      here x made new (boots k) = rw (same_node_self m) (boot k (torn_of m H))
      here x made new stops = rw (same_node_self m) refl

    -- == another node ==

    module _ {T : Type 0} (i : Node) (ne : i ≢ m) (other : List Commit → T) (apart : Apart i other) where
      -- the commit of one counts, and is not seen of the other
      other_with : (c : Commit) (t : Option Commit) → same_node (node_of c) i ≡ false → AreOrdered (c ∷ counted H) → ((y : Commit) → t ≡ Some y → IsOpen i y H)
          → option_map (λ y. other (y ∷ c ∷ counted H)) t ≡ option_map (λ y. other (y ∷ counted H)) t
      other_with c None differs next its = refl
      other_with c (Some y) differs next its = let torn_is = its y refl in ap (λ (s : T). Some s) (apart.under y c (counted H) (rw torn_is.node (same_node_self i)) differs next torn_is.ordered)

      other_commit : (c : Commit) → node_of c ≡ m → AreOrdered (c ∷ counted H) → seen_by other (c ∷ counted H) (torn_of i H) (is_on i H) ≡ view_in i other H
      other_commit c own next = let differs : same_node (node_of c) i ≡ false = rw own (same_apart m i ne) in λ k. record {
        state = apart.frame c (counted H) differs next k;
        next = other_with c (torn_of i H) differs next (λ y h. opens i y h) k;
        on = is_on i H;
      }

      other_boot : (k : ℕ) (t : Option Commit) → torn_of m H ≡ t → seen_by other (at_up t m k (counted H)) (torn_of i H) (is_on i H) ≡ view_in i other H
      other_boot k None h = refl
      other_boot k (Some c) h = by (k == count_of m (counted H) + 1)
        where
          by : (counted_too : Bool) → seen_by other (cond counted_too (c ∷ counted H) (counted H)) (torn_of i H) (is_on i H) ≡ view_in i other H
          by true = other_commit c (opens m c h).node (opens m c h).ordered
          by false = refl

      pub others : (x : Reply) (made : Option (Commit × S)) (new : Ledger) → ((c : Commit) (s : S) → made ≡ Some (c, s) → AreOrdered (c ∷ counted H)) → Step n m seen H x made new
          → view_in i other new ≡ view_in i other H
      others x made new next (does_tell T are still) = told_view i other T H are
      others x made new next (does T c s are done on own is) = told_view i other T (entry.Commit c ∷ H) are ∙ other_commit c own (next c s refl)
      others x made new next (tears c s fails own is) = rw (same_apart m i ne) refl
      others x made new next (boots k) = rw (same_apart m i ne) (other_boot k (torn_of m H) refl)
      others x made new next stops = rw (same_apart m i ne) refl

  -- == the day and the rates ==

  pub rests : {S X : Type 0} (n : Counting S X) (m : Node) (seen : List Commit → S) → (x : Reply) (made : Option (Commit × S)) (new : Ledger) → Step n m seen H x made new → Rests H new
  rests n m seen x made new (does_tell T are still) = told_rests T H H are (record { day = refl; rates = refl })
  rests n m seen x made new (does T c s are done on own is) = told_rests T H (entry.Commit c ∷ H) are (record { day = refl; rates = refl })
  rests n m seen x made new (tears c s fails own is) = record { day = refl; rates = refl }
  rests n m seen x made new (boots k) = record { day = refl; rates = refl }
  rests n m seen x made new stops = record { day = refl; rates = refl }
