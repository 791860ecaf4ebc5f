-- What each entry of a ledger leaves as it is, whatever reply an event gets.
use Rattle.std.proofs.Common.{◌≡◌, ℕ, suc, ◌+◌, Bool, true, false, cond, List, [], ◌∷◌, ◌++◌, Option, Some, None, inr, refl, sym, ap, ◌∙◌, subst, arith}
use Rattle.std.proofs.lemmas.Bool.{eqb-true, and_parts}
use Rattle.std.specs.Prelude.{◌==◌, ◌&&◌, All, Contains}
use Rattle.std.proofs.lemmas.List.Elements.{All-cons, All-contains, All-weaker, All-contains_itself}
use Rattle.bench_base.specs.declared.{words.Node.Node, ledger.Commit.Commit, ledger.Commit.TheVariants.Accepted, ledger.Entry.Entry}
use Rattle.bench_base.specs.declared.ledger.Entry.TheVariants as e
use Rattle.bench_base.specs.Nodes.{same_node}
use Rattle.bench_base.specs.Plans.{Plan}
use Rattle.bench_base.specs.Ledger.{Ledger, IsReleased, count_of, torn_of, at_up, counted}
use Rattle.bench_base.specs.Replies.{ReplyClass, Did, Refused, Armed, CameOn, WentOff, LostPower, Faulted, WasDamaged, PrinterFailed, RatesFailed}
use Rattle.bench_base.specs.Scans.{accepted}
use Rattle.bench_base.specs.Rows.{first_of}
use Rattle.bench_base.proofs.Facts.{kept_first, some_none}
use Rattle.node_acts.specs.Plans.{with_commit, with_torn, after_told}
use Rattle.scan_laws.specs.Acceptances.{EachAccepted}

-- == what any entry keeps, each reply keeps ==

module _ (P : Ledger → Type 0) (entry : (k : Entry) (H : Ledger) → P H → P (k ∷ H)) where
  added : (l : List Entry) (H : Ledger) → P H → P (l ++ H)
  added [] H h = h
  added (k ∷ l) H h = entry k (l ++ H) (added l H h)

  committed : (w : Option Commit) (H : Ledger) → P H → P (with_commit w H)
  committed None H h = h
  committed (Some c) H h = entry (e.Commit c) H h

  torn : (w : Option Commit) (m : Node) (H : Ledger) → P H → P (with_torn w m H)
  torn None m H h = h
  torn (Some c) m H h = entry (e.Torn m c) H h

  pub kept_told : (p : Plan) (t : ReplyClass) (H : Ledger) → P H → P (after_told p t H)
  kept_told p Did H h = added p.after _ (committed p.commit H h)
  kept_told p Refused H h = added p.after _ (committed p.commit H h)
  kept_told p (Armed m) H h = added p.after _ (committed p.commit H h)
  kept_told p (CameOn m k) H h = entry (e.Up m k) H h
  kept_told p (WentOff m) H h = added p.after _ (committed p.commit H h)
  kept_told p (LostPower m) H h = torn p.commit m H h
  kept_told p (Faulted m) H h = torn p.commit m H h
  kept_told p (WasDamaged m) H h = added p.after _ (committed p.commit H h)
  kept_told p (PrinterFailed j) H h = committed p.commit H h
  kept_told p RatesFailed H h = h

-- of the counted commits: what each commit more keeps
module _ (P : List Commit → Type 0) (more : (c : Commit) (C : List Commit) → P C → P (c ∷ C)) where
  up : (w : Option Commit) (n : Node) (k : ℕ) (C : List Commit) → P C → P (at_up w n k C)
  up None n k C h = h
  up (Some c) n k C h = go (k == count_of n C + 1)
    where
      go : (b : Bool) → P (cond b (c ∷ C) C)
      go true = more c C h
      go false = h

  pub counted_kept : (k : Entry) (H : Ledger) → P (counted H) → P (counted (k ∷ H))
  counted_kept (e.Commit c) H h = more c (counted H) h
  counted_kept (e.Up n k) H h = up (torn_of n H) n k (counted H) h
  counted_kept _ H h = h

accepted_more : (d p n : ℕ) (c : Commit) (C : List Commit) → accepted d p C ≡ Some n → accepted d p (c ∷ C) ≡ Some n
accepted_more d p n (Accepted f q scan) C is = kept_first ((f == d) && (q == p)) (accepted d p C) scan n is
accepted_more d p n _ C is = is

-- the first acceptance of a piece stays
pub accepted_kept : (d p n : ℕ) (plan : Plan) (t : ReplyClass) (H : Ledger) → accepted d p (counted H) ≡ Some n → accepted d p (counted (after_told plan t H)) ≡ Some n
accepted_kept d p n plan t H is = kept_told (λ K. accepted d p (counted K) ≡ Some n) (counted_kept (λ C. accepted d p C ≡ Some n) (accepted_more d p n)) plan t H is

pub accepted_entry : (d p n : ℕ) (k : Entry) (H : Ledger) → accepted d p (counted H) ≡ Some n → accepted d p (counted (k ∷ H)) ≡ Some n
accepted_entry d p n k H is = counted_kept (λ C. accepted d p C ≡ Some n) (accepted_more d p n) k H is

more_within : (c x : Commit) (C : List Commit) → Contains C x → Contains (c ∷ C) x
more_within c x C (k, lt, is) = (suc k, omega (arith, lt), is)

first_within : (b : Bool) (d p n : ℕ) (e q scan : ℕ) (C : List Commit) (o : Option ℕ) → (b ≡ true → (e ≡ d) × (q ≡ p)) → (o ≡ Some n → Contains C (Accepted d p n)) → cond b (first_of o (Some scan)) o ≡ Some n
    → Contains (Accepted e q scan ∷ C) (Accepted d p n)
first_within true d p n e q scan C None same later is =
    let at = same refl in let number : scan ≡ n = cc in (0, omega arith, ap (λ (f : ℕ). Accepted f q scan) at.0 ∙ (ap (λ (r : ℕ). Accepted d r scan) at.1 ∙ ap (λ (m : ℕ). Accepted d p m) number))
first_within true d p n e q scan C (Some m) same later is = more_within (Accepted e q scan) (Accepted d p n) C (later is)
first_within false d p n e q scan C o same later is = more_within (Accepted e q scan) (Accepted d p n) C (later is)

-- and it is among the commits
pub accepted_within : (d p n : ℕ) (C : List Commit) → accepted d p C ≡ Some n → Contains C (Accepted d p n)
accepted_within d p n [] is = absurd (some_none (sym is))
accepted_within d p n (Accepted e q scan ∷ C) is =
    first_within ((e == d) && (q == p)) d p n e q scan C (accepted d p C) (λ both. let at = and_parts (e == d) (q == p) both in (eqb-true e d at.0, eqb-true q p at.1)) (accepted_within d p n C) is
accepted_within d p n (c ∷ C) is = more_within c (Accepted d p n) C (accepted_within d p n C is)

-- what was released stays so
pub released_entry : (x : List ℕ) (k : Entry) (H : Ledger) → IsReleased x H → IsReleased x (k ∷ H)
released_entry x (e.Released d p y) H h = inr h
released_entry x _ H h = h

pub released_kept : (x : List ℕ) (plan : Plan) (t : ReplyClass) (H : Ledger) → IsReleased x H → IsReleased x (after_told plan t H)
released_kept x plan t H h = kept_told (λ K. IsReleased x K) (released_entry x) plan t H h

-- == each acceptance ==

module _ (P : ℕ → ℕ → ℕ → Type 0) where
  -- P of the commit, where it is an acceptance
  abbrev pub Is : Commit → Type 0
  Is (Accepted d p n) = P d p n
  Is _ = Unit {0}

  -- so of each, in one form for all commits
  pub record Each (H : Ledger) : Type 0 where
    pub counts : All Is (counted H)
    pub torn : (m : Node) (c : Commit) → torn_of m H ≡ Some c → Is c

  one_is : (c : Commit) → ((d p n : ℕ) → c ≡ Accepted d p n → P d p n) → Is c
  one_is (Accepted d p n) is = is d p n refl
  one_is _ is = tt

  pub each_of : (H : Ledger) → EachAccepted P H → Each H
  each_of H all = record {
    counts = All-weaker (Contains (counted H)) Is (λ c within. one_is c (λ d p n same. all.counts d p n (subst (λ (x : Commit). Contains (counted H) x) same within))) (counted H) (All-contains_itself (counted H));
    torn = λ m c is. one_is c (λ d p n same. all.torn m d p n (subst (λ (x : Commit). torn_of m H ≡ Some x) same is));
  }

  pub of_each : (H : Ledger) → Each H → EachAccepted P H
  of_each H all = record {
    counts = λ d p n within. All-contains Is (counted H) (Accepted d p n) all.counts within;
    torn = λ m d p n is. all.torn m (Accepted d p n) is;
  }

  -- what an entry has to provide
  abbrev pub Brings : Entry → Type 0
  Brings (e.Commit c) = Is c
  Brings (e.Torn m c) = Is c
  Brings _ = Unit {0}

  abbrev pub AllBring : List Entry → Type 0
  AllBring [] = Unit {0}
  AllBring (k ∷ l) = Brings k × AllBring l

  abbrev pub CommitBrings : Option Commit → Type 0
  CommitBrings None = Unit {0}
  CommitBrings (Some c) = Is c

  -- and a plan
  abbrev pub PlanBrings : Plan → Type 0
  PlanBrings p = CommitBrings p.commit × AllBring p.after

  torn_case : (b : Bool) (c x : Commit) (w : Option Commit) → Is c → (w ≡ Some x → Is x) → cond b (Some c) w ≡ Some x → Is x
  torn_case true c x w is was same = subst (λ (y : Commit). Is y) (cc) is
  torn_case false c x w is was same = was same

  up_case : (b : Bool) (x : Commit) (w : Option Commit) → (w ≡ Some x → Is x) → cond b None w ≡ Some x → Is x
  up_case true x w was same = absurd (cc)
  up_case false x w was same = was same

  up_each : (w : Option Commit) (n : Node) (k : ℕ) (C : List Commit) → ((c : Commit) → w ≡ Some c → Is c) → All Is C → All Is (at_up w n k C)
  up_each None n k C was h = h
  up_each (Some c) n k C was h = go (k == count_of n C + 1)
    where
      go : (b : Bool) → All Is (cond b (c ∷ C) C)
      go true = All-cons Is c C (was c refl) h
      go false = h

  entry_each : (k : Entry) (H : Ledger) → Brings k → Each H → Each (k ∷ H)
  entry_each (e.Commit c) H brings all = record { counts = All-cons Is c (counted H) brings all.counts; torn = all.torn }
  entry_each (e.Torn n c) H brings all = record { counts = all.counts; torn = λ m x is. torn_case (same_node n m) c x (torn_of m H) brings (all.torn m x) is }
  entry_each (e.Up n k) H brings all = record {
    counts = up_each (torn_of n H) n k (counted H) (all.torn n) all.counts;
    torn = λ m x is. up_case (same_node n m) x (torn_of m H) (all.torn m x) is;
  }
  entry_each _ H brings all = record { counts = all.counts; torn = all.torn }

  pub begin_each : (H : Ledger) → Each H → Each (e.Begin ∷ H)
  begin_each H all = entry_each e.Begin H tt all

  added_each : (l : List Entry) (H : Ledger) → AllBring l → Each H → Each (l ++ H)
  added_each [] H brings all = all
  added_each (k ∷ l) H brings all = entry_each k (l ++ H) brings.0 (added_each l H brings.1 all)

  commit_each : (w : Option Commit) (H : Ledger) → CommitBrings w → Each H → Each (with_commit w H)
  commit_each None H brings all = all
  commit_each (Some c) H brings all = entry_each (e.Commit c) H brings all

  torn_each : (w : Option Commit) (m : Node) (H : Ledger) → CommitBrings w → Each H → Each (with_torn w m H)
  torn_each None m H brings all = all
  torn_each (Some c) m H brings all = entry_each (e.Torn m c) H brings all

  -- whatever the event is reported as
  pub told_each : (p : Plan) (t : ReplyClass) (H : Ledger) → PlanBrings p → Each H → Each (after_told p t H)
  told_each p Did H brings all = added_each p.after _ brings.1 (commit_each p.commit H brings.0 all)
  told_each p Refused H brings all = added_each p.after _ brings.1 (commit_each p.commit H brings.0 all)
  told_each p (Armed m) H brings all = added_each p.after _ brings.1 (commit_each p.commit H brings.0 all)
  told_each p (CameOn m k) H brings all = entry_each (e.Up m k) H tt all
  told_each p (WentOff m) H brings all = added_each p.after _ brings.1 (commit_each p.commit H brings.0 all)
  told_each p (LostPower m) H brings all = torn_each p.commit m H brings.0 all
  told_each p (Faulted m) H brings all = torn_each p.commit m H brings.0 all
  told_each p (WasDamaged m) H brings all = added_each p.after _ brings.1 (commit_each p.commit H brings.0 all)
  told_each p (PrinterFailed j) H brings all = commit_each p.commit H brings.0 all
  told_each p RatesFailed H brings all = all
