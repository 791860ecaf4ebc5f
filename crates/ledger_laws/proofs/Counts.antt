-- The counts of a node's cells add up to its commits.
use Rattle.std.proofs.Common.{◌≡◌, ℕ, ◌+◌, ◌-◌, ◌<◌, ◌≤◌, Bool, true, false, List, [], ◌∷◌, ◌++◌, length, Option, Some, None, zero, suc, cond, refl, sym, ap, subst, ◌∙◌, true≢false, ⊎_elim, arith}
use Rattle.std.specs.Prelude.{◌==◌, ◌&&◌, All, Contains, count_by, map}
use Rattle.std.specs.List.{range_with_len}
use Rattle.std.proofs.lemmas.Bool.{cases_Bool, eqb-true, eqb-false, eq-eqb, ne_eqb, and_parts}
use Rattle.std.proofs.lemmas.List.Sums.{sum_by-cons, sum_by-append}
use Rattle.std.proofs.lemmas.List.Elements.{All-head, All-tail, All-cons, All-append, All-map, All-weaker, All-contains, Contains-append_left, Contains-append_right, Contains-append_cases}
use Rattle.std.proofs.lemmas.List.FromFn.{length-range_with_len, get_or-range_with_len, length-map-range_with_len, get_or-map-range_with_len}
use Rattle.std.proofs.Math.Nat.{mod-lt}
use Rattle.bench_base.specs.declared.{words.Node.Node, words.Node.TheVariants.Device, words.Node.TheVariants.Centre, words.Node.TheVariants.Host, words.Node.TheVariants.Verifier, ledger.Commit.Commit, ledger.Commit.TheVariants.Made, ledger.Commit.TheVariants.Asked, ledger.Commit.TheVariants.Applied, ledger.Commit.TheVariants.Debited, ledger.Commit.TheVariants.Registered, ledger.Commit.TheVariants.Opened, ledger.Commit.TheVariants.Deposited, ledger.Commit.TheVariants.Flagged, ledger.Commit.TheVariants.Ruled, ledger.Commit.TheVariants.Settled, ledger.Commit.TheVariants.Ordered, ledger.Commit.TheVariants.Held, ledger.Commit.TheVariants.Began, ledger.Commit.TheVariants.Closed, ledger.Commit.TheVariants.Trusted, ledger.Commit.TheVariants.Accepted}
use Rattle.bench_base.specs.Nodes.{node_of, same_node}
use Rattle.bench_base.specs.Cells.{Place, OfDevice, OfRow, OfCustomer, OfJob, OfTrust, OfBlock, same_place, place_of, commits_at}
use Rattle.bench_base.specs.Jobs.{cell_of}
use Rattle.bench_base.specs.Scans.{block_of, block_place, with_block, blocks}
use Rattle.bench_base.specs.Ranges.{InRange}
use Rattle.bench_base.proofs.Facts.{same_node_true, same_node_self}
use Rattle.ledger_laws.specs.Places.{node_at, commits_in, Hold, PlacesAddUp, device_places, centre_places, host_places, block_cell, verifier_places, CellsAddUp}

-- == places and nodes ==

same_at : (x p : Place) → same_place x p ≡ true → node_at x ≡ node_at p
same_at (OfDevice d) (OfDevice e) h = ap Device (eqb-true d e h)
same_at (OfRow d) (OfRow e) h = refl
same_at (OfCustomer d) (OfCustomer e) h = refl
same_at (OfJob d) (OfJob e) h = refl
same_at (OfTrust d) (OfTrust e) h = refl
same_at (OfBlock d b) (OfBlock e k) h = refl
same_at _ _ h = absurd (true≢false (sym h))

lies_at : (c : Commit) → node_at (place_of c) ≡ node_of c
lies_at (Made d key) = refl
lies_at (Asked d n note) = refl
lies_at (Applied d n v) = refl
lies_at (Debited d piece postage class day version) = refl
lies_at (Registered d origin key) = refl
lies_at (Opened c) = refl
lies_at (Deposited c receipt amount) = refl
lies_at (Flagged c suspended) = refl
lies_at (Ruled d n v note) = refl
lies_at (Settled d n) = refl
lies_at (Ordered j d piece postage class) = refl
lies_at (Held j mark) = refl
lies_at (Began j) = refl
lies_at (Closed j) = refl
lies_at (Trusted d key) = refl
lies_at (Accepted d piece scan) = refl

-- == the sum over places ==

none_lies : (places : List Place) → commits_in places [] ≡ 0
none_lies [] = refl
none_lies (p ∷ places) =
    let step = sum_by-cons (λ (place : Place). commits_at place []) p places in
    let rest = none_lies places in
    omega (arith, step, rest)

-- one commit more adds one for each occurrence of its place in the list
one_more : (c : Commit) (C : List Commit) (places : List Place) → commits_in places (c ∷ C) ≡ commits_in places C + count_by (same_place (place_of c)) places
one_more c C [] = refl
one_more c C (p ∷ places) =
    let after = sum_by-cons (λ (place : Place). commits_at place (c ∷ C)) p places in
    let before = sum_by-cons (λ (place : Place). commits_at place C) p places in
    let here = sum_by-cons (λ (place : Place). cond (same_place (place_of c) place) 1 0) p places in
    let rest = one_more c C places in
    let first = at (same_place (place_of c) p) in
    omega (arith, after, before, here, rest, first)
  where
    at : (t : Bool) → cond t (commits_at p C + 1) (commits_at p C) ≡ commits_at p C + cond t 1 0
    at true = refl
    at false = omega arith

-- a place of another node isn't among them
not_there : (n : Node) (x : Place) (places : List Place) → All (λ place. node_at place ≡ n) places → (node_at x ≡ n → ⊥) → count_by (same_place x) places ≡ 0
not_there n x [] own other = refl
not_there n x (p ∷ places) own other =
    let step = sum_by-cons (λ (place : Place). cond (same_place x place) 1 0) p places in
    let rest = not_there n x places (All-tail (λ place. node_at place ≡ n) p places own) other in
    let here = ⊎_elim
    (λ (t : same_place x p ≡ true). absurd (other (same_at x p t ∙ All-head (λ place. node_at place ≡ n) p places own)))
    (λ (t : same_place x p ≡ false). ap {B = ℕ} (λ b. cond b 1 0) t)
    (cases_Bool (same_place x p)) in
    omega (arith, step, rest, here)

pub places_add_up : PlacesAddUp
places_add_up n places [] h = none_lies places
places_add_up n places (c ∷ C) h =
    let rest = places_add_up n places C (record { own = h.own; once = h.once; each = All-tail (λ c. node_of c ≡ n → Contains places (place_of c)) c C h.each }) in
    let more = one_more c C places in
    ⊎_elim
    (λ (t : same_node (node_of c) n ≡ true).
    let there = All-head (λ c. node_of c ≡ n → Contains places (place_of c)) c C h.each (same_node_true (node_of c) n t) in
    let once = All-contains (λ place. count_by (same_place place) places ≡ 1) places (place_of c) h.once there in
    rw t (omega (arith, more, rest, once)))
    (λ (t : same_node (node_of c) n ≡ false).
    let none = not_there n (place_of c) places h.own (λ e. true≢false (sym (same_node_self n) ∙ ap (λ m. same_node m n) (sym e ∙ lies_at c) ∙ t)) in
    rw t (omega (arith, more, rest, none)))
    (cases_Bool (same_node (node_of c) n))

-- == a run of places ==

record IsRun (n : Node) (f : ℕ → Place) : Type 0 where
  own : (i : ℕ) → node_at (f i) ≡ n
  apart : (i j : ℕ) → same_place (f i) (f j) ≡ (i == j)

module _ (n : Node) (f : ℕ → Place) (run : IsRun n f) where
  run_own : (a k : ℕ) → All (λ place. node_at place ≡ n) (map f (range_with_len a k))
  run_own a k = All-map (λ place. node_at place ≡ n) f (range_with_len a k) (λ i d lt. run.own _)

  step : (i a k : ℕ) → count_by (same_place (f i)) (map f (range_with_len a (suc k))) ≡ cond (i == a) 1 0 + count_by (same_place (f i)) (map f (range_with_len (a + 1) k))
  step i a k = sum_by-cons (λ (place : Place). cond (same_place (f i) place) 1 0) (f a) (map f (range_with_len (a + 1) k))
      ∙ ap {B = ℕ} (λ b. cond b 1 0 + count_by (same_place (f i)) (map f (range_with_len (a + 1) k))) (run.apart i a)

  count_below : (i a k : ℕ) → i < a → count_by (same_place (f i)) (map f (range_with_len a k)) ≡ 0
  count_below i a zero lt = refl
  count_below i a (suc k) lt =
      let here = ap {B = ℕ} (λ b. cond b 1 0) (ne_eqb i a (λ e. omega arith)) in
      let rest = count_below i (a + 1) k (omega arith) in
      omega (arith, step i a k, here, rest)

  count_once : (i a k : ℕ) → a ≤ i → i < a + k → count_by (same_place (f i)) (map f (range_with_len a k)) ≡ 1
  count_once i a zero le lt = absurd (omega arith)
  count_once i a (suc k) le lt = ⊎_elim
      (λ (t : (i == a) ≡ true).
      let same = eqb-true i a t in
      let here = ap {B = ℕ} (λ b. cond b 1 0) t in
      let rest = count_below i (a + 1) k (omega arith) in
      omega (arith, step i a k, here, rest))
      (λ (t : (i == a) ≡ false).
      let other = eqb-false i a t in
      let here = ap {B = ℕ} (λ b. cond b 1 0) t in
      let rest = count_once i (a + 1) k (omega arith) (omega arith) in
      omega (arith, step i a k, here, rest))
      (cases_Bool (i == a))

  -- what holds of each place of the run, by its number
  run_all : (P : Place → Type 0) (a k : ℕ) → ((i : ℕ) → a ≤ i → i < a + k → P (f i)) → All P (map f (range_with_len a k))
  run_all P a k each = All-map P f (range_with_len a k) (λ i d lt.
      let small : i < k = subst (λ z. i < z) (length-range_with_len a k) lt in
      subst (λ z. P (f z)) (sym (get_or-range_with_len a k i d small)) (each (a + i) (omega arith) (omega arith)))

  run_has : (i a k : ℕ) → a ≤ i → i < a + k → Contains (map f (range_with_len a k)) (f i)
  run_has i a k le lt = (
    i - a,
    subst (λ z. i - a < z) (sym (length-map-range_with_len f a k)) (omega arith),
    get_or-map-range_with_len f a k (i - a) i (f i) (omega arith) (omega arith),
  )

-- a place that is not in the run
apart_run : (x : Place) (f : ℕ → Place) (a k : ℕ) → ((i : ℕ) → same_place x (f i) ≡ false) → count_by (same_place x) (map f (range_with_len a k)) ≡ 0
apart_run x f a zero apart = refl
apart_run x f a (suc k) apart =
    let here = sum_by-cons (λ (place : Place). cond (same_place x place) 1 0) (f a) (map f (range_with_len (a + 1) k)) in
    let first = ap {B = ℕ} (λ b. cond b 1 0) (apart a) in
    omega (arith, here, first, apart_run x f (a + 1) k apart)

-- == each node ==

at_device : (d e : ℕ) → Device e ≡ Device d → Contains (OfDevice d ∷ []) (OfDevice e)
at_device d e h = let same : e ≡ d = cc in (0, omega arith, ap OfDevice (sym same))

device_each : (d : ℕ) (c : Commit) → node_of c ≡ Device d → Contains (device_places d) (place_of c)
device_each d (Made e key) h = at_device d e h
device_each d (Asked e n note) h = at_device d e h
device_each d (Applied e n v) h = at_device d e h
device_each d (Debited e piece postage class day version) h = at_device d e h
device_each d _ h = absurd (cc)

device_holds : (d : ℕ) (C : List Commit) → Hold (Device d) (device_places d) C
device_holds d C = record {
  own = All-cons (λ place. node_at place ≡ Device d) (OfDevice d) [] refl (λ k x lt. absurd (omega arith));
  once = All-cons (λ place. count_by (same_place place) (device_places d) ≡ 1) (OfDevice d) [] (rw (eq-eqb d d refl) refl) (λ k x lt. absurd (omega arith));
  each = λ k x lt. device_each d _;
}

jobs_run : IsRun Host OfJob
jobs_run = record { own = λ i. refl; apart = λ i j. refl }

rows_run : IsRun Centre OfRow
rows_run = record { own = λ i. refl; apart = λ i j. refl }

customers_run : IsRun Centre OfCustomer
customers_run = record { own = λ i. refl; apart = λ i j. refl }

job_cell : (j : ℕ) → Contains host_places (OfJob (cell_of j))
unfolding host_places
job_cell j = run_has Host OfJob jobs_run (cell_of j) 0 1024 (omega arith) (omega (arith, mod-lt (j - 1) {m = 1024} (omega arith)))

host_each : (c : Commit) → node_of c ≡ Host → Contains host_places (place_of c)
host_each (Ordered j d piece postage class) h = job_cell j
host_each (Held j mark) h = job_cell j
host_each (Began j) h = job_cell j
host_each (Closed j) h = job_cell j
host_each _ h = absurd (cc)

host_holds : (C : List Commit) → Hold Host host_places C
unfolding host_places
host_holds C = record {
  own = run_own Host OfJob jobs_run 0 1024;
  once = run_all Host OfJob jobs_run (λ place. count_by (same_place place) host_places ≡ 1) 0 1024 (λ i le lt. count_once Host OfJob jobs_run i 0 1024 le lt);
  each = λ k x lt. host_each _;
}

row_cell : (d : ℕ) → 1 ≤ d → d ≤ 8 → Contains centre_places (OfRow d)
unfolding centre_places
row_cell d low high = Contains-append_left (map OfRow (range_with_len 1 8)) (map OfCustomer (range_with_len 1 64)) (OfRow d) (run_has Centre OfRow rows_run d 1 8 low (omega arith))

customer_cell : (c : ℕ) → 1 ≤ c → c ≤ 64 → Contains centre_places (OfCustomer c)
unfolding centre_places
customer_cell c low high = Contains-append_right (map OfRow (range_with_len 1 8)) (map OfCustomer (range_with_len 1 64)) (OfCustomer c) (run_has Centre OfCustomer customers_run c 1 64 low (omega arith))

centre_each : (c : Commit) → InRange c → node_of c ≡ Centre → Contains centre_places (place_of c)
centre_each (Registered d origin key) r h = row_cell d r.0.0 r.0.1
centre_each (Opened c) r h = customer_cell c r.0 r.1
centre_each (Deposited c receipt amount) r h = customer_cell c r.0.0 r.0.1
centre_each (Flagged c suspended) r h = customer_cell c r.0 r.1
centre_each (Ruled d n v note) r h = row_cell d r.0.0 r.0.1
centre_each (Settled d n) r h = row_cell d r.0.0 r.0.1
centre_each _ r h = absurd (cc)

count_split : (x : Place) (ps qs : List Place) (m k : ℕ) → count_by (same_place x) ps ≡ m → count_by (same_place x) qs ≡ k → count_by (same_place x) (ps ++ qs) ≡ m + k
count_split x ps qs m k a b = let both = sum_by-append (λ (place : Place). cond (same_place x place) 1 0) ps qs in omega (arith, both, a, b)

centre_once : All (λ place. count_by (same_place place) centre_places ≡ 1) centre_places
unfolding centre_places
centre_once = All-append (λ place. count_by (same_place place) centre_places ≡ 1) (map OfRow (range_with_len 1 8)) (map OfCustomer (range_with_len 1 64))
    (run_all Centre OfRow rows_run (λ place. count_by (same_place place) centre_places ≡ 1) 1 8
    (λ i le lt. count_split (OfRow i) (map OfRow (range_with_len 1 8)) (map OfCustomer (range_with_len 1 64)) 1 0 (count_once Centre OfRow rows_run i 1 8 le lt) (apart_run (OfRow i) OfCustomer 1 64 (λ j. refl))))
    (run_all Centre OfCustomer customers_run (λ place. count_by (same_place place) centre_places ≡ 1) 1 64
    (λ i le lt. count_split (OfCustomer i) (map OfRow (range_with_len 1 8)) (map OfCustomer (range_with_len 1 64)) 0 1 (apart_run (OfCustomer i) OfRow 1 8 (λ j. refl)) (count_once Centre OfCustomer customers_run i 1 64 le lt)))

centre_own : All (λ place. node_at place ≡ Centre) centre_places
unfolding centre_places
centre_own = All-append (λ place. node_at place ≡ Centre) (map OfRow (range_with_len 1 8)) (map OfCustomer (range_with_len 1 64)) (run_own Centre OfRow rows_run 1 8) (run_own Centre OfCustomer customers_run 1 64)

centre_holds : (C : List Commit) → All InRange C → Hold Centre centre_places C
centre_holds C ranges = record {
  own = centre_own;
  once = centre_once;
  each = All-weaker InRange (λ c. node_of c ≡ Centre → Contains centre_places (place_of c)) centre_each C ranges;
}

-- == the verifier's blocks ==

-- how often a block occurs in a list
times : ℕ → ℕ → List (ℕ × ℕ) → ℕ
times d b xs = count_by (same_place (OfBlock d b)) (map block_cell xs)

times_none : (d b : ℕ) → times d b [] ≡ 0
unfolding times
times_none d b = refl

times_cons : (d b : ℕ) (x : ℕ × ℕ) (xs : List (ℕ × ℕ)) → times d b (x ∷ xs) ≡ cond ((d == x.0) && (b == x.1)) 1 0 + times d b xs
unfolding times
times_cons d b x xs = sum_by-cons (λ (place : Place). cond (same_place (OfBlock d b) place) 1 0) (block_cell x) (map block_cell xs)

-- the tests of one block in either order
turned : (d b e k : ℕ) → ((e == d) && (k == b)) ≡ false → ((d == e) && (b == k)) ≡ false
turned d b e k h = ⊎_elim
    (λ (t : ((d == e) && (b == k)) ≡ true).
    let parts = and_parts (d == e) (b == k) t in
    let one = eq-eqb e d (sym (eqb-true d e parts.0)) in
    let two = eq-eqb k b (sym (eqb-true b k parts.1)) in
    absurd (true≢false (sym (ap (λ x. x && (k == b)) one ∙ two) ∙ h)))
    (λ (t : ((d == e) && (b == k)) ≡ false). t)
    (cases_Bool ((d == e) && (b == k)))

unplaced : (d b : ℕ) (xs : List (ℕ × ℕ)) → block_place d b xs ≡ None → times d b xs ≡ 0
unplaced d b [] h = times_none d b
unplaced d b (x ∷ xs) h = ⊎_elim
    (λ (t : ((x.0 == d) && (x.1 == b)) ≡ true). let no : Some (length xs) ≡ None = rw t at h in absurd (cc))
    (λ (t : ((x.0 == d) && (x.1 == b)) ≡ false).
    let rest = unplaced d b xs (rw t at h) in
    let here = ap {B = ℕ} (λ p. cond p 1 0) (turned d b x.0 x.1 t) in
    omega (arith, times_cons d b x xs, rest, here))
    (cases_Bool ((x.0 == d) && (x.1 == b)))

placed : (d b k : ℕ) (xs : List (ℕ × ℕ)) → block_place d b xs ≡ Some k → Contains (map block_cell xs) (OfBlock d b)
placed d b k [] h = let no : None ≡ Some k = h in absurd (cc)
placed d b k (x ∷ xs) h = ⊎_elim
    (λ (t : ((x.0 == d) && (x.1 == b)) ≡ true).
    let parts = and_parts (x.0 == d) (x.1 == b) t in
    let d_is = eqb-true x.0 d parts.0 in
    let b_is = eqb-true x.1 b parts.1 in
    Contains-append_left (block_cell x ∷ []) (map block_cell xs) (OfBlock d b) (0, omega arith, λ i. OfBlock (d_is i) (b_is i)))
    (λ (t : ((x.0 == d) && (x.1 == b)) ≡ false). Contains-append_right (block_cell x ∷ []) (map block_cell xs) (OfBlock d b) (placed d b k xs (rw t at h)))
    (cases_Bool ((x.0 == d) && (x.1 == b)))

abbrev Once : List (ℕ × ℕ) → Type 0
Once xs = All (λ x. times x.0 x.1 xs ≡ 1) xs

-- a block that is there once differs from one that isn't there
other_block : (d b : ℕ) (x : ℕ × ℕ) (xs : List (ℕ × ℕ)) → times d b xs ≡ 0 → times x.0 x.1 xs ≡ 1 → times x.0 x.1 ((d, b) ∷ xs) ≡ 1
other_block d b x xs none one = ⊎_elim
    (λ (t : ((x.0 == d) && (x.1 == b)) ≡ true).
    let parts = and_parts (x.0 == d) (x.1 == b) t in
    let d_is = eqb-true x.0 d parts.0 in
    let b_is = eqb-true x.1 b parts.1 in
    let same : times x.0 x.1 xs ≡ times d b xs = λ i. times (d_is i) (b_is i) xs in
    absurd (omega (arith, same, none, one)))
    (λ (t : ((x.0 == d) && (x.1 == b)) ≡ false). let here = ap {B = ℕ} (λ p. cond p 1 0) t in omega (arith, times_cons x.0 x.1 (d, b) xs, here, one))
    (cases_Bool ((x.0 == d) && (x.1 == b)))

grown_once : (d b : ℕ) (xs : List (ℕ × ℕ)) (o : Option ℕ) → block_place d b xs ≡ o → Once xs → Once (with_block d b xs o)
grown_once d b xs (Some k) h once = once
grown_once d b xs None h once =
    let none = unplaced d b xs h in
    let here = ap {B = ℕ} (λ p. cond (p && (b == b)) 1 0) (eq-eqb d d refl) ∙ ap {B = ℕ} (λ p. cond p 1 0) (eq-eqb b b refl) in
    All-cons (λ x. times x.0 x.1 ((d, b) ∷ xs) ≡ 1) (d, b) xs
    (omega (arith, times_cons d b (d, b) xs, none, here))
    (All-weaker (λ x. times x.0 x.1 xs ≡ 1) (λ x. times x.0 x.1 ((d, b) ∷ xs) ≡ 1) (λ x one. other_block d b x xs none one) xs once)

blocks_once : (C : List Commit) → Once (blocks C)
blocks_once [] = λ k x lt. absurd (omega arith)
blocks_once (Accepted d p scan ∷ C) = grown_once d (block_of p) (blocks C) (block_place d (block_of p) (blocks C)) refl (blocks_once C)
blocks_once (_ ∷ C) = blocks_once C

grown_keeps : (d b : ℕ) (xs : List (ℕ × ℕ)) (o : Option ℕ) (x : Place) → Contains (map block_cell xs) x → Contains (map block_cell (with_block d b xs o)) x
grown_keeps d b xs (Some k) x h = h
grown_keeps d b xs None x h = Contains-append_right (OfBlock d b ∷ []) (map block_cell xs) x h

grown_has : (d b : ℕ) (xs : List (ℕ × ℕ)) (o : Option ℕ) → block_place d b xs ≡ o → Contains (map block_cell (with_block d b xs o)) (OfBlock d b)
grown_has d b xs (Some k) h = placed d b k xs h
grown_has d b xs None h = Contains-append_left (OfBlock d b ∷ []) (map block_cell xs) (OfBlock d b) (0, omega arith, refl)

-- a further commit leaves the blocks that are there
blocks_keep : (c : Commit) (C : List Commit) (x : Place) → Contains (map block_cell (blocks C)) x → Contains (map block_cell (blocks (c ∷ C))) x
blocks_keep (Accepted d p scan) C x h = grown_keeps d (block_of p) (blocks C) (block_place d (block_of p) (blocks C)) x h
blocks_keep _ C x h = h

trust_run : IsRun Verifier OfTrust
trust_run = record { own = λ i. refl; apart = λ i j. refl }

-- where the commit is the verifier's, it lies in a cell of a device or of a block
abbrev Lies : List Place → Commit → Type 0
Lies cells c = node_of c ≡ Verifier → Contains (map OfTrust (range_with_len 1 8) ++ cells) (place_of c)

lies_more : (c : Commit) (C : List Commit) (x : Commit) → Lies (map block_cell (blocks C)) x → Lies (map block_cell (blocks (c ∷ C))) x
lies_more c C x h is = ⊎_elim
    (λ (t : Contains (map OfTrust (range_with_len 1 8)) (place_of x)). Contains-append_left (map OfTrust (range_with_len 1 8)) (map block_cell (blocks (c ∷ C))) (place_of x) t)
    (λ (t : Contains (map block_cell (blocks C)) (place_of x)). Contains-append_right (map OfTrust (range_with_len 1 8)) (map block_cell (blocks (c ∷ C))) (place_of x) (blocks_keep c C (place_of x) t))
    (Contains-append_cases (map OfTrust (range_with_len 1 8)) (map block_cell (blocks C)) (place_of x) (h is))

lies_first : (c : Commit) (C : List Commit) → InRange c → Lies (map block_cell (blocks (c ∷ C))) c
lies_first (Trusted d key) C r is = Contains-append_left (map OfTrust (range_with_len 1 8)) (map block_cell (blocks C)) (OfTrust d) (run_has Verifier OfTrust trust_run d 1 8 r.0.0 (let high = r.0.1 in omega arith))
lies_first (Accepted d p scan) C r is = Contains-append_right (map OfTrust (range_with_len 1 8)) _ (OfBlock d (block_of p)) (grown_has d (block_of p) (blocks C) (block_place d (block_of p) (blocks C)) refl)
lies_first _ C r is = absurd (cc)

lie_there : (C : List Commit) → All InRange C → All (Lies (map block_cell (blocks C))) C
lie_there [] ranges = λ k x lt. absurd (omega arith)
lie_there (c ∷ C) ranges = All-cons (Lies (map block_cell (blocks (c ∷ C)))) c C (lies_first c C (All-head InRange c C ranges))
    (All-weaker (Lies (map block_cell (blocks C))) (Lies (map block_cell (blocks (c ∷ C)))) (lies_more c C) C (lie_there C (All-tail InRange c C ranges)))

apart_blocks : (d : ℕ) (xs : List (ℕ × ℕ)) → count_by (same_place (OfTrust d)) (map block_cell xs) ≡ 0
apart_blocks d [] = refl
apart_blocks d (x ∷ xs) = let here = sum_by-cons (λ (place : Place). cond (same_place (OfTrust d) place) 1 0) (block_cell x) (map block_cell xs) in omega (arith, here, apart_blocks d xs)

verifier_once : (C : List Commit) → All (λ place. count_by (same_place place) (verifier_places C) ≡ 1) (verifier_places C)
unfolding verifier_places times
verifier_once C = All-append (λ place. count_by (same_place place) (verifier_places C) ≡ 1) (map OfTrust (range_with_len 1 8)) (map block_cell (blocks C))
    (run_all Verifier OfTrust trust_run (λ place. count_by (same_place place) (verifier_places C) ≡ 1) 1 8
    (λ i le lt. count_split (OfTrust i) (map OfTrust (range_with_len 1 8)) (map block_cell (blocks C)) 1 0 (count_once Verifier OfTrust trust_run i 1 8 le lt) (apart_blocks i (blocks C))))
    (All-map (λ place. count_by (same_place place) (verifier_places C) ≡ 1) block_cell (blocks C)
    (All-weaker (λ x. times x.0 x.1 (blocks C) ≡ 1) (λ x. count_by (same_place (block_cell x)) (verifier_places C) ≡ 1)
    (λ x one. count_split (block_cell x) (map OfTrust (range_with_len 1 8)) (map block_cell (blocks C)) 0 1 (apart_run (block_cell x) OfTrust 1 8 (λ j. refl)) one) (blocks C) (blocks_once C)))

verifier_holds : (C : List Commit) → All InRange C → Hold Verifier (verifier_places C) C
unfolding verifier_places
verifier_holds C ranges = record {
  own = All-append (λ place. node_at place ≡ Verifier) (map OfTrust (range_with_len 1 8)) (map block_cell (blocks C)) (run_own Verifier OfTrust trust_run 1 8)
      (All-map (λ place. node_at place ≡ Verifier) block_cell (blocks C) (λ k x lt. refl));
  once = verifier_once C;
  each = lie_there C ranges;
}

pub cells_add_up : (C : List Commit) → All InRange C → CellsAddUp C
cells_add_up C ranges = record {
  devices = λ d. places_add_up (Device d) (device_places d) C (device_holds d C);
  centre = places_add_up Centre centre_places C (centre_holds C ranges);
  host = places_add_up Host host_places C (host_holds C);
  verifier = places_add_up Verifier (verifier_places C) C (verifier_holds C ranges);
}
