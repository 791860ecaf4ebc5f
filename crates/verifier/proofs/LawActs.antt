-- The acts of the verifier leave sound rows, follow the commits, and are by their rows what they are by them.
use Rattle.std.proofs.Common.{◌≡◌, ℕ, ℤ, zero, suc, ◌+◌, ◌-◌, ◌%◌, ◌<◌, ◌≤◌, ◌^◌, List, [], ◌∷◌, length, drop, option_map, Option, Some, None, Bool, true, false, Ok, Err, refl, sym, ap, ap₂, subst, ◌∙◌, arith, true≢false, rules}
use Rattle.std.specs.Prelude.{Result, ◌==◌, is_some, IsSome, IfSome, All, nat_le, if◌then◌else◌, nat_lt}
use Rattle.std.proofs.lemmas.Bool.Decides.{nat_tests}
use Rattle.std.proofs.lemmas.List.Elements.{All-head, All-tail}
use Rattle.bench_base.specs.declared.{sizes.TheConstants.VERIFIER_CELLS, sizes.TheConstants.FIRST_BLOCK, sizes.TheConstants.BLOCK_PIECES, words.Node.TheVariants.Verifier, ledger.Commit.Commit, refusals.MarkFault.MarkFault, refusals.ScanRefusal.ScanRefusal}
use Rattle.bench_base.specs.declared.ledger.Commit.TheVariants as c
use Rattle.bench_base.specs.declared.refusals.ScanRefusal.TheVariants as no
use Rattle.bench_base.specs.Cells.{OfTrust, OfBlock}
use Rattle.bench_base.specs.Cells as cells
use Rattle.bench_base.specs.Ledger.{count_of}
use Rattle.bench_base.specs.Nodes.{node_of, same_node}
use Rattle.bench_base.specs.Ranges.{InRange, IsDevice, IsKey, IsCount}
use Rattle.bench_base.specs.Scans.{trusted, accepted, block_of, block_place, blocks}
use Rattle.bench_base.specs.Table.{IsBytes, Size, Fit}
use Rattle.node_acts.specs.declared.act.Act.TheVariants.{Refuse}
use Rattle.node_acts.specs.RowList.{row_at, row_of, commits_at, commits_in}
use Rattle.node_acts.specs.RowLaws.{put_counts}
use Rattle.node_acts.proofs.Blanks.{none_at, counts_none}
use Rattle.indicium.specs.declared.Mark.{Mark}
use Rattle.indicium.specs.Marks.{read_mark, mark_values}
use Rattle.indicium.proofs.Readings.{read_mark_found}
use Rattle.psd_wire.specs.Codes.{has_code}
use Rattle.verifier.specs.declared.acts.Change.TheVariants as change
use Rattle.verifier.specs.declared.acts.Spot.{Spot}
use Rattle.verifier.specs.Answers.{scan_rows, scan_answer}
use Rattle.verifier.specs.Order.{IsRoomy}
use Rattle.verifier.specs.Acts.{in_rows, trusted_act, answered_act, spot_act, marked_act, read_act}
use Rattle.verifier.specs.ActLaws.{IsFit, LeavesSound, ActsLeaveSound, IsNext, FollowsCommits, ActsFollow, ActsArePlanned}
use Rattle.verifier.specs.Plans.{spot_after, in_commits}
use Rattle.verifier.specs.Records.{trust_after, block_after, cell_after, seen_after, IsRecorded, block_at}
use Rattle.verifier.specs.Rows.{TrustRow}
use Rattle.verifier.specs.Seen.{Seen, row_in, key_at, block_in, cell_of_block, used, spot_by, spot_in, counting, AreSound, IsRowAt}
use Rattle.verifier.proofs.Basics.{no_pair}
use Rattle.verifier.proofs.After.{after_long, after_at, trust_cell, block_cell, key_after, trusted_range, found_after, none_after, used_after, spot_follows, trusts_more, accepts_known, accepts_new}
use Rattle.verifier.proofs.Blocks.{place_at, blocks_kept, blocks_more, past_all, untrusted_blank, unused_blank, place_inside}
use Rattle.verifier.proofs.Cells.{shown_some, shown_none}
use Rattle.bench_base.proofs.Rows.{passes}
use Rattle.verifier.proofs.Passed.{may_accept}
use Rattle.verifier.proofs.Fits.{CanAccept, trust_fits, accept_fits, block_accepts, next_accepts}

is_most : (m n : ℕ) → nat_le m n ≡ false → n < m
is_most m n is = grind (arith, nat_tests)

is_under : (m n : ℕ) → n < m → nat_le m n ≡ false
is_under m n lt = grind (arith, nat_tests)

-- == a mark ==

by_flag : (P : List Size → Type 0) (b : Bool) (first second : List Size) → P first → P second → P (if b then first else second)
by_flag P true first second one two = one
by_flag P false first second one two = two

-- the piece of a mark that is read has 32 bits
piece_word : (bytes : List ℕ) (k : Mark × List ℕ) → IsBytes bytes → read_mark bytes ≡ Ok k → k.0.piece < 2 ^ 32
piece_word bytes k h is =
    by_flag (λ fields. Fit fields (drop 2 (mark_values k.0)) → k.0.piece < 2 ^ 32) (k.0.version == 1) _ _ (λ fit. fit.1.0) (λ fit. fit.1.0)
    ((read_mark_found bytes k h is).0.fit.1.1)

-- a mark whose piece is to be accepted was not accepted before, and there is room
fresh_answer : (n : ℕ) (day today : ℤ) (full : Bool) (a : Option ℕ) → scan_answer n day today full a ≡ Ok false → (a ≡ None) × (full ≡ false)
fresh_answer n day today full (Some first) is = absurd (by (first == n) is)
  where
    by : (t : Bool) → (if t then Ok true else Err (no.Duplicate first)) ≡ Ok false → ⊥
    by true h = cc
    by false h = cc
fresh_answer n day today full None is = (refl, (may_accept day today full (passes (scan_rows day today full) (Ok false) false (search rules) is).0).room)

-- == the rows stay sound ==

module _ (s : Seen) (sound : AreSound s) where
  leaves_trust : (d : ℕ) (key : List ℕ) (known : Bool) → IsDevice d → IsKey key → LeavesSound s (trusted_act d key known)
  leaves_trust d key true device fits = tt
  leaves_trust d key false device fits = (trust_fits s sound d key device fits, refl)

  -- where there is room the cell of the piece can take it
  can_accept : (d p : ℕ) (o : Option ℕ) → IsSome (key_at s d) → p < 2 ^ 32 → cell_of_block s d (block_of p) ≡ o → nat_le VERIFIER_CELLS (spot_by s p o).cell ≡ false
      → CanAccept s (spot_by s p o).cell d (block_of p)
  can_accept d p (Some cell) has small is room = block_accepts s sound d (block_of p) has (omega (arith, small)) cell is
  can_accept d p None has small is room = next_accepts s sound d (block_of p) has (omega (arith, small)) is (is_most VERIFIER_CELLS (FIRST_BLOCK + used s) room)

  leaves_scan : (n : ℕ) (bytes : List ℕ) (today : ℤ) → IsCount n → IsBytes bytes → (x : Result (Mark × List ℕ) MarkFault) → read_mark bytes ≡ x → LeavesSound s (read_act n bytes today (in_rows s) x)
  leaves_scan n bytes today count h (Err fault) is = tt
  leaves_scan n bytes today count h (Ok k) is = marked (key_at s k.0.device) refl
    where
      spot : Spot
      spot = spot_in s k.0.device k.0.piece

      answered : IsSome (key_at s k.0.device) → (x : Result Bool ScanRefusal) → scan_answer n k.0.day today (nat_le VERIFIER_CELLS (spot_in s k.0.device k.0.piece).cell) (spot_in s k.0.device k.0.piece).accepted ≡ x
          → LeavesSound s (answered_act n k.0 (spot_in s k.0.device k.0.piece).cell x)
      answered has (Err y) a = tt
      answered has (Ok true) a = tt
      answered has (Ok false) a =
          let room = (fresh_answer n k.0.day today (nat_le VERIFIER_CELLS (spot_in s k.0.device k.0.piece).cell) (spot_in s k.0.device k.0.piece).accepted a).1 in (
            accept_fits s sound (spot_in s k.0.device k.0.piece).cell k.0.device (block_of k.0.piece) (k.0.piece % BLOCK_PIECES) n
                (can_accept k.0.device k.0.piece (cell_of_block s k.0.device (block_of k.0.piece)) has (piece_word bytes k h is) refl room) (place_inside k.0.piece) count.0 count.1,
            refl,
          )

      coded : IsSome (key_at s k.0.device) → (t : Bool) → LeavesSound s (if t then spot_act n k.0 today (spot_in s k.0.device k.0.piece) else Refuse no.BadCode)
      coded has true = answered has (scan_answer n k.0.day today (nat_le VERIFIER_CELLS (spot_in s k.0.device k.0.piece).cell) (spot_in s k.0.device k.0.piece).accepted) refl
      coded has false = tt

      marked : (o : Option (List ℕ)) → key_at s k.0.device ≡ o → LeavesSound s (marked_act n bytes k.0 today o (spot_in s k.0.device k.0.piece))
      marked None at = tt
      marked (Some key) at = coded (ap is_some at) (has_code key bytes)

pub leaves : ActsLeaveSound
leaves s sound = record {
  trusted = λ d key device fits. leaves_trust s sound d key (is_some (key_at s d)) device fits;
  scanned = λ n bytes today count h. leaves_scan s sound n bytes today count h (read_mark bytes) refl;
}

-- == the rows of commits ==

-- at the start each cell is blank
pub no_cell : (k : ℕ) → cell_after k [] ≡ None
no_cell k = by (nat_lt k FIRST_BLOCK)
  where
    by : (t : Bool) → (if t then trust_after (k + 1) [] else option_map (block_after []) (block_at (k - FIRST_BLOCK) [])) ≡ None
    by true = refl
    by false = refl

pub blank : (k : ℕ) → row_at (seen_after []) k ≡ None
blank k = none_at VERIFIER_CELLS (λ i. cell_after i []) no_cell k

blank_row : (k : ℕ) → row_in (seen_after []) k ≡ None
blank_row k = ap (λ o. row_of o) (blank k)

pub none_sound : AreSound (seen_after [])
none_sound = record {
  long = after_long [];
  each = λ k. subst (λ o. IfSome o (IsRowAt k)) (sym (blank_row k)) tt;
  together = record {
    trusted = λ k d b is. absurd (no_pair d b (sym (ap (λ o. block_in o) (blank_row k)) ∙ is));
    packed = λ k from has. absurd (true≢false (sym has ∙ ap is_some (blank (k + 1))));
    distinct = λ i j d b is is'. absurd (no_pair d b (sym (ap (λ o. block_in o) (blank_row i)) ∙ is));
  };
}

-- a piece that is accepted in this cell
record Takes (C : List Commit) (d p n cell : ℕ) : Type 0 where
  fit : IsFit (seen_after C) (change.Accept cell d (block_of p) (p % BLOCK_PIECES) n)
  seen : counting.after (seen_after C) (change.Accept cell d (block_of p) (p % BLOCK_PIECES) n) ≡ seen_after (c.Accepted d p n ∷ C)
  count : commits_at (row_at (seen_after C) cell) ≡ cells.commits_at (OfBlock d (block_of p)) C
  roomy : IsRoomy (c.Accepted d p n ∷ C)

module _ (C : List Commit) (rec : IsRecorded C) (sound : AreSound (seen_after C)) (d p n : ℕ) (trusted_is : IsSome (trusted d C)) (none : accepted d p C ≡ None) (small : p < 2 ^ 32) (count : IsCount n) where
  keyed : IsSome (key_at (seen_after C) d)
  keyed = ap is_some (key_after C d rec.range) ∙ trusted_is

  takes_known : (i : ℕ) → block_place d (block_of p) (blocks C) ≡ Some i → Takes C d p n (FIRST_BLOCK + i)
  takes_known i is =
      let at = place_at (blocks C) d (block_of p) i is in
      record {
        fit = accept_fits (seen_after C) sound (FIRST_BLOCK + i) d (block_of p) (p % BLOCK_PIECES) n
            (block_accepts (seen_after C) sound d (block_of p) keyed (omega (arith, small)) (FIRST_BLOCK + i) (found_after C d (block_of p) i rec.roomy is)) (place_inside p) count.0 count.1;
        seen = accepts_known C d p n none i rec.roomy is;
        count = ap (λ o. commits_at o) (after_at C (FIRST_BLOCK + i) (omega (arith, at.0, rec.roomy)) ∙ block_cell C i ∙ ap (option_map (block_after C)) at.1);
        roomy = subst (λ xs. length xs ≤ 1024) (sym (blocks_kept d p n C i is)) rec.roomy;
      }

  takes_new : block_place d (block_of p) (blocks C) ≡ None → FIRST_BLOCK + length (blocks C) < VERIFIER_CELLS → Takes C d p n (FIRST_BLOCK + length (blocks C))
  takes_new is lt = record {
    fit = subst (λ m. IsFit (seen_after C) (change.Accept (FIRST_BLOCK + m) d (block_of p) (p % BLOCK_PIECES) n)) (used_after C rec.roomy)
        (accept_fits (seen_after C) sound (FIRST_BLOCK + used (seen_after C)) d (block_of p) (p % BLOCK_PIECES) n
        (next_accepts (seen_after C) sound d (block_of p) keyed (omega (arith, small)) (none_after C d (block_of p) is) (omega (arith, lt, used_after C rec.roomy))) (place_inside p) count.0 count.1);
    seen = accepts_new C d p n none lt is;
    count = ap (λ o. commits_at o) (after_at C (FIRST_BLOCK + length (blocks C)) lt ∙ block_cell C (length (blocks C)) ∙ ap (option_map (block_after C)) (past_all (blocks C) (length (blocks C)) (omega arith)))
        ∙ sym (unused_blank d (block_of p) C is);
    roomy = subst (λ xs. length xs ≤ 1024) (sym (blocks_more d p n C is)) (omega (arith, lt));
  }

  -- in the cell of its block or the next, where there is room
  takes : (o : Option ℕ) → block_place d (block_of p) (blocks C) ≡ o → (spot_after (blocks C) o (accepted d p C)).cell < VERIFIER_CELLS → Takes C d p n (spot_after (blocks C) o (accepted d p C)).cell
  takes (Some i) is lt = takes_known i is
  takes None is lt = takes_new is lt

  has_room : (o : Option ℕ) → block_place d (block_of p) (blocks C) ≡ o → IsRoomy (c.Accepted d p n ∷ C) → (spot_after (blocks C) o (accepted d p C)).cell < VERIFIER_CELLS
  has_room (Some i) is roomy = omega (arith, (place_at (blocks C) d (block_of p) i is).0, rec.roomy)
  has_room None is roomy = let long : suc (length (blocks C)) ≤ 1024 = subst (λ xs. length xs ≤ 1024) (blocks_more d p n C is) roomy in omega (arith, long)

-- the commits without the newest
rest : (x : Commit) (C : List Commit) → IsRecorded (x ∷ C) → IsRoomy C → IsRecorded C
rest x C rec roomy = record { order = rec.order.1; roomy = roomy; range = All-tail InRange x C rec.range }

fewer : (e p n : ℕ) (C : List Commit) → IsRoomy (c.Accepted e p n ∷ C) → IsRoomy C
fewer e p n C roomy = by (block_place e (block_of p) (blocks C)) refl
  where
    by : (o : Option ℕ) → block_place e (block_of p) (blocks C) ≡ o → length (blocks C) ≤ 1024
    by (Some i) is = subst (λ xs. length xs ≤ 1024) (blocks_kept e p n C i is) roomy
    by None is = let long : suc (length (blocks C)) ≤ 1024 = subst (λ xs. length xs ≤ 1024) (blocks_more e p n C is) roomy in omega (arith, long)

sound_after : (C : List Commit) → IsRecorded C → AreSound (seen_after C)
sound_after [] rec = none_sound
sound_after (c.Trusted d key ∷ C) rec =
    let fits = All-head InRange (c.Trusted d key) C rec.range in
    subst AreSound (trusts_more C d key fits.0 rec.order.0)
    (trust_fits (seen_after C) (sound_after C (rest (c.Trusted d key) C rec rec.roomy)) d key fits.0 fits.1).sound
sound_after (c.Accepted d p n ∷ C) rec =
    let before = rest (c.Accepted d p n) C rec (fewer d p n C rec.roomy) in
    let fits = All-head InRange (c.Accepted d p n) C rec.range in
    let sound = sound_after C before in
    let o = block_place d (block_of p) (blocks C) in
    let made = takes C before sound d p n rec.order.0.0 rec.order.0.1 fits.1 fits.2 o refl (has_room C before sound d p n rec.order.0.0 rec.order.0.1 fits.1 fits.2 o refl rec.roomy) in
    subst AreSound made.seen made.fit.sound
sound_after (x ∷ C) rec = sound_after C (rest x C rec rec.roomy)

-- the other nodes' commits
others : (x : Commit) (C : List Commit) → same_node (node_of x) Verifier ≡ false → seen_after (x ∷ C) ≡ seen_after C
others (c.Trusted d key) C apart = absurd (true≢false apart)
others (c.Accepted d p n) C apart = absurd (true≢false apart)
others _ C apart = refl

-- == how many there are ==

counted : (C : List Commit) → IsRecorded C → commits_in (seen_after C) ≡ count_of Verifier C
counted [] rec = counts_none (seen_after []) blank
counted (c.Trusted d key ∷ C) rec =
    let before = rest (c.Trusted d key) C rec rec.roomy in
    let fits = All-head InRange (c.Trusted d key) C rec.range in
    ap (λ t. commits_in t) (sym (trusts_more C d key fits.0 rec.order.0))
    ∙ put_counts (seen_after C) (d - 1) _ (omega (arith, fits.0, after_long C)) ∙ ap (λ m. m + 1) (counted C before)
counted (c.Accepted d p n ∷ C) rec =
    let before = rest (c.Accepted d p n) C rec (fewer d p n C rec.roomy) in
    let fits = All-head InRange (c.Accepted d p n) C rec.range in
    let sound = sound_after C before in
    let o = block_place d (block_of p) (blocks C) in
    let room = has_room C before sound d p n rec.order.0.0 rec.order.0.1 fits.1 fits.2 o refl rec.roomy in
    let made = takes C before sound d p n rec.order.0.0 rec.order.0.1 fits.1 fits.2 o refl room in
    ap (λ t. commits_in t) (sym made.seen)
    ∙ put_counts (seen_after C) (spot_after (blocks C) o (accepted d p C)).cell _ (omega (arith, room, after_long C)) ∙ ap (λ m. m + 1) (counted C before)
counted (c.Made d key ∷ C) rec = counted C (rest (c.Made d key) C rec rec.roomy)
counted (c.Asked d n note ∷ C) rec = counted C (rest (c.Asked d n note) C rec rec.roomy)
counted (c.Applied d n v ∷ C) rec = counted C (rest (c.Applied d n v) C rec rec.roomy)
counted (c.Debited d p a k t v ∷ C) rec = counted C (rest (c.Debited d p a k t v) C rec rec.roomy)
counted (c.Registered d o k ∷ C) rec = counted C (rest (c.Registered d o k) C rec rec.roomy)
counted (c.Opened w ∷ C) rec = counted C (rest (c.Opened w) C rec rec.roomy)
counted (c.Deposited w n a ∷ C) rec = counted C (rest (c.Deposited w n a) C rec rec.roomy)
counted (c.Flagged w f ∷ C) rec = counted C (rest (c.Flagged w f) C rec rec.roomy)
counted (c.Ruled d n v note ∷ C) rec = counted C (rest (c.Ruled d n v note) C rec rec.roomy)
counted (c.Settled d n ∷ C) rec = counted C (rest (c.Settled d n) C rec rec.roomy)
counted (c.Ordered j d p a k ∷ C) rec = counted C (rest (c.Ordered j d p a k) C rec rec.roomy)
counted (c.Held j m ∷ C) rec = counted C (rest (c.Held j m) C rec rec.roomy)
counted (c.Began j ∷ C) rec = counted C (rest (c.Began j) C rec rec.roomy)
counted (c.Closed j ∷ C) rec = counted C (rest (c.Closed j) C rec rec.roomy)

-- == each act's commit is the next ==

all_cons : (x : Commit) (C : List Commit) → InRange x → All InRange C → All InRange (x ∷ C)
all_cons x C here rest zero d lt = here
all_cons x C here rest (suc k) d lt = rest k d (omega arith)

module _ (C : List Commit) (rec : IsRecorded C) where
  sound : AreSound (seen_after C)
  sound = sound_after C rec

  follows_trust : (d : ℕ) (key : List ℕ) → IsDevice d → IsKey key → (known : Bool) → is_some (key_at (seen_after C) d) ≡ known → FollowsCommits C (trusted_act d key known)
  follows_trust d key device fits true is = tt
  follows_trust d key device fits false is =
      let none : trusted d C ≡ None = sym (key_after C d rec.range) ∙ shown_none (key_at (seen_after C) d) is in
      record {
        recorded = record { order = (none, rec.order); roomy = rec.roomy; range = all_cons (c.Trusted d key) C (device, fits) rec.range };
        seen = trusts_more C d key device none;
        count = ap (λ o. commits_at o) (after_at C (d - 1) (omega (arith, device)) ∙ trust_cell C (d - 1) (omega (arith, device)) ∙ blank_trust d none) ∙ sym (untrusted_blank d C none);
      }
    where
      blank_trust : (e : ℕ) → trusted d C ≡ None → trust_after (d - 1 + 1) C ≡ None
      blank_trust e none = ap (λ f. trust_after f C) (omega (arith, device)) ∙ ap (λ o. option_map (λ k. (cells.commits_at (OfTrust d) C, TrustRow d k)) o) none

  follows_scan : (n : ℕ) (bytes : List ℕ) (today : ℤ) → IsCount n → IsBytes bytes → (x : Result (Mark × List ℕ) MarkFault) → read_mark bytes ≡ x → FollowsCommits C (read_act n bytes today (in_rows (seen_after C)) x)
  follows_scan n bytes today count h (Err fault) is = tt
  follows_scan n bytes today count h (Ok k) is = marked (key_at (seen_after C) k.0.device) refl
    where
      d : ℕ
      d = k.0.device

      p : ℕ
      p = k.0.piece

      next : IsSome (trusted k.0.device C) → accepted k.0.device k.0.piece C ≡ None → (o : Option ℕ) → block_place k.0.device (block_of k.0.piece) (blocks C) ≡ o
          → nat_le VERIFIER_CELLS (spot_after (blocks C) o (accepted k.0.device k.0.piece C)).cell ≡ false
          → IsNext C (c.Accepted k.0.device k.0.piece n) (change.Accept (spot_after (blocks C) o (accepted k.0.device k.0.piece C)).cell k.0.device (block_of k.0.piece) (k.0.piece % BLOCK_PIECES) n)
      next has none o place room =
          let small = piece_word bytes k h is in
          let made = takes C rec sound k.0.device k.0.piece n has none small count o place (is_most VERIFIER_CELLS _ room) in
          record {
            recorded = record { order = ((has, none), rec.order); roomy = made.roomy; range = all_cons (c.Accepted k.0.device k.0.piece n) C (device has, small, count) rec.range };
            seen = made.seen;
            count = made.count;
          }
        where
          device : IsSome (trusted k.0.device C) → IsDevice k.0.device
          device has = let key = shown_some (trusted k.0.device C) has in (trusted_range k.0.device C key.0 rec.range key.1).0

      answered : IsSome (trusted k.0.device C) → (spot : Spot) → spot ≡ spot_after (blocks C) (block_place k.0.device (block_of k.0.piece) (blocks C)) (accepted k.0.device k.0.piece C)
          → (x : Result Bool ScanRefusal) → scan_answer n k.0.day today (nat_le VERIFIER_CELLS spot.cell) spot.accepted ≡ x → FollowsCommits C (answered_act n k.0 spot.cell x)
      answered has spot same (Err y) a = tt
      answered has spot same (Ok true) a = tt
      answered has spot same (Ok false) a =
          let fresh = fresh_answer n k.0.day today (nat_le VERIFIER_CELLS spot.cell) spot.accepted a in
          let o = block_place k.0.device (block_of k.0.piece) (blocks C) in
          subst (λ (x : Spot). IsNext C (c.Accepted k.0.device k.0.piece n) (change.Accept x.cell k.0.device (block_of k.0.piece) (k.0.piece % BLOCK_PIECES) n)) (sym same)
          (next has (ap (λ (x : Spot). x.accepted) (sym same) ∙ fresh.0) o refl (ap (λ (x : Spot). nat_le VERIFIER_CELLS x.cell) (sym same) ∙ fresh.1))

      coded : IsSome (trusted k.0.device C) → (t : Bool) → FollowsCommits C (if t then spot_act n k.0 today (spot_in (seen_after C) k.0.device k.0.piece) else Refuse no.BadCode)
      coded has true = answered has (spot_in (seen_after C) k.0.device k.0.piece) (spot_follows C k.0.device k.0.piece rec) (scan_answer n k.0.day today (nat_le VERIFIER_CELLS (spot_in (seen_after C) k.0.device k.0.piece).cell) (spot_in (seen_after C) k.0.device k.0.piece).accepted) refl
      coded has false = tt

      marked : (o : Option (List ℕ)) → key_at (seen_after C) k.0.device ≡ o → FollowsCommits C (marked_act n bytes k.0 today o (spot_in (seen_after C) k.0.device k.0.piece))
      marked None at = tt
      marked (Some key) at = coded (ap is_some (sym (key_after C k.0.device rec.range) ∙ at)) (has_code key bytes)

pub follows : ActsFollow
follows = record {
  none = blank;
  sound = sound_after;
  counted = counted;
  others = others;
  each = λ C rec. record {
    trusted = λ d key device fits. follows_trust C rec d key device fits (is_some (key_at (seen_after C) d)) refl;
    scanned = λ n bytes today count h. follows_scan C rec n bytes today count h (read_mark bytes) refl;
  };
}

-- == what is looked up ==

read_alike : (C : List Commit) → IsRecorded C → (n : ℕ) (bytes : List ℕ) (today : ℤ) (x : Result (Mark × List ℕ) MarkFault) → read_act n bytes today (in_rows (seen_after C)) x ≡ read_act n bytes today (in_commits C) x
read_alike C rec n bytes today (Err fault) = refl
read_alike C rec n bytes today (Ok k) = ap₂ (λ o spot. marked_act n bytes k.0 today o spot) (key_after C k.0.device rec.range) (spot_follows C k.0.device k.0.piece rec)

pub planned : ActsArePlanned
planned C rec = record {
  trusted = λ d key. ap (λ o. trusted_act d key (is_some o)) (key_after C d rec.range);
  scanned = λ n bytes today. read_alike C rec n bytes today (read_mark bytes);
}
