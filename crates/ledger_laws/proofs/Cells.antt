-- Jobs in their cells: a job that isn't closed is one of the last 1,024, a job that is ordered holds no mark yet, and the
-- blocks of the verifier fit its cells.
use Rattle.std.proofs.Common.{◌≡◌, ℕ, ◌+◌, ◌-◌, ◌<◌, ◌≤◌, true, false, List, [], ◌∷◌, length, Option, Some, None, refl, sym, ap, subst, ◌∙◌, true≢false, ⊎_elim, arith}
use Rattle.std.specs.Prelude.{◌==◌, ◌&&◌, nat_le, is_none}
use Rattle.std.proofs.lemmas.Bool.{cases_lt, eqb-true, le-leb, lt-ltb}
use Rattle.std.proofs.lemmas.Option.{same_Some}
use Rattle.bench_base.specs.declared.{words.JobState.JobState, words.JobState.TheVariants.Ordered as OrderedJob, words.JobState.TheVariants.Held as HeldJob, words.JobState.TheVariants.Begun as BegunJob, words.JobState.TheVariants.Closed as ClosedJob, ledger.Commit.Commit, ledger.Commit.TheVariants.Ordered, ledger.Commit.TheVariants.Held, ledger.Commit.TheVariants.Began, ledger.Commit.TheVariants.Closed, ledger.Commit.TheVariants.Accepted}
use Rattle.bench_base.specs.Rules.{Rules}
use Rattle.bench_base.specs.Jobs.{last_job, state_of, held_of, in_cells}
use Rattle.bench_base.specs.Scans.{block_of, block_place, with_block, blocks}
use Rattle.bench_base.proofs.Facts.{some_none, either, none_if, and_false, found}
use Rattle.host_jobs.specs.Answers.{is_open}
use Rattle.verifier.specs.Order.{IsRoomy}
use Rattle.ledger_laws.proofs.Good.{Good}
use Rattle.ledger_laws.proofs.Jobs.{jobs}

-- where in the last 1,024 a job is
pub record InLast (j last : ℕ) : Type 0 where
  pub from_1 : 1 ≤ j
  pub le : j ≤ last
  pub kept : last < j + 1024

pub is_in_cells : (j : ℕ) (C : List Commit) → InLast j (last_job C) → in_cells j C ≡ true
is_in_cells j C p = rw (le-leb 1 j p.from_1, le-leb j (last_job C) p.le, lt-ltb (last_job C) (j + 1024) p.kept) refl

is_closed : (s : JobState) → is_open (Some s) ≡ false → s ≡ ClosedJob
is_closed OrderedJob h = absurd (true≢false h)
is_closed HeldJob h = absurd (true≢false h)
is_closed BegunJob h = absurd (true≢false h)
is_closed ClosedJob h = refl

ordered_held : OrderedJob ≡ HeldJob → ⊥
ordered_held e = cc

ordered_begun : OrderedJob ≡ BegunJob → ⊥
ordered_begun e = cc

ordered_closed : OrderedJob ≡ ClosedJob → ⊥
ordered_closed e = cc

module _ (ρ : Rules) where
  held_le : (j : ℕ) (x : List ℕ) (C : List Commit) → Good ρ C → held_of j C ≡ Some x → j ≤ last_job C
  held_le j x [] g h = absurd (some_none (sym h))
  held_le j x (Held i y ∷ C) g h = ⊎_elim
      (λ (t : ((i == j) ≡ true) × (y ≡ x)).
      let k = jobs ρ C g.1 in
      let mine = k.open_is g.0.at.device i g.0.open_is in
      let le = k.state_le i OrderedJob mine.state in
      let same = eqb-true i j t.0 in
      omega arith)
      (λ (o : held_of j C ≡ Some x). held_le j x C g.1 o)
      (found (i == j) (held_of j C) y x h)
  held_le j x (Ordered i d p a k ∷ C) g h = let le = held_le j x C g.1 h in omega arith
  held_le j x (_ ∷ C) g h = held_le j x C g.1 h

  -- a job that is ordered holds no mark
  pub unheld : (j : ℕ) (C : List Commit) → Good ρ C → state_of j C ≡ Some OrderedJob → held_of j C ≡ None
  unheld j [] g h = refl
  unheld j (Ordered i d p a k ∷ C) g h = either i j
      (λ t y. let next = g.0.next in none_if (held_of j C) (λ x o. let le = held_le j x C g.1 o in omega arith))
      (λ t. unheld j C g.1 (rw t at h))
  unheld j (Held i x ∷ C) g h = either i j
      (λ t y. absurd (ordered_held (same_Some _ _ (sym (rw t at h)))))
      (λ t. rw t (unheld j C g.1 (rw t at h)))
  unheld j (Began i ∷ C) g h = either i j
      (λ t y. absurd (ordered_begun (same_Some _ _ (sym (rw t at h)))))
      (λ t. unheld j C g.1 (rw t at h))
  unheld j (Closed i ∷ C) g h = either i j
      (λ t y. absurd (ordered_closed (same_Some _ _ (sym (rw t at h)))))
      (λ t. unheld j C g.1 (rw t at h))
  unheld j (_ ∷ C) g h = unheld j C g.1 h

  -- what was in the cell of the next job is closed
  pub oldest_closed : (C : List Commit) → Good ρ C → (nat_le 1024 (last_job C) && is_open (state_of (last_job C - 1023) C)) ≡ false → 1024 ≤ last_job C → (s : JobState) → state_of (last_job C - 1023) C ≡ Some s → s ≡ ClosedJob
  oldest_closed C g room le s at = is_closed s (ap is_open (sym at) ∙ and_false (nat_le 1024 (last_job C)) (is_open (state_of (last_job C - 1023) C)) room (le-leb 1024 (last_job C) le))

  -- a job that isn't closed is one of the last 1,024
  pub in_cell : (j : ℕ) (s : JobState) (C : List Commit) → Good ρ C → state_of j C ≡ Some s → (s ≡ ClosedJob → ⊥) → InLast j (last_job C)
  in_cell j s [] g h live = absurd (some_none (sym h))
  in_cell j s (Ordered i d p a k ∷ C) g h live = either i j
      (λ t y. let next = g.0.next in record { from_1 = omega arith; le = omega arith; kept = omega arith })
      (λ t.
      let at : state_of j C ≡ Some s = rw t at h in
      let was = in_cell j s C g.1 at live in
      let from_1 = was.from_1 in
      let le = was.le in
      let kept = was.kept in
      record {
        from_1 = was.from_1;
        le = omega arith;
        kept = ⊎_elim
            (λ (lt : last_job C + 1 < j + 1024). lt)
            (λ (ge : j + 1024 ≤ last_job C + 1).
            let is : j ≡ last_job C - 1023 = omega arith in
            absurd (live (oldest_closed C g.1 g.0.room (omega arith) s (subst (λ z. state_of z C ≡ Some s) is at))))
            (cases_lt (last_job C + 1) (j + 1024));
      })
  in_cell j s (Held i x ∷ C) g h live = either i j
      (λ t y.
      let mine = (jobs ρ C g.1).open_is g.0.at.device i g.0.open_is in
      in_cell j OrderedJob C g.1 (subst (λ z. state_of z C ≡ Some OrderedJob) y mine.state) ordered_closed)
      (λ t. in_cell j s C g.1 (rw t at h) live)
  in_cell j s (Began i ∷ C) g h live = either i j
      (λ t y. in_cell j HeldJob C g.1 (subst (λ z. state_of z C ≡ Some HeldJob) y g.0) held_closed)
      (λ t. in_cell j s C g.1 (rw t at h) live)
    where
      held_closed : HeldJob ≡ ClosedJob → ⊥
      held_closed e = cc
  in_cell j s (Closed i ∷ C) g h live = either i j
      (λ t y. absurd (live (same_Some _ _ (sym (rw t at h)))))
      (λ t. in_cell j s C g.1 (rw t at h) live)
  in_cell j s (_ ∷ C) g h live = in_cell j s C g.1 h live

  -- every job up to the last has a state
  pub has_state : (j : ℕ) (C : List Commit) → Good ρ C → 1 ≤ j → j ≤ last_job C → (s : JobState) × (state_of j C ≡ Some s)
  has_state j [] g low high = absurd (omega arith)
  has_state j (Ordered i d p a k ∷ C) g low high =
      let next = g.0.next in
      either i j (λ t y. (OrderedJob, rw t refl)) (λ t. rw t (has_state j C g.1 low (let apart = Rattle.std.proofs.lemmas.Bool.eqb-false i j t in omega arith)))
  has_state j (Held i x ∷ C) g low high = either i j (λ t y. (HeldJob, rw t refl)) (λ t. rw t (has_state j C g.1 low high))
  has_state j (Began i ∷ C) g low high = either i j (λ t y. (BegunJob, rw t refl)) (λ t. rw t (has_state j C g.1 low high))
  has_state j (Closed i ∷ C) g low high = either i j (λ t y. (ClosedJob, rw t refl)) (λ t. rw t (has_state j C g.1 low high))
  has_state j (_ ∷ C) g low high = has_state j C g.1 low high

  with_roomy : (d b : ℕ) (xs : List (ℕ × ℕ)) (o : Option ℕ) → length xs ≤ 1024 → (nat_le 1024 (length xs) && is_none o) ≡ false → length (with_block d b xs o) ≤ 1024
  with_roomy d b xs None le room = ⊎_elim
      (λ (lt : length xs < 1024). omega arith)
      (λ (ge : 1024 ≤ length xs). absurd (true≢false (and_false (nat_le 1024 (length xs)) true room (le-leb 1024 (length xs) ge))))
      (cases_lt (length xs) 1024)
  with_roomy d b xs (Some place) le room = le

  pub roomy : (C : List Commit) → Good ρ C → IsRoomy C
  roomy [] g = omega arith
  roomy (Accepted d p s ∷ C) g = with_roomy d (block_of p) (blocks C) (block_place d (block_of p) (blocks C)) (roomy C g.1) g.0.room
  roomy (_ ∷ C) g = roomy C g.1
