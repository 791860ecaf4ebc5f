-- What commits in the host's turn record of its jobs: each device has one open job at most, its piece is above all that were held,
-- and a job that is not closed is one of the last 1,024.
use Rattle.std.proofs.Common.{◌≡◌, ◌≢◌, ℕ, ◌+◌, ◌-◌, ◌<◌, ◌≤◌, true, false, List, [], ◌∷◌, Option, Some, None, ⊎_elim, refl, sym, ap, subst, ◌∙◌, true≢false, arith}
use Rattle.std.specs.Prelude.{◌==◌, max}
use Rattle.std.proofs.lemmas.Bool.{eqb-false, cases_Bool, cases_lt, eq-eqb, ne_eqb}
use Rattle.std.proofs.lemmas.Option.{same_Some, none-some}
use Rattle.bench_base.specs.declared.{words.JobState.JobState, ledger.Commit.Commit, ledger.Commit.TheVariants.Ordered, ledger.Commit.TheVariants.Held, ledger.Commit.TheVariants.Began, ledger.Commit.TheVariants.Closed}
use Rattle.bench_base.specs.declared.words.JobState.TheVariants as state
use Rattle.bench_base.specs.Jobs.{Job, last_job, job_of, state_of, held_of, open_job, unless_job, piece_at, top}
use Rattle.bench_base.proofs.Facts.{either, kept_first, first_of_none, none_if}
use Rattle.host_jobs.specs.Answers.{is_open}
use Rattle.host_jobs.specs.Turns.{InTurn}

unless_other : (i : ℕ) (w : Option ℕ) (j : ℕ) → unless_job i w ≡ Some j → (w ≡ Some j) × (j ≢ i)
unless_other i None j h = absurd (none-some _ h)
unless_other i (Some k) j h = ⊎_elim
    (λ (t : (k == i) ≡ true). absurd (none-some _ (rw t at h)))
    (λ (t : (k == i) ≡ false). let is : k ≡ j = same_Some _ _ (rw t at h) in (rw t at h, λ e. eqb-false k i t (is ∙ e)))
    (cases_Bool (k == i))

unless_keeps : (i j : ℕ) (w : Option ℕ) → w ≡ Some j → j ≢ i → unless_job i w ≡ Some j
unless_keeps i j w is differs = ap (unless_job i) is ∙ (rw (ne_eqb j i differs) refl)

pub at_most : (o : Option Job) (b : Job) (most e : ℕ) → o ≡ Some b → (b.device ≡ e → ⊥) → max (piece_at e o) most ≡ most
at_most None b most e h apart = absurd (none-some _ h)
at_most (Some c) b most e h apart =
    let same : c ≡ b = same_Some _ _ h in
    rw (ne_eqb c.device e (λ x. apart (ap (λ (z : Job). z.device) (sym same) ∙ x))) (omega arith)

-- what an open job of device d is
pub record OpenJob (d j : ℕ) (C : List Commit) : Type 0 where
  pub at : Job
  pub job_is : job_of j C ≡ Some at
  pub device : at.device ≡ d
  pub fresh : top d C < at.piece
  pub state : state_of j C ≡ Some state.Ordered

-- a number of a job
abbrev pub IsJob : ℕ → List Commit → Type 0
IsJob j C = (1 ≤ j) × (j ≤ last_job C)

pub record Facts (C : List Commit) : Type 0 where
  pub open_is : (d j : ℕ) → open_job d C ≡ Some j → OpenJob d j C
  pub state_le : (j : ℕ) (s : JobState) → state_of j C ≡ Some s → IsJob j C
  pub job_le : (j : ℕ) (b : Job) → job_of j C ≡ Some b → IsJob j C
  pub has_job : (j : ℕ) → IsJob j C → (b : Job) × (job_of j C ≡ Some b)
  pub has_state : (j : ℕ) → IsJob j C → (s : JobState) × (state_of j C ≡ Some s)
  pub ordered_is : (j : ℕ) (b : Job) → state_of j C ≡ Some state.Ordered → job_of j C ≡ Some b → open_job b.device C ≡ Some j
  pub past : (j : ℕ) → 1 ≤ j → j + 1024 ≤ last_job C → state_of j C ≡ Some state.Closed
  pub held_le : (j : ℕ) (x : List ℕ) → held_of j C ≡ Some x → IsJob j C
  pub unheld : (j : ℕ) → state_of j C ≡ Some state.Ordered → held_of j C ≡ None

-- two states of one job are one
apart : {P : Type 0} (j : ℕ) (C : List Commit) (s t : JobState) → state_of j C ≡ Some s → state_of j C ≡ Some t → (s ≡ t → P) → P
apart j C s t is is' f = f (same_Some _ _ (sym is ∙ is'))

module _ (C : List Commit) (h : Facts C) where
  -- a new job
  module _ (i f q a k : ℕ) (next : i ≡ last_job C + 1) (idle : open_job f C ≡ None) (fresh : top f C < q) (room : 1024 ≤ last_job C → state_of (last_job C - 1023) C ≡ Some state.Closed) where
    abbrev new : Job
    new = record { device = f; piece = q; postage = a; class = k }

    abbrev D : List Commit
    D = Ordered i f q a k ∷ C

    new_job : (j : ℕ) → (i == j) ≡ true → i ≡ j → job_of j D ≡ Some new
    new_job j t y = rw t (first_of_none (job_of j C) (Some new) (λ b e. let le = h.job_le j b e in omega arith))

    new_open : (d j : ℕ) → open_job d D ≡ Some j → OpenJob d j D
    new_open d j o = either f d
        (λ t y.
        let is : i ≡ j = same_Some _ _ (rw t at o) in
        record {
          at = new;
          job_is = new_job j (eq-eqb i j is) is;
          device = y;
          fresh = subst (λ (z : ℕ). top z C < q) y fresh;
          state = rw (eq-eqb i j is) refl;
        })
        (λ t.
        let it = h.open_is d j (rw t at o) in
        let le = h.job_le j it.at it.job_is in
        record {
          at = it.at;
          job_is = kept_first (i == j) (job_of j C) new it.at it.job_is;
          device = it.device;
          fresh = it.fresh;
          state = rw (ne_eqb i j (λ e. omega arith)) it.state;
        })

    new_ordered : (j : ℕ) (b : Job) → state_of j D ≡ Some state.Ordered → job_of j D ≡ Some b → open_job b.device D ≡ Some j
    new_ordered j b s o = either i j
        (λ t y.
        let is : new ≡ b = same_Some _ _ (sym (new_job j t y) ∙ o) in
        let device : f ≡ b.device = ap (λ (z : Job). z.device) is in
        rw (eq-eqb f b.device device) (ap (λ (z : ℕ). Some z) y))
        (λ t.
        let was = h.ordered_is j b (rw t at s) (rw t at o) in
        rw (ne_eqb f b.device (λ e. absurd (none-some _ (sym idle ∙ ap (λ (z : ℕ). open_job z C) e ∙ was)))) was)

    new_past : (j : ℕ) → 1 ≤ j → j + 1024 ≤ last_job D → state_of j D ≡ Some state.Closed
    new_past j from far = rw (ne_eqb i j (λ e. omega arith)) (⊎_elim
        (λ (lt : last_job C < j + 1024).
        let is : last_job C - 1023 ≡ j = omega arith in
        subst (λ (z : ℕ). state_of z C ≡ Some state.Closed) is (room (omega arith)))
        (λ (ge : j + 1024 ≤ last_job C). h.past j from ge)
        (cases_lt (last_job C) (j + 1024)))

    pub ordered : Facts D
    ordered = record {
      open_is = new_open;
      state_le = λ j s o. either i j (λ t y. (omega arith, omega arith)) (λ t. let le = h.state_le j s (rw t at o) in (le.0, omega arith));
      job_le = λ j b o. either i j (λ t y. (omega arith, omega arith)) (λ t. let le = h.job_le j b (rw t at o) in (le.0, omega arith));
      has_job = λ j le. either i j (λ t y. (new, new_job j t y)) (λ t. let differs = eqb-false i j t in let was = h.has_job j (le.0, omega (arith, le.1)) in (was.0, kept_first (i == j) (job_of j C) new was.0 was.1));
      has_state = λ j le. either i j (λ t y. (state.Ordered, rw t refl)) (λ t. let differs = eqb-false i j t in rw t (h.has_state j (le.0, omega (arith, le.1))));
      ordered_is = new_ordered;
      past = new_past;
      held_le = λ j x o. let le = h.held_le j x o in (le.0, omega arith);
      unheld = λ j o. either i j
          (λ t y. none_if (held_of j C) (λ x e. let le = h.held_le j x e in omega arith))
          (λ t. h.unheld j (rw t at o));
    }

  -- a mark is held
  module _ (i : ℕ) (x : List ℕ) (b : Job) (job_is : job_of i C ≡ Some b) (open_is : open_job b.device C ≡ Some i) where
    mine : OpenJob b.device i C
    mine = h.open_is b.device i open_is

    held_open : (d j : ℕ) → open_job d (Held i x ∷ C) ≡ Some j → OpenJob d j (Held i x ∷ C)
    held_open d j o =
        let was = unless_other i (open_job d C) j o in
        let it = h.open_is d j was.0 in
        record {
          at = it.at;
          job_is = it.job_is;
          device = it.device;
          fresh =
              let lt = it.fresh in
              let is = at_most (job_of i C) b (top d C) d job_is (λ e. was.1 (same_Some _ _ (sym was.0 ∙ ap (λ (z : ℕ). open_job z C) (sym e) ∙ open_is))) in
              omega arith;
          state = rw (ne_eqb i j (λ e. was.1 (sym e))) it.state;
        }

    pub held : Facts (Held i x ∷ C)
    held = record {
      open_is = held_open;
      state_le = λ j s o. either i j (λ t y. subst (λ (z : ℕ). IsJob z C) y (h.state_le i state.Ordered mine.state)) (λ t. h.state_le j s (rw t at o));
      job_le = h.job_le;
      has_job = h.has_job;
      has_state = λ j le. either i j (λ t y. (state.Held, rw t refl)) (λ t. rw t (h.has_state j le));
      ordered_is = λ j c s o. either i j
          (λ t y. let bad : state.Held ≡ state.Ordered = same_Some _ _ (rw t at s) in absurd (cc))
          (λ t. unless_keeps i j (open_job c.device C) (h.ordered_is j c (rw t at s) o) (λ e. eqb-false i j t (sym e)));
      past = λ j from far. either i j
          (λ t y. apart i C state.Ordered state.Closed mine.state (subst (λ (z : ℕ). state_of z C ≡ Some state.Closed) (sym y) (h.past j from far)) (λ e. absurd (cc)))
          (λ t. rw t (h.past j from far));
      held_le = λ j y o. either i j
          (λ t e. subst (λ (z : ℕ). IsJob z C) e (h.state_le i state.Ordered mine.state))
          (λ t. h.held_le j y (rw t at o));
      unheld = λ j o. either i j
          (λ t y. let bad : state.Held ≡ state.Ordered = same_Some _ _ (rw t at o) in absurd (cc))
          (λ t. rw t (h.unheld j (rw t at o)));
    }

  -- a job is begun
  module _ (i : ℕ) (was_held : state_of i C ≡ Some state.Held) where
    pub began : Facts (Began i ∷ C)
    began = record {
      open_is = λ d j o.
          let it = h.open_is d j o in
          record {
            at = it.at;
            job_is = it.job_is;
            device = it.device;
            fresh = it.fresh;
            state = rw (ne_eqb i j (λ e. apart j C state.Held state.Ordered (subst (λ (z : ℕ). state_of z C ≡ Some state.Held) e was_held) it.state (λ bad. absurd (cc)))) it.state;
          };
      state_le = λ j s o. either i j (λ t y. subst (λ (z : ℕ). IsJob z C) y (h.state_le i state.Held was_held)) (λ t. h.state_le j s (rw t at o));
      job_le = h.job_le;
      has_job = h.has_job;
      has_state = λ j le. either i j (λ t y. (state.Begun, rw t refl)) (λ t. rw t (h.has_state j le));
      ordered_is = λ j c s o. either i j
          (λ t y. let bad : state.Begun ≡ state.Ordered = same_Some _ _ (rw t at s) in absurd (cc))
          (λ t. h.ordered_is j c (rw t at s) o);
      past = λ j from far. either i j
          (λ t y. apart i C state.Held state.Closed was_held (subst (λ (z : ℕ). state_of z C ≡ Some state.Closed) (sym y) (h.past j from far)) (λ e. absurd (cc)))
          (λ t. rw t (h.past j from far));
      held_le = h.held_le;
      unheld = λ j o. either i j
          (λ t y. let bad : state.Begun ≡ state.Ordered = same_Some _ _ (rw t at o) in absurd (cc))
          (λ t. h.unheld j (rw t at o));
    }

  -- a job is closed
  module _ (i : ℕ) (s : JobState) (was : state_of i C ≡ Some s) where
    pub closed : Facts (Closed i ∷ C)
    closed = record {
      open_is = λ d j o.
          let other = unless_other i (open_job d C) j o in
          let it = h.open_is d j other.0 in
          record { at = it.at; job_is = it.job_is; device = it.device; fresh = it.fresh; state = rw (ne_eqb i j (λ e. other.1 (sym e))) it.state };
      state_le = λ j t o. either i j (λ e y. subst (λ (z : ℕ). IsJob z C) y (h.state_le i s was)) (λ e. h.state_le j t (rw e at o));
      job_le = h.job_le;
      has_job = h.has_job;
      has_state = λ j le. either i j (λ t y. (state.Closed, rw t refl)) (λ t. rw t (h.has_state j le));
      ordered_is = λ j c t o. either i j
          (λ e y. let bad : state.Closed ≡ state.Ordered = same_Some _ _ (rw e at t) in absurd (cc))
          (λ e. unless_keeps i j (open_job c.device C) (h.ordered_is j c (rw e at t) o) (λ y. eqb-false i j e (sym y)));
      past = λ j from far. either i j (λ t y. rw t refl) (λ t. rw t (h.past j from far));
      held_le = h.held_le;
      unheld = λ j o. either i j
          (λ t y. let bad : state.Closed ≡ state.Ordered = same_Some _ _ (rw t at o) in absurd (cc))
          (λ t. h.unheld j (rw t at o));
    }

no_facts : Facts []
no_facts = record {
  open_is = λ d j h. absurd (none-some _ h);
  state_le = λ j s h. absurd (none-some _ h);
  job_le = λ j b h. absurd (none-some _ h);
  has_job = λ j le. absurd (omega (arith, le.0, le.1));
  has_state = λ j le. absurd (omega (arith, le.0, le.1));
  ordered_is = λ j b h o. absurd (none-some _ h);
  past = λ j from far. absurd (omega arith);
  held_le = λ j x h. absurd (none-some _ h);
  unheld = λ j h. refl;
}

pub open_state : (o : Option JobState) → is_open o ≡ true → (s : JobState) × (o ≡ Some s)
open_state None h = absurd (true≢false (sym h))
open_state (Some s) h = (s, refl)

pub facts : (C : List Commit) → InTurn C → Facts C
facts [] g = no_facts
facts (Ordered i f q a k ∷ C) g = ordered C (facts C g.1) i f q a k g.0.next g.0.idle g.0.fresh g.0.room
facts (Held i x ∷ C) g = held C (facts C g.1) i x g.0.at g.0.job_is g.0.open_is
facts (Began i ∷ C) g = began C (facts C g.1) i g.0
facts (Closed i ∷ C) g = let it = open_state (state_of i C) g.0 in closed C (facts C g.1) i it.0 it.1
facts (c ∷ C) g =
    let h = facts C g.1 in
    record {
      open_is = λ d j o. let it = h.open_is d j o in record { at = it.at; job_is = it.job_is; device = it.device; fresh = it.fresh; state = it.state };
      state_le = h.state_le;
      job_le = h.job_le;
      has_job = h.has_job;
      has_state = h.has_state;
      ordered_is = h.ordered_is;
      past = h.past;
      held_le = h.held_le;
      unheld = h.unheld;
    }
