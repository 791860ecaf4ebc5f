-- The host's jobs: at most one is open for each device, its piece is above all that were held, and what was begun is never
-- held or open again. So no piece is held twice, and each line is printed once.

use Rattle.std.proofs.Common.{◌≡◌, ℕ, ◌<◌, ◌≤◌, true, false, List, [], ◌∷◌, Option, Some, None, ◌⊎◌, inl, inr, ⊎_elim, refl, sym, subst, ◌∙◌, true≢false, arith}
use Rattle.std.specs.Prelude.{◌==◌}
use Rattle.std.proofs.lemmas.Bool.{eqb-true, eqb-false, cases_Bool, eq-eqb, ne_eqb, and_parts}
use Rattle.std.proofs.lemmas.Option.{same_Some}
use Rattle.bench_base.specs.declared.{ledger.Commit.Commit, ledger.Commit.TheVariants.Ordered, ledger.Commit.TheVariants.Held, ledger.Commit.TheVariants.Began, ledger.Commit.TheVariants.Closed, words.JobState.JobState, words.JobState.TheVariants.Ordered as OrderedJob, words.JobState.TheVariants.Held as HeldJob, words.JobState.TheVariants.Begun as BegunJob, words.JobState.TheVariants.Closed as ClosedJob}
use Rattle.bench_base.specs.Rules.{Rules}
use Rattle.bench_base.specs.Rows.{first_of}
use Rattle.ledger_laws.proofs.Good.{Good}
use Rattle.bench_base.specs.Jobs.{Job, last_job, job_of, state_of, held_of, open_job, unless_job, piece_at, top, begun}
use Rattle.bench_base.proofs.Facts.{either, kept_first, first_of_none, first_of_some}
use Rattle.host_jobs.proofs.JobFacts.{at_most}
use Rattle.ledger_terms.specs.Lawful.{is_of_piece, held_piece}

-- what an open job of device d is
pub record OpenJob (d j : ℕ) (C : List Commit) : Type 0 where
  pub at : Job
  pub job_is : job_of j C ≡ Some at
  pub device : at.device ≡ d
  pub fresh : top d C < at.piece
  pub state : state_of j C ≡ Some OrderedJob

pub record Jobs (C : List Commit) : Type 0 where
  pub open_is : (d j : ℕ) → open_job d C ≡ Some j → OpenJob d j C
  pub state_le : (j : ℕ) (s : JobState) → state_of j C ≡ Some s → j ≤ last_job C
  pub job_le : (j : ℕ) (b : Job) → job_of j C ≡ Some b → j ≤ last_job C
  pub held_is : (j : ℕ) → state_of j C ≡ Some HeldJob → (x : List ℕ) × (held_of j C ≡ Some x)
  pub begun_is : (j : ℕ) → begun j C ≡ true → (state_of j C ≡ Some BegunJob) ⊎ (state_of j C ≡ Some ClosedJob)
  pub piece_le : (d p : ℕ) → held_piece d p C ≡ true → p ≤ top d C

-- the job that stays open is another one
pub unless_some : (i : ℕ) (w : Option ℕ) (j : ℕ) → unless_job i w ≡ Some j → (w ≡ Some j) × ((i == j) ≡ false)
unless_some i None j h = cc
unless_some i (Some k) j h = ⊎_elim
    (λ (t : (k == i) ≡ true). absurd (none (rw t at h)))
    (λ (t : (k == i) ≡ false).
    let is : k ≡ j = same_Some _ _ (rw t at h) in
    (rw t at h, ne_eqb i j (λ e. eqb-false k i t (is ∙ sym e))))
    (cases_Bool (k == i))
  where
    none : None ≡ Some j → ⊥
    none e = cc

piece_has : (d p : ℕ) (o : Option Job) → is_of_piece d p o ≡ true → piece_at d o ≡ p
piece_has d p None h = absurd (true≢false (sym h))
piece_has d p (Some b) h = let both = and_parts (b.device == d) (b.piece == p) h in rw both.0 (eqb-true b.piece p both.1)

module _ (ρ : Rules) where
  pub jobs : (C : List Commit) → Good ρ C → Jobs C
  jobs [] g = record { open_is = λ d j h. cc; state_le = λ j s h. cc; job_le = λ j b h. cc; held_is = λ j h. cc; begun_is = λ j h. absurd (true≢false (sym h)); piece_le = λ d p h. absurd (true≢false (sym h)) }
  jobs (Ordered i f q a k ∷ C) g =
      let h = jobs C g.1 in
      let next = g.0.next in
      let fresh = g.0.fresh in
      record {
        open_is = λ d j o. either f d
            (λ t y.
            let is : i ≡ j = same_Some _ _ (rw t at o) in
            let job : first_of (job_of j C) (Some (record { device = f; piece = q; postage = a; class = k })) ≡ Some (record { device = f; piece = q; postage = a; class = k }) = first_of_none (job_of j C) (Some (record { device = f; piece = q; postage = a; class = k })) (λ b e. let le = h.job_le j b e in omega arith) in
            record {
              at = record { device = f; piece = q; postage = a; class = k };
              job_is = rw (eq-eqb i j is) job;
              device = y;
              fresh = subst (λ z. top z C < q) y fresh;
              state = rw (eq-eqb i j is) refl;
            })
            (λ t.
            let it = h.open_is d j (rw t at o) in
            let le = h.job_le j it.at it.job_is in
            record {
              at = it.at;
              job_is = kept_first (i == j) (job_of j C) _ it.at it.job_is;
              device = it.device;
              fresh = it.fresh;
              state = rw (ne_eqb i j (λ e. omega arith)) it.state;
            });
        state_le = λ j s o. either i j (λ t y. omega arith) (λ t. let le = h.state_le j s (rw t at o) in omega arith);
        job_le = λ j b o. either i j (λ t y. omega arith) (λ t. let le = h.job_le j b (rw t at o) in omega arith);
        held_is = λ j o. either i j (λ t y. let bad = same_Some _ _ (rw t at o) in cc bad) (λ t. h.held_is j (rw t at o));
        begun_is = λ j b. ⊎_elim
            (λ (s : state_of j C ≡ Some BegunJob). let le = h.state_le j BegunJob s in inl (rw (ne_eqb i j (λ e. omega arith)) s))
            (λ (s : state_of j C ≡ Some ClosedJob). let le = h.state_le j ClosedJob s in inr (rw (ne_eqb i j (λ e. omega arith)) s))
            (h.begun_is j b);
        piece_le = h.piece_le;
      }
  jobs (Held i x ∷ C) g =
      let h = jobs C g.1 in
      let mine = h.open_is g.0.at.device i g.0.open_is in
      record {
        open_is = λ d j o.
            let was = unless_some i (open_job d C) j o in
            let it = h.open_is d j was.0 in
            record {
              at = it.at;
              job_is = it.job_is;
              device = it.device;
              fresh =
                  let lt = it.fresh in
                  let is = at_most (job_of i C) g.0.at (top d C) d g.0.job_is (λ e. eqb-false i j was.1 (same_Some _ _ (sym (subst (λ z. open_job z C ≡ Some i) e g.0.open_is) ∙ was.0))) in
                  omega arith;
              state = rw was.1 it.state;
            };
        state_le = λ j s o. either i j (λ t y. let le = h.state_le i OrderedJob mine.state in omega arith) (λ t. h.state_le j s (rw t at o));
        job_le = h.job_le;
        held_is = λ j o. either i j (λ t y. rw t (first_of_some (held_of j C) x)) (λ t. rw t (h.held_is j (rw t at o)));
        begun_is = λ j b. either i j
            (λ t y. let bad = h.begun_is j b in absurd (⊎_elim
            (λ (s : state_of j C ≡ Some BegunJob). apart (same_Some _ _ (sym (subst (λ z. state_of z C ≡ Some OrderedJob) y mine.state) ∙ s)))
            (λ (s : state_of j C ≡ Some ClosedJob). apart' (same_Some _ _ (sym (subst (λ z. state_of z C ≡ Some OrderedJob) y mine.state) ∙ s)))
            bad))
            (λ t. ⊎_elim (λ (s : state_of j C ≡ Some BegunJob). inl (rw t s)) (λ (s : state_of j C ≡ Some ClosedJob). inr (rw t s)) (h.begun_is j b));
        piece_le = λ d p o. ⊎_elim
            (λ (t : is_of_piece d p (job_of i C) ≡ true). let is = piece_has d p (job_of i C) t in omega arith)
            (λ (t : is_of_piece d p (job_of i C) ≡ false). let le = h.piece_le d p (rw t at o) in omega arith)
            (cases_Bool (is_of_piece d p (job_of i C)));
      }
    where
      apart : OrderedJob ≡ BegunJob → ⊥
      apart e = cc

      apart' : OrderedJob ≡ ClosedJob → ⊥
      apart' e = cc
  jobs (Began i ∷ C) g =
      let h = jobs C g.1 in
      record {
        open_is = λ d j o.
            let it = h.open_is d j o in
            record { at = it.at; job_is = it.job_is; device = it.device; fresh = it.fresh; state = rw (ne_eqb i j (λ e. apart (same_Some _ _ (sym (subst (λ z. state_of z C ≡ Some HeldJob) e g.0) ∙ it.state)))) it.state };
        state_le = λ j s o. either i j (λ t y. let le = h.state_le i HeldJob g.0 in omega arith) (λ t. h.state_le j s (rw t at o));
        job_le = h.job_le;
        held_is = λ j o. either i j (λ t y. let bad = same_Some _ _ (rw t at o) in cc bad) (λ t. h.held_is j (rw t at o));
        begun_is = λ j b. either i j (λ t y. inl (rw t refl)) (λ t. ⊎_elim (λ (s : state_of j C ≡ Some BegunJob). inl (rw t s)) (λ (s : state_of j C ≡ Some ClosedJob). inr (rw t s)) (h.begun_is j (rw t at b)));
        piece_le = h.piece_le;
      }
    where
      apart : HeldJob ≡ OrderedJob → ⊥
      apart e = cc
  jobs (Closed i ∷ C) g =
      let h = jobs C g.1 in
      record {
        open_is = λ d j o.
            let was = unless_some i (open_job d C) j o in
            let it = h.open_is d j was.0 in
            record { at = it.at; job_is = it.job_is; device = it.device; fresh = it.fresh; state = rw was.1 it.state };
        state_le = λ j s o. either i j (λ t y. let le = h.state_le i g.0.0 g.0.1 in omega arith) (λ t. h.state_le j s (rw t at o));
        job_le = h.job_le;
        held_is = λ j o. either i j (λ t y. let bad = same_Some _ _ (rw t at o) in cc bad) (λ t. h.held_is j (rw t at o));
        begun_is = λ j b. either i j (λ t y. inr (rw t refl)) (λ t. ⊎_elim (λ (s : state_of j C ≡ Some BegunJob). inl (rw t s)) (λ (s : state_of j C ≡ Some ClosedJob). inr (rw t s)) (h.begun_is j b));
        piece_le = h.piece_le;
      }
  jobs (c ∷ C) g = let h = jobs C g.1 in record { open_is = λ d j o. let it = h.open_is d j o in record { at = it.at; job_is = it.job_is; device = it.device; fresh = it.fresh; state = it.state }; state_le = h.state_le; job_le = h.job_le; held_is = h.held_is; begun_is = h.begun_is; piece_le = h.piece_le }
