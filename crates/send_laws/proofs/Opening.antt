-- If the commits are in the host's order, a job of a device is open if and only if its state is Ordered.
use Rattle.std.proofs.Common.{◌≡◌, ℕ, ◌≤◌, true, false, List, [], ◌∷◌, Option, Some, None, refl, sym, subst, ◌∙◌, arith}
use Rattle.std.specs.Prelude.{◌==◌}
use Rattle.std.proofs.lemmas.Bool.{eqb-true, eqb-false, eq-eqb, ne_eqb}
use Rattle.std.proofs.lemmas.Option.{same_Some}
use Rattle.bench_base.specs.declared.{ledger.Commit.Commit, ledger.Commit.TheVariants.Ordered, ledger.Commit.TheVariants.Held, ledger.Commit.TheVariants.Began, ledger.Commit.TheVariants.Closed, words.JobState.JobState}
use Rattle.bench_base.specs.declared.words.JobState.TheVariants as state
use Rattle.bench_base.specs.Jobs.{Job, last_job, job_of, state_of, open_job, unless_job}
use Rattle.bench_base.proofs.Facts.{either, kept_first, first_of_none}
use Rattle.host_jobs.specs.Turns.{InTurn}
use Rattle.send_laws.specs.States.{IsOrderedFor, OpenByStates}
use Rattle.ledger_laws.proofs.Jobs.{unless_some}

-- jobs are numbered from 1 up to the last, and what is open is what is ordered
record AreOpen (C : List Commit) : Type 0 where
  job_le : (j : ℕ) (b : Job) → job_of j C ≡ Some b → j ≤ last_job C
  open_is : (d j : ℕ) → open_job d C ≡ Some j → IsOrderedFor d j C
  is_open : (d j : ℕ) → IsOrderedFor d j C → open_job d C ≡ Some j

-- another job stays open
left_open : (i : ℕ) (w : Option ℕ) (j : ℕ) → w ≡ Some j → (i == j) ≡ false → unless_job i w ≡ Some j
left_open i w j is other = subst (λ v. unless_job i v ≡ Some j) (sym is) (rw (ne_eqb j i (λ e. eqb-false i j other (sym e))) refl)

-- a commit that gives a job another state than Ordered
module _ (i : ℕ) (s : JobState) (other : s ≡ state.Ordered → ⊥) (c : Commit) (C : List Commit) (h : AreOpen C)
    (job_at : (j : ℕ) → job_of j (c ∷ C) ≡ job_of j C) (last_at : last_job (c ∷ C) ≡ last_job C)
    (same : (j : ℕ) → (i == j) ≡ true → state_of j (c ∷ C) ≡ Some s) (rest : (j : ℕ) → (i == j) ≡ false → state_of j (c ∷ C) ≡ state_of j C) where
  -- it was ordered before
  was : (d j : ℕ) → IsOrderedFor d j (c ∷ C) → ((i == j) ≡ false) × IsOrderedFor d j C
  was d j o = either i j
      (λ t y. absurd (other (same_Some _ _ (sym (same j t) ∙ o.state_is))))
      (λ t. (t, record { at = o.at; job_is = sym (job_at j) ∙ o.job_is; device_is = o.device_is; state_is = sym (rest j t) ∙ o.state_is }))

  -- it is ordered still
  is : (d j : ℕ) → (i == j) ≡ false → IsOrderedFor d j C → IsOrderedFor d j (c ∷ C)
  is d j t o = record { at = o.at; job_is = job_at j ∙ o.job_is; device_is = o.device_is; state_is = rest j t ∙ o.state_is }

  le : (j : ℕ) (b : Job) → job_of j (c ∷ C) ≡ Some b → j ≤ last_job (c ∷ C)
  le j b e = subst (λ n. j ≤ n) (sym last_at) (h.job_le j b (sym (job_at j) ∙ e))

  closing : ((d : ℕ) → open_job d (c ∷ C) ≡ unless_job i (open_job d C)) → AreOpen (c ∷ C)
  closing at = record {
    job_le = le;
    open_is = λ d j o. let kept = unless_some i (open_job d C) j (sym (at d) ∙ o) in is d j kept.1 (h.open_is d j kept.0);
    is_open = λ d j o. let kept = was d j o in at d ∙ left_open i (open_job d C) j (h.is_open d j kept.1) kept.0;
  }

  -- what was not open stays so
  keeping : ((j : ℕ) → (i == j) ≡ true → state_of j C ≡ Some state.Ordered → ⊥) → ((d : ℕ) → open_job d (c ∷ C) ≡ open_job d C) → AreOpen (c ∷ C)
  keeping idle at = record {
    job_le = le;
    open_is = λ d j o.
        let it = h.open_is d j (sym (at d) ∙ o) in
        either i j (λ t y. absurd (idle j t it.state_is)) (λ t. is d j t it);
    is_open = λ d j o. let kept = was d j o in at d ∙ h.is_open d j kept.1;
  }

open_by_states : (C : List Commit) → InTurn C → AreOpen C
open_by_states [] g = record { job_le = λ j b e. cc; open_is = λ d j e. cc; is_open = λ d j o. let none = o.state_is in cc }
open_by_states (Ordered i f q a k ∷ C) g =
    let h = open_by_states C g.1 in
    let next = g.0.next in
    let at : Job = record { device = f; piece = q; postage = a; class = k } in
    let fresh : (j : ℕ) → (i == j) ≡ true → job_of j (Ordered i f q a k ∷ C) ≡ Some at = λ j t. rw t (first_of_none (job_of j C) (Some at) (λ b e. let le = h.job_le j b e in let y = eqb-true i j t in omega arith)) in
    record {
      job_le = λ j b e. either i j (λ t y. omega arith) (λ t. let le = h.job_le j b (rw t at e) in omega arith);
      open_is = λ d j o. either f d
          (λ t y. let is : i ≡ j = same_Some _ _ (rw t at o) in record { at = at; job_is = fresh j (eq-eqb i j is); device_is = y; state_is = rw (eq-eqb i j is) refl })
          (λ t.
          let it = h.open_is d j (rw t at o) in
          let le = h.job_le j it.at it.job_is in
          record { at = it.at; job_is = kept_first (i == j) (job_of j C) _ it.at it.job_is; device_is = it.device_is; state_is = rw (ne_eqb i j (λ e. omega arith)) it.state_is });
      is_open = λ d j o. either i j
          (λ t y.
          let same : at ≡ o.at = same_Some _ _ (sym (fresh j t) ∙ o.job_is) in
          rw (eq-eqb f d (subst (λ b. b.device ≡ d) (sym same) o.device_is)) (subst (λ n. Some i ≡ Some n) y refl))
          (λ t.
          let was = h.is_open d j (record { at = o.at; job_is = rw t at o.job_is; device_is = o.device_is; state_is = rw t at o.state_is }) in
          either f d (λ u y. absurd (none j (sym (subst (λ z. open_job z C ≡ None) y g.0.idle) ∙ was))) (λ u. rw u was));
    }
  where
    none : (j : ℕ) → None ≡ Some j → ⊥
    none j e = cc
open_by_states (Held i x ∷ C) g = closing i state.Held (λ e. cc) (Held i x) C (open_by_states C g.1) (λ j. refl) refl (λ j t. rw t refl) (λ j t. rw t refl) (λ d. refl)
open_by_states (Began i ∷ C) g = keeping i state.Begun (λ e. cc) (Began i) C (open_by_states C g.1) (λ j. refl) refl (λ j t. rw t refl) (λ j t. rw t refl)
    (λ j t s. let held = subst (λ n. state_of n C ≡ Some state.Held) (eqb-true i j t) g.0 in apart (same_Some _ _ (sym held ∙ s)))
    (λ d. refl)
  where
    apart : state.Held ≡ state.Ordered → ⊥
    apart e = cc
open_by_states (Closed i ∷ C) g = closing i state.Closed (λ e. cc) (Closed i) C (open_by_states C g.1) (λ j. refl) refl (λ j t. rw t refl) (λ j t. rw t refl) (λ d. refl)
open_by_states (c ∷ C) g =
    let h = open_by_states C g.1 in
    record {
      job_le = h.job_le;
      open_is = λ d j e. let it = h.open_is d j e in record { at = it.at; job_is = it.job_is; device_is = it.device_is; state_is = it.state_is };
      is_open = λ d j o. h.is_open d j (record { at = o.at; job_is = o.job_is; device_is = o.device_is; state_is = o.state_is });
    }

pub by_states : (C : List Commit) → InTurn C → OpenByStates C
by_states C g d j = let h = open_by_states C g in (h.open_is d j, h.is_open d j)
