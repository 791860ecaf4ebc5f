-- What departments keep agrees, and each line leaves it so.
use Rattle.std.proofs.Common.{◌≡◌, inl, inr, ℕ, zero, suc, ◌+◌, ◌-◌, ◌<◌, ◌≤◌, List, [], ◌∷◌, length, Option, Some, None, Bool, true, false, refl, sym, ap, ◌∙◌, subst, arith, true≢false}
use Rattle.std.specs.Prelude.{codes, nat_lt, IsSome, is_some}
use Rattle.std.proofs.lemmas.Bool.{cases_eq, cases_lt}
use Rattle.std.proofs.lemmas.Bool.Decides.{nat_tests}
use Rattle.std.proofs.lemmas.List.{get_or_past}
use Rattle.nv_model.specs.declared.nv.Nv as nv
use Rattle.node_acts.specs.RowLaws.{put_long}
use Rattle.node_acts.specs.RowList.{put, row_of}
use Rattle.node_turns.specs.declared.turn.Turn.{Turn}
use Rattle.line_extensions.specs.Trace.{StepRecord, Skipped, Did}
use Rattle.line_extensions.specs.SideTrace.{SideStep, Plain, Own, Broken}
use Rattle.host_departments.specs.Answers.{Answered, IsTold, IsCommitted, IsTakenIn, IsFree, IsSent, IsAssignTold, ByQuota, IsAnswered, CellCommit, AreAnswered}
use Rattle.host_departments.specs.DepartmentLines.{IsLine}
use Rattle.host_departments.specs.Moves.{Either}
use Rattle.host_departments.specs.Rows.{Rows, row_in, job_in, postage_in, quota, or_zero, sum_to, postage_at, spent, first_cell, department_of, Keeps, Has, HasJobs, IsDepartment, Agree}
use Rattle.host_departments.specs.Texts.{numbered, quota_text, assigned_text, spent_text}
use Rattle.host_departments.specs.View.{rows_of}
use Rattle.host_departments.specs.declared.{desk.Departments.Departments, row.DepartmentLine.DepartmentLine, row.DepartmentLine.TheVariants.Quota, row.DepartmentLine.TheVariants.Assign, row.DepartmentLine.TheVariants.Spent, row.DepartmentLine.TheVariants.Print, row.DepartmentRow.DepartmentRow}
use Rattle.host_departments.specs.declared.row.DepartmentRow.TheVariants as row
use Rattle.host_departments.proofs.Keeping.{rows_long, job_place}
use Rattle.host_departments.proofs.Places.{owner}
use Rattle.host_departments.proofs.Sums.{sum_none, sum_next}
use Rattle.host_departments.proofs.Puts.{keeps_before, quota_sound, kept_else, job_sound}

not_below : (q s : ℕ) → nat_lt q s ≡ false → s ≤ q
not_below q s is = grind (arith, nat_tests)

enough_left : (q s p : ℕ) → s ≤ q → nat_lt (q - s) p ≡ false → s + p ≤ q
enough_left q s p le is = let few : p ≤ q - s = not_below (q - s) p is in omega (arith, le, few)

-- past the last cell nothing is kept
kept_inside : (rows : Rows) (k j : ℕ) → Keeps rows k j → k < length rows
kept_inside rows k j keeps = elim (cases_lt k (length rows)) [
  | inl lt ↦ lt
  | inr past ↦ let wrong : None ≡ Some j = sym (ap (λ o. job_in (row_of o)) (get_or_past rows k None past)) ∙ keeps in cc
]

-- what is kept in a storage agrees
pub desk_agrees : {N : Type 0} {g : nv.Ghosts N} (desk : Departments N g) → Agree (rows_of desk)
desk_agrees desk = record { cells = rows_long desk.room ∙ desk.cells; jobs = λ k j keeps. (job_place desk.room desk.filled k j keeps).0; sound = desk.sound }

-- == where nothing is kept ==

module _ (rows : Rows) (none : (k : ℕ) → row_in rows k ≡ None) where
  no_job : (k j : ℕ) → Keeps rows k j → ⊥
  no_job k j keeps = let wrong : None ≡ Some j = sym (ap (λ (o : Option DepartmentRow). job_in o) (none k)) ∙ keeps in cc

  no_row : (k : ℕ) → IsSome (row_in rows k) → ⊥
  no_row k some = true≢false (sym some ∙ ap (λ (o : Option DepartmentRow). is_some o) (none k))

  none_spent : (n d : ℕ) → sum_to n (postage_at rows d) ≡ 0
  none_spent zero d = sum_none (postage_at rows d)
  none_spent (suc n) d =
      let last : postage_at rows d n ≡ 0 = ap (λ (o : Option DepartmentRow). postage_in o) (none (first_cell d + n)) in
      let next : suc n ≡ n + 1 = omega arith in
      let before = none_spent n d in
      ap (λ (m : ℕ). sum_to m (postage_at rows d)) next ∙ sum_next n (postage_at rows d) ∙ omega (arith, before, last)

pub none_agree : (rows : Rows) → length rows ≡ 1040 → ((k : ℕ) → row_in rows k ≡ None) → Agree rows
none_agree rows long none = record {
  cells = long;
  jobs = λ k j keeps. absurd (no_job rows none k j keeps);
  sound = record {
    each = λ d is. (λ i lt some. absurd (no_row rows none (first_cell d + (i + 1)) some), let sum = none_spent rows none 64 d in omega (arith, sum));
    once = λ j k l at at'. absurd (no_job rows none k j at);
  };
}

module _ (rows : Rows) (agree : Agree rows) where
  -- no cell keeps a job that no department has
  unkept : (d j : ℕ) → IsFree rows d j → (k : ℕ) → Keeps rows k j → ⊥
  unkept d j free k keeps =
      let cells = agree.cells in
      let inside = kept_inside rows k j keeps in
      let owns = owner rows k j (department_of k) (agree.jobs k j keeps) (omega (arith, cells, inside)) keeps refl in
      elim (cases_eq (department_of k) d) [
        | inl is ↦ free.0 (subst (λ (e : ℕ). Has rows e j) is owns.1)
        | inr differs ↦ free.1 (record { other = department_of k; department = owns.0; differs = differs; has = owns.1 })
      ]

  -- a quota that is not below what was spent
  pub quota_agrees : (d q : ℕ) → IsDepartment d → nat_lt q (spent rows d) ≡ false → Agree (put rows (d - 1) (row.Quota q))
  quota_agrees d q is enough =
      let cells = agree.cells in
      let inside : d - 1 < length rows = omega (arith, is.0, is.1, cells) in
      record {
        cells = put_long rows (d - 1) (row.Quota q) ∙ agree.cells;
        jobs = λ k j keeps. agree.jobs k j (keeps_before rows d q is inside k j keeps);
        sound = quota_sound rows d q is inside agree.sound (not_below q (spent rows d) enough);
      }

  -- a job that no department has, with postage within what is left of the quota
  pub job_agrees : (d j q p n : ℕ) → IsDepartment d → quota rows d ≡ Some q → IsFree rows d j → nat_lt (q - spent rows d) p ≡ false → HasJobs rows d n → n < 64
      → Agree (put rows (first_cell d + n) (row.Job j p))
  job_agrees d j q p n is limit free fits jobs room =
      let cells = agree.cells in
      let inside : first_cell d + n < length rows = omega (arith, is.0, is.1, room, cells) in
      let within = (agree.sound.each d is).1 in
      let most : or_zero (quota rows d) ≡ q = ap (λ (o : Option ℕ). or_zero o) limit in
      let few : spent rows d ≤ q = omega (arith, most, within) in
      let more : spent rows d + p ≤ q = enough_left q (spent rows d) p few fits in
      record {
        cells = put_long rows (first_cell d + n) (row.Job j p) ∙ agree.cells;
        jobs = λ k i keeps. elim (cases_eq k (first_cell d + n)) [
          | inl here ↦ omega (arith, here)
          | inr differs ↦ agree.jobs k i (kept_else rows d n j p is jobs room inside k i differs keeps)
        ];
        sound = job_sound rows d n j p is jobs room inside agree.sound (unkept d j free) (omega (arith, more, most));
      }

  -- == an answer ==

  module _ (a : Answered) where
    same : a.after ≡ rows → Agree a.after
    same is = subst (λ (x : Rows). Agree x) (sym is) agree

    committed : (k : ℕ) (x : DepartmentRow) (text : List ℕ) → Agree (put rows k x) → IsCommitted k x text rows a → Agree a.after
    committed k x text new (inl worn) = same worn.2
    committed k x text new (inr now) = subst (λ (y : Rows). Agree y) (sym now.2) new

    quota_set : (d q : ℕ) → IsDepartment d → (b : Bool) → nat_lt q (spent rows d) ≡ b → (text : List ℕ)
        → Either b (IsTold text rows a) ((a.asked ≡ []) × IsCommitted (d - 1) (row.Quota q) (quota_text d q) rows a) → Agree a.after
    quota_set d q is true test text told = same told.rests
    quota_set d q is false test text did = committed (d - 1) (row.Quota q) (quota_text d q) (quota_agrees d q is test) did.1

    limited : (d j q p : ℕ) → IsDepartment d → quota rows d ≡ Some q → IsFree rows d j → (b : Bool) → nat_lt (q - spent rows d) p ≡ b → (P : Type 0)
        → Either b (P × (a.after ≡ rows)) (IsTakenIn d j p (q - spent rows d) rows a) → Agree a.after
    limited d j q p is limit free true test P did = same did.1
    limited d j q p is limit free false test P did =
        committed (first_cell d + did.place) (row.Job j p) (assigned_text j d (q - spent rows d - p)) (job_agrees d j q p did.place is limit free test did.jobs did.room) did.is

    sent : (d j q : ℕ) → IsDepartment d → quota rows d ≡ Some q → IsFree rows d j → IsSent d j q rows a → Agree a.after
    sent d j q is limit free sends = elim sends.did [
      | inl did ↦ limited d j q did.0 is limit free (nat_lt (q - spent rows d) did.0) refl (a.texts ≡ numbered (codes "refused dept quota") (q - spent rows d) ∷ []) did.2
      | inr did ↦ same did.2
    ]

    assigned : (d j q : ℕ) → IsDepartment d → quota rows d ≡ Some q → IsAssignTold d j q rows a → Agree a.after
    assigned d j q is limit (inl again) = same again.1.rests
    assigned d j q is limit (inr (not_here, inl taken)) = same taken.1.rests
    assigned d j q is limit (inr (not_here, inr (not_there, inl full))) = same full.1.rests
    assigned d j q is limit (inr (not_here, inr (not_there, inr room))) = sent d j q is limit (not_here, not_there, room.0) room.1

    by_quota : (d : ℕ) (o : Option ℕ) → quota rows d ≡ o → (known : ℕ → Answered → Type 0) → ((q : ℕ) → quota rows d ≡ Some q → known q a → Agree a.after) → ByQuota o d rows known a → Agree a.after
    by_quota d None limit known more told = same told.rests
    by_quota d (Some q) limit known more did = more q limit did

    answered : (own : DepartmentLine) → IsLine own → IsAnswered own rows a → Agree a.after
    answered (Quota d q) line did = quota_set d q line.0 (nat_lt q (spent rows d)) refl (numbered (codes "refused dept below spent") (spent rows d)) did
    answered (Assign d j) line did = by_quota d (quota rows d) refl (λ q x. IsAssignTold d j q rows x) (λ q limit told. assigned d j q line.0 limit told) did
    answered (Spent d) line did = by_quota d (quota rows d) refl (λ q x. IsTold (spent_text d (spent rows d) q) rows x) (λ q limit told. same told.rests) did
    answered (Print j) line did = same did.1.rests

-- so it is after all lines
pub agree_after : {B : Type 0} (Steps : B → B → StepRecord → Turn → Type 0) (s : B) (rows : Rows) (trace : List (SideStep DepartmentLine)) (t : B) (then : Rows) (failed : Option CellCommit) → Agree rows
    → AreAnswered Steps s rows trace t then failed → Agree then
agree_after Steps s rows [] t then failed agree did = subst (λ (x : Rows). Agree x) (sym did.1) agree
agree_after Steps s rows (Plain (Skipped line) ∷ rest) t then failed agree did = agree_after Steps s rows rest t then failed agree did
agree_after Steps s rows (Plain (Did line d) ∷ rest) t then failed agree did = agree_after Steps did.0 rows rest t then failed agree did.2
agree_after Steps s rows (Own line own steps texts ∷ rest) t then failed agree did =
    agree_after Steps did.0 did.1 rest t then failed (answered rows agree (record { asked = did.2.asked; texts = texts; after = did.1 }) own did.2.line did.2.answered) did.3
agree_after Steps s rows (Broken line own steps ∷ rest) t then failed agree did = agree_after Steps did.0 rows rest t then None agree did.4
