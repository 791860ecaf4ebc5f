-- Jobs that are found stay so.
use Rattle.std.proofs.Common.{◌≡◌, ◌≢◌, inl, inr, ℕ, ◌+◌, List, Option, Some, None, sym, ap, ◌∙◌, subst, arith}
use Rattle.std.proofs.lemmas.Bool.{cases_eq}
use Rattle.node_acts.specs.RowList.{put}
use Rattle.host_departments.specs.Index.{place_of, at_place, IsFound, IsIndexed, Keep}
use Rattle.host_departments.specs.Rows.{Rows, row_in, job_in}
use Rattle.host_departments.specs.declared.{row.DepartmentRow.DepartmentRow, row.DepartmentRow.TheVariants.Quota, row.DepartmentRow.TheVariants.Job}
use Rattle.host_departments.proofs.Puts.{row_else, put_row}

next_some : (n k : ℕ) → n ≡ k + 1 → n ≢ 0
next_some n k is none = omega (arith, is, none)

pub still_found : (old new : List ℕ) → Keep old new → (j k : ℕ) → IsFound old j k → IsFound new j k
still_found old new keep j k found d lt none =
    let was : at_place old j d ≢ 0 = found d lt (λ e before is. none e before (keep (place_of j e) (next_some (at_place old j e) k is) ∙ is)) in
    λ empty. was (sym (keep (place_of j d) was) ∙ empty)

keeps_row : (o : Option DepartmentRow) (j : ℕ) → job_in o ≡ Some j → (p : ℕ) × (o ≡ Some (Job j p))
keeps_row None j is = absurd (cc)
keeps_row (Some (Quota q)) j is = absurd (cc)
keeps_row (Some (Job i p)) j is = (p, let same : i ≡ j = cc in ap (λ (n : ℕ). Some (Job n p)) same)

-- with a row more
pub indexed_put : (old new : List ℕ) → Keep old new → (rows : Rows) (cell : ℕ) (x : DepartmentRow) → IsIndexed old rows → ((j p : ℕ) → x ≡ Job j p → IsFound new j cell) → IsIndexed new (put rows cell x)
indexed_put old new keep rows cell x indexed found k j keeps = elim (cases_eq k cell) [
  | inl same ↦
      let at = keeps_row (row_in (put rows cell x) k) j keeps in
      elim (put_row rows cell x (Job j at.0) k at.1) [
        | inl is ↦ subst (λ (c : ℕ). IsFound new j c) (sym same) (found j at.0 is)
        | inr was ↦ still_found old new keep j k (indexed k j (ap (λ (o : Option DepartmentRow). job_in o) was))
      ]
  | inr differs ↦ still_found old new keep j k (indexed k j (sym (ap (λ (o : Option DepartmentRow). job_in o) (row_else rows cell x k differs)) ∙ keeps))
]
