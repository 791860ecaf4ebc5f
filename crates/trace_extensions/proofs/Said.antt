-- Claims, departments and manifests are the same for the next line, whatever was said last.
use Rattle.std.proofs.Common.{◌≡◌, inl, inr, ℕ, ◌+◌, ◌-◌, List, Option, Some, None, Bool, true, false, ◌==◌, refl, sym, subst}
use Rattle.std.specs.Prelude.{nat_lt}
use Rattle.node_acts.specs.RowList.{is_worn}
use Rattle.line_extensions.specs.declared.{extension.Next.Next, extension.Next.TheVariants.Say}
use Rattle.spoil_claims.specs.Claims.{Claims, kept as kept_claim, last_claim, credits}
use Rattle.spoil_claims.specs.Moves as claim
use Rattle.spoil_claims.specs.declared.{claim.ClaimLine.ClaimLine, claim.ClaimLine.TheVariants.Claim, claim.ClaimLine.TheVariants.Credits, claim.ClaimLine.TheVariants.Reserved, claim.ClaimRow.ClaimRow, answer.Answer.Answer as ClaimAnswer}
use Rattle.spoil_claims.specs.declared.answer.Answer.TheVariants as claims
use Rattle.spoil_claims.proofs.Answering.{either_by as claim_either}
use Rattle.host_departments.specs.Moves as department
use Rattle.host_departments.specs.Rows.{Rows, quota, spent}
use Rattle.host_departments.specs.declared.{row.DepartmentLine.DepartmentLine, row.DepartmentLine.TheVariants.Quota, row.DepartmentLine.TheVariants.Assign, row.DepartmentLine.TheVariants.Spent, row.DepartmentLine.TheVariants.Print, row.DepartmentRow.DepartmentRow, answer.Answer.Answer as DepartmentAnswer}
use Rattle.host_departments.specs.declared.row.DepartmentRow.TheVariants as row
use Rattle.host_departments.specs.declared.answer.Answer.TheVariants as departments
use Rattle.mail_manifest.specs.Listings.{Listing}
use Rattle.mail_manifest.specs.Moves as manifest
use Rattle.trace_extensions.specs.ClaimsModel.{Standing, standing, ByWorn, standing_keeper, claims_model}
use Rattle.trace_extensions.specs.DepartmentsModel.{Kept, kept, tried, kept_keeper, departments_model}
use Rattle.trace_extensions.specs.ManifestModel.{ManifestView, view_listing, view_said, manifest_model}
use Rattle.trace_extensions.proofs.Forgetting.{Forgets}

-- == claims ==

module _ (rows : Claims) (s t : ClaimAnswer) (next : Next) (c : Standing) where
  claim_says : (answer : ClaimAnswer) → claim.Says standing_keeper answer (standing rows s) next c → claim.Says standing_keeper answer (standing rows t) next c
  claim_says answer says = record { ends = says.ends; answers = says.answers; rests = says.rests }

  claim_scans : (x : ClaimRow) → claim.Scans standing_keeper x (standing rows s) next c → claim.Scans standing_keeper x (standing rows t) next c
  claim_scans x scans = record { here = scans.here; asks = scans.asks; waits = scans.waits; rests = scans.rests }

  claim_repeats : (n : ℕ) (x : ClaimRow) → claim.Repeats standing_keeper n x (standing rows s) next c → claim.Repeats standing_keeper n x (standing rows t) next c
  claim_repeats n x again = record { mark = again.mark; is = again.is; says = claim_says _ again.says }

  claim_tries : (w : Bool) (x : ClaimRow) (meant : ClaimAnswer) (then : Next) → ByWorn w x meant then (standing rows s) next c → ByWorn w x meant then (standing rows t) next c
  claim_tries true x meant then did = did
  claim_tries false x meant then did = did

  claim_kept : (o : Option ClaimRow) (n w : ℕ) (mark : List ℕ) → claim.ByKept standing_keeper o n w mark (standing rows s) next c
      → claim.ByKept standing_keeper o n w mark (standing rows t) next c
  claim_kept (Some x) n w mark (inl known) = inl (known.0, claim_either x.credited (λ again. claim_repeats n x again) (λ scans. claim_scans x scans) known.1)
  claim_kept (Some x) n w mark (inr other) = inr (other.0, claim_says claims.Conflict other.1)
  claim_kept None n w mark did =
      claim_either (n == last_claim rows + 1)
      (λ fits. claim_either (n == 1025) (λ full. claim_says claims.Full full)
      (λ tries. claim_tries (is_worn rows (n - 1)) (claim.row_for n w mark) (claims.Scanning n) (claim.scan_of (claim.row_for n w mark)) tries) fits)
      (λ wrong. claim_says (claims.WrongClaim (last_claim rows)) wrong) did

  claim_begins : (own : ClaimLine) → claim.Begins standing_keeper (standing rows s) own next c → claim.Begins standing_keeper (standing rows t) own next c
  claim_begins (Claim n w mark) did = claim_kept (kept_claim rows n) n w mark did
  claim_begins (Credits w) did = claim_says (claims.Credits w (credits w rows)) did
  claim_begins Reserved did = claim_says claims.Reserved did

pub claims_forget : Forgets claims_model (λ (a b : Standing). a.rows ≡ b.rows)
claims_forget = record {
  same = λ a. refl;
  passes = λ a b line like passes. passes;
  sees = λ a b c turn like is. (b, refl, subst (λ (x : Standing). x.rows ≡ b.rows) (sym is) like);
  begins = λ a b c line next like did.
      (did.0, did.1, subst (λ (rows : Claims). claim.Begins standing_keeper (standing rows b.said) did.0 next c) like (claim_begins a.rows a.said b.said next c did.0 did.2));
}

-- == departments ==

module _ (rows : Rows) (s t : DepartmentAnswer) (next : Next) (c : Kept) where
  department_says : (answer : DepartmentAnswer) → department.Says kept_keeper answer (kept rows s) next c → department.Says kept_keeper answer (kept rows t) next c
  department_says answer says = record { ends = says.ends; answers = says.answers; rests = says.rests }

  department_sends : (d j : ℕ) → department.Sends kept_keeper d j (kept rows s) next c → department.Sends kept_keeper d j (kept rows t) next c
  department_sends d j sends = record { asks = sends.asks; waits = sends.waits; rests = sends.rests }

  department_assigns : (o : Option ℕ) (d j : ℕ) → department.AssignsBy kept_keeper o d j (kept rows s) next c → department.AssignsBy kept_keeper o d j (kept rows t) next c
  department_assigns None d j did = department_says (departments.Unknown d) did
  department_assigns (Some q) d j (inl again) = inl (again.0, department_says (departments.Again j d) again.1)
  department_assigns (Some q) d j (inr (first, inl taken)) = inr (first, inl (taken.0, department_says (departments.Taken j) taken.1))
  department_assigns (Some q) d j (inr (first, inr (none, inl full))) = inr (first, inr (none, inl (full.0, department_says departments.Full full.1)))
  department_assigns (Some q) d j (inr (first, inr (none, inr sends))) = inr (first, inr (none, inr (sends.0, department_sends d j sends.1)))

  department_spent : (o : Option ℕ) (d : ℕ) → department.SpentBy kept_keeper o d (kept rows s) next c → department.SpentBy kept_keeper o d (kept rows t) next c
  department_spent None d did = department_says (departments.Unknown d) did
  department_spent (Some q) d did = department_says (departments.Spent d (spent rows d) q) did

  same_tried : (w : Bool) (k : ℕ) (x : DepartmentRow) (meant : DepartmentAnswer) → c ≡ tried w k x meant (kept rows s) → c ≡ tried w k x meant (kept rows t)
  same_tried true k x meant is = is
  same_tried false k x meant is = is

  department_quota : (b : Bool) (d q : ℕ)
      → department.Either b (department.Says kept_keeper (departments.Below (spent rows d)) (kept rows s) next c)
      ((next ≡ Say) × (c ≡ tried (is_worn rows (d - 1)) (d - 1) (row.Quota q) (departments.Quota d q) (kept rows s)))
      → department.Either b (department.Says kept_keeper (departments.Below (spent rows d)) (kept rows t) next c)
      ((next ≡ Say) × (c ≡ tried (is_worn rows (d - 1)) (d - 1) (row.Quota q) (departments.Quota d q) (kept rows t)))
  department_quota true d q did = department_says (departments.Below (spent rows d)) did
  department_quota false d q did = (did.0, same_tried (is_worn rows (d - 1)) (d - 1) (row.Quota q) (departments.Quota d q) did.1)

  department_begins : (own : DepartmentLine) → department.Begins kept_keeper (kept rows s) own next c → department.Begins kept_keeper (kept rows t) own next c
  department_begins (Quota d q) did = department_quota (nat_lt q (spent rows d)) d q did
  department_begins (Assign d j) did = department_assigns (quota rows d) d j did
  department_begins (Spent d) did = department_spent (quota rows d) d did
  department_begins (Print j) did = (did.0, department_says (departments.Unassigned j) did.1)

pub departments_forget : Forgets departments_model (λ (a b : Kept). a.rows ≡ b.rows)
departments_forget = record {
  same = λ a. refl;
  passes = λ a b line like passes. subst (λ (rows : Rows). (departments_model).Passes (kept rows b.said) line) like passes;
  sees = λ a b c turn like is. (b, refl, subst (λ (x : Kept). x.rows ≡ b.rows) (sym is) like);
  begins = λ a b c line next like did.
      (did.0, did.1, did.2, subst (λ (rows : Rows). department.Begins kept_keeper (kept rows b.said) did.0 next c) like (department_begins a.rows a.said b.said next c did.0 did.3));
}

-- == manifests ==

pub manifests_forget : Forgets manifest_model (λ (a b : ManifestView). a.listing ≡ b.listing)
manifests_forget = record {
  same = λ a. refl;
  passes = λ a b line like passes. passes;
  sees = λ a b c turn like is. (b, refl, subst (λ (x : ManifestView). x.listing ≡ b.listing) (sym is) like);
  begins = λ a b c line next like did.
      (did.0, did.1, subst (λ (o : Option Listing). manifest.BeginsWith view_listing view_said o did.0 next c) like did.2);
}
