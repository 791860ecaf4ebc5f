-- A line of claims or of departments that asks for no step keeps nothing new, unless it answers a quota.
use Rattle.std.proofs.Common.{◌≡◌, ◌⊎◌, inl, inr, ℕ, ◌+◌, ◌-◌, List, Option, Some, None, Bool, true, false, ap}
use Rattle.std.specs.Prelude.{◌==◌, nat_lt}
use Rattle.bench_base.specs.declared.events.Event.{Event}
use Rattle.host_departments.specs.Moves as department
use Rattle.host_departments.specs.Rows.{quota, spent}
use Rattle.host_departments.specs.declared.{row.DepartmentLine.DepartmentLine, row.DepartmentLine.TheVariants.Quota, row.DepartmentLine.TheVariants.Assign, row.DepartmentLine.TheVariants.Spent, row.DepartmentLine.TheVariants.Print}
use Rattle.host_departments.specs.declared.answer.Answer.TheVariants as departments
use Rattle.host_departments.specs.declared.row.DepartmentRow.TheVariants as row
use Rattle.line_extensions.specs.declared.{extension.Next.Next, extension.Next.TheVariants.Step, extension.Next.TheVariants.Say, extension.Next.TheVariants.Stop}
use Rattle.node_acts.specs.RowList.{is_worn}
use Rattle.spoil_claims.specs.Claims.{kept, last_claim}
use Rattle.spoil_claims.specs.Moves as claim
use Rattle.spoil_claims.specs.declared.{claim.ClaimLine.ClaimLine, claim.ClaimLine.TheVariants.Claim, claim.ClaimLine.TheVariants.Credits, claim.ClaimLine.TheVariants.Reserved, claim.ClaimRow.ClaimRow, answer.Answer.Answer}
use Rattle.spoil_claims.specs.declared.answer.Answer.TheVariants as claims
use Rattle.trace_extensions.specs.ClaimsModel.{Standing, standing_keeper, ByWorn}
use Rattle.trace_extensions.specs.DepartmentsModel.{Kept, kept_keeper, tried}

-- it asks for no step
abbrev pub IsStill : Next → Type 0
IsStill first = (first ≡ Say) ⊎ (first ≡ Stop)

no_step : (first : Next) (e : Event) → IsStill first → first ≡ Step e → ⊥
no_step first e (inl say) step = cc (say, step)
no_step first e (inr stop) step = cc (stop, step)

-- == claims ==

module _ (v w : Standing) (first : Next) (still : IsStill first) where
  abbrev Same : Type 0
  Same = w.rows ≡ v.rows

  either : {P Q : Type 0} (b : Bool) → (P → Same) → (Q → Same) → claim.Either b P Q → Same
  either true f g did = f did
  either false f g did = g did

  scans : (x : ClaimRow) → first ≡ claim.scan_of x → Same
  scans x asks = absurd (no_step first _ still asks)

  tries : (b : Bool) (x : ClaimRow) (meant : Answer) → ByWorn b x meant (claim.scan_of x) v first w → Same
  tries true x meant did = ap (λ (s : Standing). s.rows) did.1
  tries false x meant did = scans x did.0

  by_kept : (o : Option ClaimRow) (c u : ℕ) (mark : List ℕ) → claim.ByKept standing_keeper o c u mark v first w → Same
  by_kept (Some x) c u mark (inl known) = either x.credited (λ again. again.says.rests) (λ asked. scans x asked.asks) known.1
  by_kept (Some x) c u mark (inr other) = other.1.rests
  by_kept None c u mark did =
      either (c == last_claim v.rows + 1) (λ fits. either (c == 1025) (λ full. full.rests) (λ did. tries (is_worn v.rows (c - 1)) (claim.row_for c u mark) (claims.Scanning c) did) fits) (λ wrong. wrong.rests) did

  pub claims_rest : (own : ClaimLine) → claim.Begins standing_keeper v own first w → Same
  claims_rest (Claim c u mark) begins = by_kept (kept v.rows c) c u mark begins
  claims_rest (Credits u) begins = begins.rests
  claims_rest Reserved begins = begins.rests

-- == departments ==

module _ (v w : Kept) (first : Next) (still : IsStill first) where
  -- the rows are the same, or it answers a quota
  abbrev pub SameOrQuota : Type 0
  SameOrQuota = (w.rows ≡ v.rows) ⊎ ((d : ℕ) × (q : ℕ) × (w.said ≡ departments.Quota d q))

  quota_tried : (b : Bool) (d q : ℕ) → w ≡ tried b (d - 1) (row.Quota q) (departments.Quota d q) v → SameOrQuota
  quota_tried true d q is = inl (ap (λ (s : Kept). s.rows) is)
  quota_tried false d q is = inr (d, q, ap (λ (s : Kept). s.said) is)

  by_quota : (b : Bool) (d q : ℕ) → department.Either b (department.Says kept_keeper (departments.Below (spent v.rows d)) v first w) (kept_keeper.Tries (d - 1) (row.Quota q) (departments.Quota d q) v first w) → SameOrQuota
  by_quota true d q says = inl says.rests
  by_quota false d q tries = quota_tried (is_worn v.rows (d - 1)) d q tries.1

  assigns : (o : Option ℕ) (d j : ℕ) → department.AssignsBy kept_keeper o d j v first w → SameOrQuota
  assigns None d j says = inl says.rests
  assigns (Some q) d j (inl again) = inl again.1.rests
  assigns (Some q) d j (inr (not_here, inl taken)) = inl taken.1.rests
  assigns (Some q) d j (inr (not_here, inr (not_there, inl full))) = inl full.1.rests
  assigns (Some q) d j (inr (not_here, inr (not_there, inr sends))) = absurd (no_step first _ still sends.1.asks)

  spends : (o : Option ℕ) (d : ℕ) → department.SpentBy kept_keeper o d v first w → SameOrQuota
  spends None d says = inl says.rests
  spends (Some q) d says = inl says.rests

  pub departments_rest : (own : DepartmentLine) → department.Begins kept_keeper v own first w → SameOrQuota
  departments_rest (Quota d q) begins = by_quota (nat_lt q (spent v.rows d)) d q begins
  departments_rest (Assign d j) begins = assigns (quota v.rows d) d j begins
  departments_rest (Spent d) begins = spends (quota v.rows d) d begins
  departments_rest (Print j) begins = inl begins.1.rests
