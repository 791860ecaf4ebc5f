use Rattle.std.proofs.Common.{◌≡◌, ℕ, inl, inr, sym, subst, ◌∙◌, arith}
use Rattle.std.proofs.lemmas.Bool.{cases_order}
use Rattle.trace_extensions.specs.Kept.{claim_by}
use Rattle.trace_extensions.proofs.stored.claims_differ.Goals as goal

pub loop-number-preserved : goal.loop-number-preserved
loop-number-preserved c =
    let n = c.loop-number.number in
    let here : claim_by c.args.due.now n ≡ claim_by c.args.found.now n =
    sym c.claim_of-due.ensures ∙ c.is_same_claim.ensures.0 c.if-not-is_same_claim.false ∙ c.claim_of-found.ensures in
    record {
      same = λ k lt first. elim (cases_order k n) [
        | inl is ↦ subst (λ (i : ℕ). claim_by c.args.due.now i ≡ claim_by c.args.found.now i) (sym is) here
        | inr apart ↦ elim apart [
          | inl less ↦ c.loop-number.invariant.same k less first
          | inr more ↦ absurd (omega (arith, more, lt))
        ]
      ];
    }
