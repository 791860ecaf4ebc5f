use Rattle.std.proofs.Common.{refl, sym, subst, ◌∙◌}
use Rattle.bench_base.specs.Table.{number}
use Rattle.centre_ledger.specs.Parts.{IsToldBy}
use Rattle.centre_ledger.proofs.Fields.{bare_read, head_read, told_so, device_so}
use Rattle.centre_ledger.proofs.payload.bare_row.Goals as goal

pub returns-then-u32_at-get-clause-none : goal.returns-then-u32_at-get-clause-none
unfolding number
returns-then-u32_at-get-clause-none c =
    λ r d own head. c.if-u32_at-get.true (c.u32_at.ensures ∙ device_so c.args.version c.args.payload.now r head ∙ d ∙ sym c.get.ensures.value)

pub returns-in_default-clause-none : goal.returns-in_default-clause-none
unfolding number
returns-in_default-clause-none c =
    λ r d own head. c.in_default.ensures.none r.enrolment own
    (subst (λ n. IsToldBy c.args.state n r.enrolment) (sym c.u32_at-2.ensures) (told_so c.args.version c.args.payload.now r c.args.state c.requires.state head))

pub returns-clause-found : goal.returns-clause-found
unfolding number
returns-clause-found c =
    let device = sym c.get.ensures.value ∙ sym c.if-u32_at-get.false ∙ c.u32_at.ensures in
    let told = subst (λ n. IsToldBy c.args.state n c.in-Some.enrolment) c.u32_at-2.ensures c.in-Some.ensures.found in (
      bare_read c.args.version c.args.payload.now _ _ _ _ c.args.state _ _ _ _ _ _ device c.requires.state told c.u32_at-3.ensures
          c.copy_from_slice.ensures.after c.u32_at-4.ensures c.u32_at-5.ensures c.sums_at-buys.ensures.buys c.sums_at-buys.ensures.returns c.of.ensures c.of-2.ensures,
      refl,
      head_read c.args.version c.args.payload.now _ c.args.state _ _ device c.requires.state told c.u32_at-3.ensures,
    )
