use Rattle.std.proofs.Common.{refl, sym, subst, ◌∙◌, arith, true≢false}
use Rattle.bench_base.specs.Table.{number}
use Rattle.centre_ledger.specs.Soundness.{IsSoundCustomer}
use Rattle.centre_ledger.proofs.Fields.{zeros_behind}
use Rattle.centre_ledger.proofs.CustomerBytes.{customer_device, customer_flag, customer_end, customer_numbers, customer_read, customer_made, same_customer}
use Rattle.centre_ledger.proofs.rows.CustomerRow.read_payload.Goals as goal

pub returns-then-u32_at-get-clause-none : goal.returns-then-u32_at-get-clause-none
unfolding number
returns-then-u32_at-get-clause-none c =
    λ r e h. c.if-u32_at-get.true (c.u32_at.ensures ∙ customer_device r c.args.payload.now h ∙ e ∙ sym c.get.ensures.value)

pub returns-then-payload-gt1-clause-none : goal.returns-then-payload-gt1-clause-none
returns-then-payload-gt1-clause-none c = λ r e h. absurd (omega (arith, c.if-payload-gt1.true, customer_flag r c.args.payload.now h))

pub returns-then-not-is_zero-clause-none : goal.returns-then-not-is_zero-clause-none
returns-then-not-is_zero-clause-none c =
    λ r e h. absurd (true≢false (sym (c.is_zero.ensures.1 ((zeros_behind 21 171 c.args.payload.now c.told-payload).1 (customer_end r c.args.payload.now h))) ∙ c.if-not-is_zero.true))

pub returns-then-is_sound_customer-clause-found : goal.returns-then-is_sound_customer-clause-found
unfolding number
returns-then-is_sound_customer-clause-found c = (
  refl,
  customer_made _ c.args.payload.now c.told-payload c.fits-payload (c.is_sound_customer.ensures.0 c.if-is_sound_customer.true)
      (customer_read c.args.payload.now _ _ _ _ (sym c.get.ensures.value ∙ sym c.if-u32_at-get.false ∙ c.u32_at.ensures) c.if-payload-gt1.false c.u64_at.ensures c.u32_at-2.ensures c.u32_at-3.ensures)
      ((zeros_behind 21 171 c.args.payload.now c.told-payload).0 (c.is_zero.ensures.0 c.if-not-is_zero.false)),
)

pub returns-else-is_sound_customer-clause-none : goal.returns-else-is_sound_customer-clause-none
unfolding number
returns-else-is_sound_customer-clause-none c =
    λ r e h.
    let read =
    customer_read c.args.payload.now _ _ _ _ (sym c.get.ensures.value ∙ sym c.if-u32_at-get.false ∙ c.u32_at.ensures) c.if-payload-gt1.false c.u64_at.ensures c.u32_at-2.ensures c.u32_at-3.ensures in
    let same = same_customer r _ (sym (customer_numbers r c.args.payload.now h) ∙ read) in
    absurd (true≢false (sym (c.is_sound_customer.ensures.1 (subst IsSoundCustomer same h.sound)) ∙ c.if-is_sound_customer.false))
