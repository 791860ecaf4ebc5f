use Rattle.std.proofs.Common.{◌∙◌}
use Rattle.bench_base.specs.Table.{number}
use Rattle.psd_state.proofs.Parted.{byte_number, signed_number, fields_read}
use Rattle.psd_state.proofs.parts.first_fields.Goals as goal

pub returns : goal.returns
unfolding number
returns c =
    fields_read 1 c.args.payload.now _ _ _ _ _ _ _ _ _ _ _ _ _ c.u32_at.ensures (byte_number 4 c.args.payload.now) c.copy_from_slice.ensures.after
    (c.from.ensures ∙ c.u32_at-2.ensures) (c.from-2.ensures ∙ c.u32_at-3.ensures) (c.from-3.ensures ∙ c.u32_at-4.ensures) c.u32_at-5.ensures c.u32_at-6.ensures (signed_number _ _ c.i32_at.ensures) (signed_number _ _ c.i32_at-2.ensures)
    c.u32_at-7.ensures c.u32_at-8.ensures (byte_number 73 c.args.payload.now)
