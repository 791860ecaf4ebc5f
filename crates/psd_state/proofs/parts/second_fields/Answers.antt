use Rattle.bench_base.specs.Table.{number}
use Rattle.psd_state.proofs.Parted.{byte_number, signed_number, fields_read}
use Rattle.psd_state.proofs.parts.second_fields.Goals as goal

pub returns : goal.returns
unfolding number
returns c =
    fields_read 2 c.args.payload.now _ _ _ _ _ _ _ _ _ _ _ _ _ c.u32_at.ensures (byte_number 4 c.args.payload.now) c.copy_from_slice.ensures.after
    c.u64_at.ensures c.u64_at-2.ensures c.u64_at-3.ensures c.u32_at-2.ensures c.u32_at-3.ensures (signed_number _ _ c.i32_at.ensures) (signed_number _ _ c.i32_at-2.ensures)
    c.u32_at-4.ensures c.u32_at-5.ensures (byte_number 85 c.args.payload.now)
