use Rattle.std.proofs.Common.{length, ap, sym, ◌∙◌, rules}
use Rattle.psd_wire.proofs.Readings.{length_done}
use Rattle.psd_state.proofs.asking.done_bytes.Goals as goal

pub copy_from_slice-requires : goal.copy_from_slice-requires
copy_from_slice-requires c = sym (ap length (c.as_slice.ensures ∙ c.write_message_by-note.ensures) ∙ length_done c.args.done c.args.key.now (search rules))
