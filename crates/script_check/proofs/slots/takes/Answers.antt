use Rattle.script_check.proofs.InSlots.{byte_place}
use Rattle.script_check.proofs.slots.takes.Goals as goal

pub returns-in-Byte : goal.returns-in-Byte
returns-in-Byte c = byte_place _ c.args.slot c.args.word.now c.in-Byte.is c.is_of-in-Byte.ensures
