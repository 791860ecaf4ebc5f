use Rattle.trace_folder.proofs.SoundRecords.{device_sound}
use Rattle.trace_folder.proofs.sound.devices_are_sound.Goals as goal

pub returns : goal.returns
returns c = device_sound
