use Rattle.trace_folder.proofs.SoundRecords.{host_sound}
use Rattle.trace_folder.proofs.sound.host_is_sound.Goals as goal

pub returns : goal.returns
returns c = host_sound c.args.traced.now c.requires.settled
