use Rattle.trace_folder.proofs.SoundRecords.{centre_sound}
use Rattle.trace_folder.proofs.sound.centre_is_sound.Goals as goal

pub returns : goal.returns
returns c = centre_sound c.args.traced.now c.requires.settled c.is_sound.ensures
