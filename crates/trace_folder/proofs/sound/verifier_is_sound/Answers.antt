use Rattle.trace_folder.proofs.SoundRecords.{verifier_sound}
use Rattle.trace_folder.proofs.sound.verifier_is_sound.Goals as goal

pub returns : goal.returns
returns c = verifier_sound c.args.traced.now c.requires.settled
