use Rattle.node_images.proofs.device.are_sound.Goals as goal

pub returns-then-not-is_sound-clause-no : goal.returns-then-not-is_sound-clause-no
returns-then-not-is_sound-clause-no c is sound = c.is_sound.ensures.no c.if-not-is_sound.true sound.state

pub returns-clause-yes : goal.returns-clause-yes
returns-clause-yes c is = record { state = c.is_sound.ensures.yes c.if-not-is_sound.false; next = c.is_sound_after.ensures.yes is }

pub returns-clause-no : goal.returns-clause-no
returns-clause-no c is sound = c.is_sound_after.ensures.no is sound.next
