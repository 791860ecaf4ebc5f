use Rattle.node_images.proofs.device.device_image.Goals as goal

pub returns-then-not-are_sound : goal.returns-then-not-are_sound
returns-then-not-are_sound c =
    (λ both. c.are_sound.ensures.no c.if-not-are_sound.true both.0, λ both. c.are_sound.ensures.no c.if-not-are_sound.true both.0)

pub shows_state-requires-clause-sound : goal.shows_state-requires-clause-sound
shows_state-requires-clause-sound c = (c.are_sound.ensures.yes c.if-not-are_sound.false).state

pub returns-then-shows_state : goal.returns-then-shows_state
returns-then-shows_state c = (c.are_sound.ensures.yes c.if-not-are_sound.false, c.shows_state.ensures.yes c.if-shows_state.true)

pub shows_changed-requires-clause-sound : goal.shows_changed-requires-clause-sound
shows_changed-requires-clause-sound c = c.are_sound.ensures.yes c.if-not-are_sound.false

pub returns-then-shows_changed : goal.returns-then-shows_changed
returns-then-shows_changed c = (
  (c.are_sound.ensures.yes c.if-not-are_sound.false, c.shows_changed.ensures.yes c.if-shows_changed.true),
  λ both. c.shows_state.ensures.no c.if-shows_state.false both.1,
)

pub returns : goal.returns
returns c = (λ both. c.shows_state.ensures.no c.if-shows_state.false both.1, λ both. c.shows_changed.ensures.no c.if-shows_changed.false both.1)
