use Rattle.host_departments.proofs.payload.DepartmentRowsRows12.agree.Goals as goal

pub returns-then-are_sound : goal.returns-then-are_sound
returns-then-are_sound c = (
  λ yes. record { each = c.are_sound.ensures.0 c.if-are_sound.true; once = c.are_lone.ensures.0 yes },
  λ sound. c.are_lone.ensures.1 sound.once,
)
