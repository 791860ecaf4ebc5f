-- What an act changes.
use Rattle.node_acts.specs.declared.act.Act.{Act}
use Rattle.node_acts.specs.Acts.{OfCommit}

-- P holds of the change that the act commits, if it commits
abbrev pub ChangesBy : {X F A : Type 0} → (X → Type 0) → Act X F A → Type 0
ChangesBy P = OfCommit (λ c x. P x)
