use Rattle.std.proofs.Common.{List, ℕ, IfSome, subst}
use Rattle.nv_model.specs.Moments.{Only}
use Rattle.nv_model.specs.contracts.memory.MemNvNv.TheImpl.{ghosts}
use Rattle.trace_extensions.proofs.words.blank_store.Goals as goal

pub returns-in-Ok-clause-blank : goal.returns-in-Ok-clause-blank
returns-in-Ok-clause-blank c =
    subst (λ (l : List ℕ). IfSome c.store_of.result (λ nv. Only (ghosts.times nv) l)) (c.in-Ok.ensures.items_if_clones_equal (λ y is. is)) c.store_of.ensures.only
