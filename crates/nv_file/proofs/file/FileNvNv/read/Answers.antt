use Rattle.std.proofs.Common.{◌≡◌, true, sym, ◌∙◌, subst}
use Rattle.nv_file.specs.declared.ahead.Ahead.{Ahead}
use Rattle.nv_file.proofs.Asking.{asked_where_none}
use Rattle.nv_file.proofs.file.FileNvNv.read.Goals as goal

pub returns-clause-exact : goal.returns-clause-exact
returns-clause-exact c = (
  c.answer.ensures.unsynced ∙ c.fetch-went.ensures.unsynced,
  λ none. subst (λ (a : Ahead). a.asked ≡ true) (sym c.answer.ensures.ahead) (asked_where_none _ _ _ _ _ _ c.fetch-went.ensures.bytes none),
)
