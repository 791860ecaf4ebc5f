use Rattle.std.proofs.Common.{ℕ, List, sym, ◌∙◌, ap}
use Rattle.std.proofs.lemmas.List.{take-replicate}
use Rattle.nv_model.specs.Bytes.{laid}
use Rattle.nv_model.proofs.Tears.{on_true}
use Rattle.nv_model.proofs.tear.write_run.Goals as goal

pub returns-clause-done : goal.returns-clause-done
returns-clause-done g c ok tells =
    on_true c.write.result (sym c.is_ok.ensures.value ∙ ok) (c.write.ensures.did.written tells)
    ∙ ap (λ (l : List ℕ). laid (g.N.Nv.content c.args.nv.now) c.args.at l) (take-replicate c.args.count 512 c.args.byte c.requires.short)
