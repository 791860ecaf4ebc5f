use Rattle.std.proofs.Common.{◌∙◌, sym, ap, length, arith, List}
use Rattle.std.proofs.lemmas.List.{length-take}
use Rattle.verifier.specs.declared.index.Entry.{Entry}
use Rattle.verifier.proofs.index.BlockIndex.len.Goals as goal

pub returns-clause-value : goal.returns-clause-value
returns-clause-value c =
    let i = c.self.inside in
    sym (ap (λ (es : List Entry). length es) (sym c.self.view_is) ∙ omega (arith, length-take i.len i.entries, c.self.invariant.room, c.self.invariant.size))
