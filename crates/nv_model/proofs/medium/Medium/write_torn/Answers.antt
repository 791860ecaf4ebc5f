use Rattle.std.proofs.Common.{ℕ, List, length, sym, ◌∙◌, ap, subst}
use Rattle.nv_model.specs.Bytes.{SameOutside}
use Rattle.nv_model.specs.Laws.{since_nested}
use Rattle.nv_model.specs.Media.{times_of}
use Rattle.nv_model.specs.Moments.{Nested}
use Rattle.nv_model.specs.Plans.{filled}
use Rattle.nv_model.specs.declared.medium.Medium.{Medium}
use Rattle.nv_model.proofs.Runs.{elapses_twice, tears_then_stays}
use Rattle.nv_model.proofs.Tears.{torn_laid, torn_outside}
use Rattle.nv_model.proofs.medium.Medium.write_torn.Goals as goal

nested : (m : Medium) → Nested (times_of m)
nested m = since_nested m.bytes.items m.steps.items m.start.items m.marks.items

pub returns-clause-content : goal.returns-clause-content
returns-clause-content c =
    let old = c.args.self.now.content.items in
    let n = length c.args.piece.now in
    c.tear_behind.ensures.content ∙ ap (λ (l : List ℕ). filled l c.args.at n c.args.keep c.args.byte) c.write.ensures.content ∙ torn_laid old c.args.at c.args.piece.now c.args.keep c.args.byte c.requires.inside

pub returns-clause-time : goal.returns-clause-time
returns-clause-time c = elapses_twice (times_of c.args.self.now) (times_of c.write.new.self) (times_of c.tear_behind.new.self) (nested c.tear_behind.new.self) c.write.ensures.time c.tear_behind.ensures.time

pub returns-clause-images : goal.returns-clause-images
returns-clause-images c =
    tears_then_stays c.args.at (length c.args.piece.now) (times_of c.args.self.now) (times_of c.write.new.self) (times_of c.tear_behind.new.self) (nested c.write.new.self)
    c.write.ensures.time c.tear_behind.ensures.time c.write.ensures.images c.tear_behind.ensures.images

pub returns-clause-outside : goal.returns-clause-outside
returns-clause-outside c =
    let n = length c.args.piece.now in
    subst (λ (l : List ℕ). SameOutside c.args.at n c.args.self.now.content.items l) (sym (returns-clause-content c)) (torn_outside c.args.self.now.content.items c.args.at c.args.piece.now c.args.keep c.args.byte c.requires.inside)
