use Rattle.std.proofs.Common.{◌≡◌, length, ap, sym, ◌∙◌, arith}
use Rattle.nv_model.specs.Replay.{Stand, replay, at_first}
use Rattle.nv_model.proofs.Replayed.{stood_end}
use Rattle.nv_model.proofs.Torn.{marks_tears}
use Rattle.nv_model.proofs.medium.Medium.mark.Goals as goal

pub returns-clause-images : goal.returns-clause-images
returns-clause-images c =
    let s = c.args.self.now in
    let long : length (replay s.bytes.items s.steps.items (at_first s.start.items)).base ≡ length s.content.items =
    sym (ap (λ (st : Stand). length st.base) (stood_end s.bytes.items s.steps.items s.start.items)) ∙ s.based (length s.steps.items) in
    marks_tears s.bytes.items s.steps.items s.start.items s.marks.items c.mark_range.new.marks.items c.args.at c.args.count (omega (arith, long, c.requires.inside)) c.mark_range.ensures.places
