use Rattle.std.proofs.Common.{◌∙◌, ap, sym, List, ℕ, arith, ◌<◌, take, drop, length, ◌*◌, ◌+◌}
use Rattle.mail_manifest.proofs.Marks.{marks_long, mark_within}
use Rattle.mail_manifest.proofs.manifest.Manifest.mark.Goals as goal

pub mark_in-requires : goal.mark_in-requires
mark_in-requires c =
    let m = c.args.self.now in omega (arith, c.from.ensures, c.deref.ensures.len, m.long, marks_long m.pieces (drop 14 m.text.items), c.requires.inside, ap length c.deref.ensures.value)

pub returns : goal.returns
returns c =
    let m = c.args.self.now in
    let inside : c.args.at < m.pieces = omega (arith, marks_long m.pieces (drop 14 m.text.items), c.requires.inside) in
    c.mark_in.ensures ∙ ap (λ (l : List ℕ). take 64 (drop (14 + 64 * c.from.result) l)) c.deref.ensures.value ∙ ap (λ (k : ℕ). take 64 (drop (14 + 64 * k) m.text.items)) c.from.ensures
    ∙ sym (mark_within m.pieces m.text.items m.long c.args.at inside)
