use Rattle.std.proofs.Common.{◌∙◌, ap, arith, List, ℕ, take, drop, length, ◌+◌}
use Rattle.std.proofs.lemmas.List.{length-append}
use Rattle.mail_manifest.specs.Held.{marks_in}
use Rattle.mail_manifest.specs.Listings.{listing}
use Rattle.mail_manifest.proofs.Marks.{marks_long, text_added, head_stays}
use Rattle.mail_manifest.proofs.manifest.Manifest.add.Goals as goal

pub put_mark-requires : goal.put_mark-requires
put_mark-requires c =
    let m = c.args.self.now in
    record { room = omega (arith, marks_long m.pieces (drop 14 m.text.items), c.requires.room, m.long, m.room) }

pub invariant_of-self-clause-few : goal.invariant_of-self-clause-few
invariant_of-self-clause-few c =
    let m = c.args.self.now in omega (arith, marks_long m.pieces (drop 14 m.text.items), c.requires.room)

pub invariant_of-self-clause-long : goal.invariant_of-self-clause-long
invariant_of-self-clause-long c =
    let m = c.args.self.now in
    ap (λ (l : List ℕ). length l) c.put_mark.ensures.items ∙ length-append m.text.items c.args.mark.now ∙ omega (arith, m.long, c.told-mark)

pub invariant_of-self-clause-head : goal.invariant_of-self-clause-head
invariant_of-self-clause-head c =
    let m = c.args.self.now in
    ap (λ (l : List ℕ). take 14 l) c.put_mark.ensures.items ∙ head_stays m.pieces m.text.items m.long c.args.mark.now ∙ m.head

pub returns : goal.returns
returns c =
    let m = c.args.self.now in
    ap (λ (marks : List (List ℕ)). listing m.opening marks)
    (ap (λ (l : List ℕ). marks_in (m.pieces + 1) (drop 14 l)) c.put_mark.ensures.items ∙ text_added m.pieces m.text.items m.long c.args.mark.now c.told-mark)
