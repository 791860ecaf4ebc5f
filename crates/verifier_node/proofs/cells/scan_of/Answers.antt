use Rattle.std.proofs.Common.{sym, ap, ◌∙◌, get_or}
use Rattle.nv_store.specs.RoomView.{kept_in}
use Rattle.verifier.specs.Payload.{scans_before}
use Rattle.verifier.specs.Seen.{scan_shown}
use Rattle.verifier_node.proofs.Reading.{scans_held, no_scan_at}
use Rattle.verifier_node.proofs.cells.scan_of.Goals as goal

pub returns-in-Some : goal.returns-in-Some
returns-in-Some c =
    c.scan_in.ensures
    ∙ sym (ap (λ l. scan_shown (get_or l c.args.place 0)) (scans_held (kept_in c.args.room.now) c.requires.filled c.args.cell c.requires.from c.requires.inside ∙ ap (λ o. scans_before o) (sym c.in-Some.ensures.payload)))

pub returns-in-None : goal.returns-in-None
returns-in-None c =
    no_scan_at c.args.place
    ∙ sym (ap (λ l. scan_shown (get_or l c.args.place 0)) (scans_held (kept_in c.args.room.now) c.requires.filled c.args.cell c.requires.from c.requires.inside ∙ ap (λ o. scans_before o) (sym c.in-None.ensures.payload)))
