use Rattle.std.proofs.Common.{arith, ap, ◌∙◌}
use Rattle.verifier.specs.Acts.{scan_act}
use Rattle.verifier.proofs.LawActs.{leaves}
use Rattle.row_node.specs.NodeView.{seen_in}
use Rattle.verifier_node.specs.VerifierView.{seen_of}
use Rattle.verifier_node.proofs.Fits.{are_sound, can_commit}
use Rattle.verifier_node.proofs.running.Verifier.scan.Goals as goal

pub perform-requires : goal.perform-requires
perform-requires g c =
    let v = c.args.self.now in
    record {
      fits = can_commit (seen_of v) (scan_act c.args.number c.args.bytes.now c.args.day (seen_of v)) c.scanning-act.result (c.scanning-act.ensures ∙ ap (λ k. scan_act c.args.number c.args.bytes.now c.args.day (seen_in k)) c.node.ensures)
          ((leaves (seen_of v) (are_sound v)).scanned c.args.number c.args.bytes.now c.args.day (c.requires, c.ranges.number.fits) (λ i. omega (arith, c.type_inv.bytes i)));
    }
