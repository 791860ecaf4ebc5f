use Rattle.std.proofs.Common.{ap, ◌∙◌}
use Rattle.verifier.specs.Acts.{trust_act}
use Rattle.verifier.proofs.LawActs.{leaves}
use Rattle.row_node.specs.NodeView.{seen_in}
use Rattle.verifier_node.specs.VerifierView.{seen_of}
use Rattle.verifier_node.proofs.Fits.{are_sound, can_commit}
use Rattle.verifier_node.proofs.running.Verifier.trust.Goals as goal

pub perform-requires : goal.perform-requires
perform-requires g c =
    let v = c.args.self.now in
    record {
      fits = can_commit (seen_of v) (trust_act c.args.device c.args.key.now (seen_of v)) c.trusting-act.result (c.trusting-act.ensures.act ∙ ap (λ k. trust_act c.args.device c.args.key.now (seen_in k)) c.node.ensures)
          ((leaves (seen_of v) (are_sound v)).trusted c.args.device c.args.key.now c.trusting-act.ensures.number (c.told-key, c.fits-key));
    }
