use Rattle.verifier.specs.Acts.{trust_act}
use Rattle.verifier.proofs.LawActs.{leaves}
use Rattle.call_handlers.proofs.Changed.{put_fit}
use Rattle.call_handlers.proofs.verifier_calls.TrustCallCallVerifierCalleeChange.act.Goals as goal

pub returns-clause-makes : goal.returns-clause-makes
returns-clause-makes g c asked =
    let q = c.args.self.now in
    let rows = g.R.RowsOf.rows c.args.held.now in
    put_fit rows (trust_act q.device q.key rows) c.trusting.ensures.act ((leaves rows c.trusting.ensures.sound).trusted q.device q.key asked.0 asked.1)
