-- The rows are sound, and can take what the calls of the verifier commit.
use Rattle.std.proofs.Common.{◌≡◌, ◌∙◌, sym, subst}
use Rattle.bench_base.specs.declared.ledger.Commit.{Commit}
use Rattle.nv_model.specs.declared.nv.Nv.{Ghosts}
use Rattle.node_acts.specs.declared.act.Act.TheVariants.{Commits}
use Rattle.verifier.specs.declared.acts.Change.{Change}
use Rattle.verifier.specs.Acts.{ScanAct}
use Rattle.verifier.specs.ActLaws.{LeavesSound, IsFit}
use Rattle.verifier.specs.Seen.{Seen, AreSound}
use Rattle.row_node.specs.Knows.{keeps}
use Rattle.row_node.specs.NodeView.{held_in}
use Rattle.verifier_node.specs.VerifierView.{seen_of}
use Rattle.verifier_node.specs.declared.running.Verifier.{Verifier}
use Rattle.verifier_node.proofs.Takes.{rows_sound}

-- the rows that a verifier shows
pub are_sound : {N : Type 0} {g : Ghosts N} (v : Verifier N g) → AreSound (seen_of v)
are_sound v = rows_sound v.rows.running.node.rows (held_in v.rows.running.node) (keeps v.rows.running.node)

-- what an act commits that leaves sound rows
pub can_commit : {A : Type 0} (s : Seen) (act made : ScanAct A) → made ≡ act → LeavesSound s act → (commit : Commit) (x : Change) (a : A) → made ≡ Commits commit x a → IsFit s x
can_commit {A} s act made by sound commit x a is = (subst (λ (b : ScanAct A). LeavesSound s b) (sym by ∙ is) sound).0
