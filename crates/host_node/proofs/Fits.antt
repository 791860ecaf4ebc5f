-- The host can write what its calls commit.
use Rattle.std.proofs.Common.{◌≡◌, sym, ◌∙◌, ap, subst}
use Rattle.bench_base.specs.declared.ledger.Commit.{Commit}
use Rattle.node_acts.specs.declared.act.Act.TheVariants.{Commits}
use Rattle.host_jobs.specs.declared.{kept.Kept.Kept, rows.JobRow.JobRow}
use Rattle.host_jobs.specs.Acts.{HostAct}
use Rattle.host_jobs.specs.ActLaws.{LeavesSound, SoundActs}
use Rattle.host_jobs.specs.Rows.{Jobs}
use Rattle.host_jobs.specs.Soundness.{IsDerived, IsNext}
use Rattle.host_jobs.proofs.SoundActs.{leaves}

-- the acts by the jobs, if what is kept is theirs
pub sound_acts : (rows : Jobs) (kept : Kept) → IsDerived rows kept → SoundActs rows
sound_acts rows kept is = leaves rows is.sound

-- what an act by jobs that were lent commits is the next of them
pub can_commit : {A : Type 0} (lent rows : Jobs) (act : Jobs → HostAct A) (made : HostAct A) → lent ≡ rows → made ≡ act lent → LeavesSound rows (act rows)
    → (commit : Commit) (x : JobRow) (a : A) → made ≡ Commits commit x a → IsNext rows x
can_commit {A} lent rows act made same by sound commit x a is = (subst (λ (b : HostAct A). LeavesSound rows b) (ap act (sym same) ∙ sym by ∙ is) sound).0
