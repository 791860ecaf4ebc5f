-- The rows can take what the calls of the centre commit.
use Rattle.std.proofs.Common.{◌≡◌, sym, ◌∙◌, ap, subst}
use Rattle.bench_base.specs.declared.ledger.Commit.{Commit}
use Rattle.node_acts.specs.declared.act.Act.TheVariants.{Commits}
use Rattle.centre_ledger.specs.declared.rows.Row.{Row}
use Rattle.centre_ledger.specs.Acts.{CentreAct}
use Rattle.centre_ledger.specs.ActLaws.{LeavesSound, SoundActs}
use Rattle.centre_ledger.specs.Books.{Books, AreSound, put_row}
use Rattle.centre_ledger.proofs.SoundActs.{leaves}

-- the acts by the rows that are seen, where the rows that are kept are these
pub sound_acts : (kept seen : Books) → kept ≡ seen → AreSound kept → SoundActs seen
sound_acts kept seen is sound = leaves seen (subst AreSound is sound)

-- what an act commits that leaves sound rows
pub can_commit : {A : Type 0} (kept seen : Books) (act : Books → CentreAct A) (made : CentreAct A) → kept ≡ seen → made ≡ act kept → LeavesSound seen (act seen)
    → (commit : Commit) (x : Row) (a : A) → made ≡ Commits commit x a → AreSound (put_row seen x)
can_commit {A} kept seen act made same by sound commit x a is =
    (subst (λ (b : CentreAct A). LeavesSound seen b) (ap act (sym same) ∙ sym by ∙ is) sound).0
