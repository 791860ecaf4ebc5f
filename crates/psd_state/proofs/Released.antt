-- What holds of the commit of a debit holds of it where its mark is released.
use Rattle.std.proofs.Common.{ℕ}
use Rattle.bench_base.specs.declared.ledger.Commit.{Commit}
use Rattle.node_acts.specs.declared.act.Act.TheVariants.{Refuse, Tell, Commits}
use Rattle.node_acts.specs.Acts.{OfCommit}
use Rattle.psd_state.specs.Acts.{DeviceAct, released}
use Rattle.psd_state.specs.State.{State}
use Rattle.psd_state.specs.declared.acts.Franked.{Franked}

pub commit_released : (P : Commit → State → Type 0) (piece : ℕ) (act : DeviceAct Franked) → OfCommit P act → OfCommit P (released piece act)
commit_released _ piece (Refuse x) holds = tt
commit_released _ piece (Tell f) holds = tt
commit_released _ piece (Commits c s f) holds = holds
