-- What a commit that failed cost, and whether the node goes on.
use Rattle.std.proofs.Common.{◌≡◌, ℕ, false, Ok, Err, Result, IsErrOf, OnOk, refl}
use Rattle.bench_base.specs.declared.{refusals.StoreFail.StoreFail, refusals.StoreFail.TheVariants.Power, refusals.StoreFail.TheVariants.Fault, refusals.StoreFail.TheVariants.Worn, refusals.StoreFail.TheVariants.Failed}
use Rattle.nv_model.specs.Meters.{Meters}
use Rattle.std.specs.Prelude.{is_ok}
use Rattle.nv_model.specs.declared.nv.Nv.{Ghosts}
use Rattle.nv_store.specs.Fills.{Fill, Fills, told}
use Rattle.nv_store.specs.Store.{Causes, UsesCommit}
use Rattle.nv_store.specs.Turns.{Spent}
use Rattle.node_storage.specs.Does.{Writes}
use Rattle.node_storage.specs.Ends.{begins, end_of_commit, leaves_running}

pub spent_failed : (before now : Meters) (count : ℕ) (fail : StoreFail) → Causes before now false count (Err fail) → Spent 6 before now (end_of_commit (Err fail))
spent_failed before now count Power causes = record { cuts = causes.cuts; faults = causes.faults; fuse = causes.fuse; power = λ e. causes.power refl; fault = λ e. cc }
spent_failed before now count Fault causes = record { cuts = causes.cuts; faults = causes.faults; fuse = causes.fuse; power = λ e. cc; fault = λ e. causes.fault refl }
spent_failed before now count Worn causes = record { cuts = causes.cuts; faults = causes.faults; fuse = causes.fuse; power = λ e. cc; fault = λ e. cc }
spent_failed before now count Failed causes = record { cuts = causes.cuts; faults = causes.faults; fuse = causes.fuse; power = λ e. cc; fault = λ e. cc }

-- it goes on only after Worn and Failed
pub ends_running : (f : StoreFail) → (IsErrOf {T = Unit {0}} (Err f) Worn → ⊥) → (IsErrOf {T = Unit {0}} (Err f) Failed → ⊥) → false ≡ leaves_running (Err f)
ends_running Power not_worn not_failed = refl
ends_running Fault not_worn not_failed = refl
ends_running Worn not_worn not_failed = absurd (not_worn refl)
ends_running Failed not_worn not_failed = absurd (not_failed refl)

-- what was written, by the answer of the store
pub writes_as : {S : Type 0} (g : Ghosts S) (w : Fill) (before now : S) (result : Result (Unit {0}) StoreFail)
    → (g.tells → (IsErrOf result Worn → ⊥) → Fills w (told g before) (told g now) (is_ok result))
    → OnOk result (UsesCommit (g.meters before).fuse (g.meters now).fuse) → Writes g w before now (begins result) (is_ok result)
writes_as g w before now (Ok done) fills calls = record { fills = λ tells began. fills tells (λ worn. cc); calls = λ made. calls }
writes_as g w before now (Err Power) fills calls = record { fills = λ tells began. fills tells (λ worn. cc); calls = λ made. cc }
writes_as g w before now (Err Fault) fills calls = record { fills = λ tells began. fills tells (λ worn. cc); calls = λ made. cc }
writes_as g w before now (Err Worn) fills calls = record { fills = λ tells began. cc; calls = λ made. cc }
writes_as g w before now (Err Failed) fills calls = record { fills = λ tells began. cc; calls = λ made. cc }
