-- What was done over a ledger, one event after the other; and what an accepted scan leaves.
use Rattle.std.specs.Prelude.{◌≡◌, ℕ, List, [], ◌∷◌, Some, Ok}
use Rattle.bench_base.specs.Ledger.{Ledger, IsReleased, counted}
use Rattle.bench_base.specs.Scans.{accepted}
use Rattle.indicium.specs.declared.Mark.{Mark}
use Rattle.indicium.specs.Marks.{read_mark}
use Rattle.line_extensions.specs.Trace.{StepRecord}
use Rattle.ledger_moves.specs.Tariffs.{Tariff}
use Rattle.script_replay.specs.Trace.{ledger_by}
use Rattle.script_replay.specs.Run.{Unforged, Moves}

-- each event is unforged at its place, and its reply is one that it may get there
abbrev pub AllMoved : Tariff → Ledger → List StepRecord → Type 0
AllMoved τ H [] = Unit {0}
AllMoved τ H (d ∷ rest) = Unforged H d.event × Moves τ H d × AllMoved τ (ledger_by τ H d) rest

-- the bytes read as a mark that was released, and its piece was first accepted under this number
pub record IsAcceptedAs (n : ℕ) (bytes : List ℕ) (H : Ledger) : Type 0 where
  pub mark : Mark
  pub code : List ℕ
  pub reads : read_mark bytes ≡ Ok (mark, code)
  pub released : IsReleased bytes H
  pub accepted : accepted mark.device mark.piece (counted H) ≡ Some n
