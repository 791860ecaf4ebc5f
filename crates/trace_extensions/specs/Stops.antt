-- What may have been done for the line at which a run was stopped, by the ledger.
use Rattle.std.specs.Prelude.{◌≡◌, ◌⊎◌, ℕ, List, []}
use Rattle.bench_base.specs.declared.events.Event.{Event}
use Rattle.bench_base.specs.Rules.{editions}
use Rattle.ledger_moves.specs.Tariffs.{Tariff}
use Rattle.ledger_moves.specs.Histories.{History, Unforged}
use Rattle.line_extensions.specs.Trace.{StepRecord}
use Rattle.line_extensions.specs.Events.{IsLineOf}
use Rattle.line_extensions.specs.Desks.{World, DidOwn}
use Rattle.line_extensions.specs.declared.{extension.Extension.Ghosts, extension.Next.TheVariants.Step, extension.Next.TheVariants.Say}
use Rattle.trace_bench.specs.Seeing.{Audit, Sees}
use Rattle.trace_bench.specs.Stopping.{IsBegun}
use Rattle.trace_extensions.specs.FitsStopped.{IsCutOf}
use Rattle.trace_extensions.specs.Places.{Place, MayStep}

-- The step that was asked for next may have been done, or nothing of it was begun. The auditor is left so.
abbrev pub StepBegun : Tariff → Place → Event → Audit → Type 0
StepBegun τ at event now = (Unforged event at.ledger × IsBegun τ at.ledger event at.left [] now) ⊎ Sees now at.ledger

-- At this place, for this line, in place of whose answer the report ends with these bytes. The auditor and the extension are left so.
module _ {K T : Type 0} (k : Ghosts K T) (τ : Tariff) (at : World Place K) (line told : List ℕ) (now : Audit) (desk : K) where
  -- it is the line of an event, which the extension leaves to the bench: the event was begun
  pub record EventBegun : Type 0 where
    pub event : Event
    pub is : IsLineOf event line
    pub passes : k.Passes at.desk line
    pub unforged : Unforged event at.scene.ledger
    pub begun : IsBegun τ at.scene.ledger event at.scene.left told now
    pub stays : desk ≡ at.desk

  -- nothing of it was begun
  pub record NoneBegun : Type 0 where
    pub silent : told ≡ []
    pub sees : Sees now at.scene.ledger
    pub stays : desk ≡ at.desk

  -- it is an own line, of which all was done: its answer begins so, and was not written whole
  pub record OwnDone : Type 0 where
    pub own : k.Own
    pub is : k.IsOwn own line
    pub steps : List StepRecord
    pub behind : World Place K
    pub did : DidOwn k (MayStep τ) at behind own steps Say
    pub cut : IsCutOf told (k.texts behind.desk)
    pub history : History τ editions behind.scene.ledger
    pub sees : Sees now behind.scene.ledger
    pub left : desk ≡ behind.desk

  -- it is an own line, of which these steps were done, and one more was asked for: nothing was answered
  pub record OwnBegun : Type 0 where
    pub own : k.Own
    pub is : k.IsOwn own line
    pub steps : List StepRecord
    pub behind : World Place K
    pub event : Event
    pub did : DidOwn k (MayStep τ) at behind own steps (Step event)
    pub silent : told ≡ []
    pub history : History τ editions behind.scene.ledger
    pub begun : StepBegun τ behind.scene event now
    pub left : desk ≡ behind.desk

  -- WHAT MAY HAVE BEEN DONE for the line of a stop
  pub data LeftAt : Type 0 where
    event_begun : EventBegun → LeftAt
    none_begun : NoneBegun → LeftAt
    own_done : OwnDone → LeftAt
    own_begun : OwnBegun → LeftAt
