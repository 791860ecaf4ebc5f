-- What an extension may ask for.
use Rattle.std.specs.Prelude.{◌≡◌, ◌≢◌, ◌⊎◌, ◌+◌, ℕ, List}
use Rattle.bench_base.specs.declared.events.Event.{Event}
use Rattle.bench_base.specs.declared.events.Event.TheVariants as ev
use Rattle.bench_base.specs.Events.{IsWholeEvent}
use Rattle.script_text.specs.Grammar.{Spells, IsSkipped}
use Rattle.line_extensions.specs.Events.{IsLineOf}
use Rattle.line_extensions.specs.declared.{extension.Next.Next, extension.Next.TheVariants.Step, extension.Next.TheVariants.Say, extension.Next.TheVariants.Stop}

-- an event that sends nothing, whatever the storages expose: a scan of bytes
abbrev pub IsQuiet : Event → Type 0
IsQuiet e = (scan : ℕ) × (bytes : List ℕ) × (e ≡ ev.ScanHex scan bytes)

-- A step, if so many more may follow: of a whole event, and of no `rates`, which may run out of memory. Only the last of a line may send
-- a message, so that a line sends one at most.
abbrev pub MayAsk : Next → ℕ → Type 0
MayAsk (Step e) more = IsWholeEvent e × (e ≢ ev.Rates) × (IsQuiet e ⊎ (more ≡ 0))
MayAsk Say more = Unit {0}
MayAsk Stop more = Unit {0}

-- how many steps are left with this one
abbrev pub steps_left : Next → ℕ → ℕ
steps_left (Step e) more = more + 1
steps_left Say more = 0
steps_left Stop more = 0

abbrev pub IsStep : Next → Type 0
IsStep (Step e) = Unit {0}
IsStep Say = ⊥
IsStep Stop = ⊥

-- the line is that of an event
abbrev pub IsEvent : List ℕ → Type 0
IsEvent line = (e : Event) × IsLineOf e line

-- the line is neither skipped nor the line of `end`
pub record IsAlone (line : List ℕ) : Type 0 where
  pub not_skipped : IsSkipped line → ⊥
  pub not_end : Spells ev.End line → ⊥
