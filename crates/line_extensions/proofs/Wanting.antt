-- What an extension asks for first and last, and what the end of a run leaves of it.
use Rattle.std.proofs.Common.{◌≡◌, ◌⊎◌, inl, inr, List, [], ◌∷◌, refl, sym, ap, subst, ◌∙◌}
use Rattle.bench_base.specs.declared.events.Event.{Event}
use Rattle.node_turns.specs.declared.turn.Turn.{Turn}
use Rattle.line_runs.specs.declared.status.Status.TheVariants as status
use Rattle.line_runs.specs.declared.{status.SideStatus.SideStatus, status.SideStatus.TheVariants.Run, status.SideStatus.TheVariants.Stopped}
use Rattle.line_extensions.specs.Trace.{StepRecord}
use Rattle.line_extensions.specs.Desks.{World, SideLeaves, Asks}
use Rattle.line_extensions.specs.Wants.{IsStep}
use Rattle.line_extensions.specs.declared.{extension.Extension.Ghosts, extension.Next.Next, extension.Next.TheVariants.Step, extension.Next.TheVariants.Say, extension.Next.TheVariants.Stop}

-- == what is asked for, by its kind ==

abbrev pub IsSay : Next → Type 0
IsSay (Step e) = ⊥
IsSay Say = Unit {0}
IsSay Stop = ⊥

pub no_step : (n : Next) → (n ≡ Say) ⊎ (n ≡ Stop) → IsStep n → ⊥
no_step n (inl say) step = subst (λ (x : Next). IsStep x) say step
no_step n (inr stop) step = subst (λ (x : Next). IsStep x) stop step

pub no_say : (n : Next) → n ≡ Stop → Say ≡ n → ⊥
no_say n stop say = subst (λ (x : Next). IsSay x) (say ∙ stop) tt

-- the event of a step
abbrev pub step_event : Event → Next → Event
step_event z (Step e) = e
step_event z Say = z
step_event z Stop = z

-- what is asked for first is asked for last if it is no step
pub ends_at : {B K T : Type 0} (k : Ghosts K T) (Steps : B → B → StepRecord → Turn → Type 0) (old new : World B K) (next : Next) (steps : List StepRecord) (last : Next) → Asks k Steps old new next steps last
    → (next ≡ Say) ⊎ (next ≡ Stop) → (steps ≡ []) × (last ≡ next) × (new ≡ old)
ends_at k Steps old new next [] last asks none = (refl, asks.0, asks.1)
ends_at k Steps old new next (d ∷ rest) last asks none = absurd (no_step next none (subst (λ (x : Next). IsStep x) (sym asks.2.asks) tt))

-- == the end of a run ==

-- it leaves the extension as the steps left it
pub desk_left : {B K : Type 0} (Wants : B → B → Type 0) (s : SideStatus) (behind now : World B K) → SideLeaves Wants s behind now → now.desk ≡ behind.desk
desk_left Wants (Run status.Done) behind now is = ap (λ w. w.desk) is
desk_left Wants (Run status.Words) behind now is = ap (λ w. w.desk) is
desk_left Wants (Run (status.Script line)) behind now is = ap (λ w. w.desk) is
desk_left Wants (Run status.ReadFault) behind now is = ap (λ w. w.desk) is
desk_left Wants (Run status.WriteFault) behind now is = ap (λ w. w.desk) is
desk_left Wants (Run status.Memory) behind now is = is.0
desk_left Wants (Run status.TooLong) behind now is = ap (λ w. w.desk) is
desk_left Wants Stopped behind now is = ap (λ w. w.desk) is

pub no_words : Run status.Words ≡ Stopped → ⊥
no_words is = cc
