-- One step more that an extension asked for.
use Rattle.std.proofs.Common.{inl, inr, ℕ, ◌≤◌, ◌<◌, List, [], ◌∷◌, ◌++◌, refl, subst, arith}
use Rattle.bench_base.specs.declared.events.Event.{Event}
use Rattle.node_turns.specs.declared.turn.Turn.{Turn}
use Rattle.line_extensions.specs.Trace.{StepRecord}
use Rattle.line_extensions.specs.Desks.{World, Asked, Asks}
use Rattle.line_extensions.specs.declared.{extension.Extension.Ghosts, extension.Next.Next, extension.Next.TheVariants.Step}
use Rattle.line_extensions.specs.Wants.{IsQuiet, MayAsk, IsStep}

module _ {K T : Type 0} (k : Ghosts K T) {B : Type 0} (Steps : B → B → StepRecord → Turn → Type 0) where
  pub asks_none : (w : World B K) (next : Next) → Asks k Steps w w next [] next
  asks_none w next = (refl, refl)

  pub asks_more : (x y z : World B K) (first next last : Next) (steps : List StepRecord) (d : StepRecord) → Asks k Steps x y first steps next → Asked k Steps y z next d last → Asks k Steps x z first (steps ++ d ∷ []) last
  asks_more x y z first next last [] d p q =
      let from : Asked k Steps x z first d last = subst (λ (w : World B K). Asked k Steps w z first d last) p.1 (subst (λ (m : Next). Asked k Steps y z m d last) p.0 q) in
      (z, last, from, (refl, refl))
  asks_more x y z first next last (e ∷ steps) d p q = (p.0, p.1, p.2, asks_more p.0 y z p.1 next last steps d p.3 q)

-- after a step that an extension may ask for, and where it asks for one more, no message was sent
pub still_quiet : (e : Event) (next : Next) (before now : ℕ) → MayAsk (Step e) before → (IsStep next → now < before) → (first was is : ℕ) → was ≤ first → (IsQuiet e → is ≤ was) → IsStep next → is ≤ first
still_quiet e next before now may fewer first was is le quiet more = elim may.2 [
  | inl q ↦ let none = quiet q in omega (arith, none, le)
  | inr none ↦ let less = fewer more in omega (arith, less, none)
]
