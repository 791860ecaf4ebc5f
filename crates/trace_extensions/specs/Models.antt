-- The model of an extension: how it moves by what it keeps and says, whatever its storage is.
use Rattle.std.specs.Prelude.{◌≡◌, ◌≢◌, ◌↔◌, ◌⊎◌, ℕ, ◌+◌, List, [], ◌∷◌}
use Rattle.bench_base.specs.declared.{words.Node.Node, events.Event.Event, events.Reply.Reply}
use Rattle.bench_base.specs.declared.events.Event.TheVariants as ev
use Rattle.node_turns.specs.declared.turn.Turn.{Turn}
use Rattle.line_extensions.specs.Trace.{StepRecord}
use Rattle.line_extensions.specs.Desks.{World}
use Rattle.line_extensions.specs.declared.{extension.Extension.Ghosts, extension.Next.Next, extension.Next.TheVariants.Step, extension.Next.TheVariants.Say, extension.Next.TheVariants.Stop}
use Rattle.trace_bench.specs.Prefixes.{IsFailure}
use Rattle.trace_extensions.specs.Places.{Place}

-- its moves, each by what is kept before it and after it
pub record Model (V : Type 0) : Type 1 where
  -- the line is one of its own
  pub IsOwn : List ℕ → Type 0
  -- it leaves the line to the bench
  pub Passes : V → List ℕ → Type 0
  -- what it asks for first for a line of its own
  pub Begins : V → List ℕ → Next → V → Type 0
  -- what it asks for after a step with this turn
  pub Goes : V → Turn → Next → V → Type 0
  -- what it sees of an event of another line, with this turn
  pub Sees : V → Turn → V → Type 0
  -- the texts of its answer
  pub texts : V → List (List ℕ)
  -- the same is kept for the next run
  pub Alike : V → V → Type 0

-- as an extension, whose own lines are their bytes
abbrev pub by_model : {V : Type 0} → Model V → Ghosts V Turn
by_model m = record {
  Own = List ℕ;
  IsOwn = λ own line. (own ≡ line) × m.IsOwn line;
  MayWant = λ own. ⊥;
  Passes = λ v line. m.Passes v line;
  Begins = λ v own next w. m.Begins v own next w;
  Goes = λ v turn next w. m.Goes v turn next w;
  Sees = λ v e turn w. m.Sees v turn w;
  texts = λ v. m.texts v;
  left = λ v. 0;
}

-- the extension moves as the model does, unless a commit of its storage fails
pub record IsModelOf {K T : Type 0} (k : Ghosts K T) {V : Type 0} (view : K → V) (m : Model V) : Type 0 where
  pub own : (line : List ℕ) → m.IsOwn line ↔ ((x : k.Own) × k.IsOwn x line)
  pub passes : (a : K) (line : List ℕ) → k.Passes a line → m.Passes (view a) line
  pub begins : (a b : K) (x : k.Own) (line : List ℕ) (next : Next) → k.IsOwn x line → k.Begins a x next b → next ≢ Stop → m.Begins (view a) line next (view b)
  pub goes : (a b : K) (turn : Turn) (next : Next) → k.Goes a turn next b → next ≢ Stop → m.Goes (view a) turn next (view b)
  pub sees : (a b : K) (e : Event) (turn : Turn) → k.Sees a e turn b → m.Sees (view a) turn (view b)
  pub texts : (a : K) → k.texts a ≡ m.texts (view a)

-- each move of the model is determined
pub record IsDetermined {V : Type 0} (m : Model V) : Type 0 where
  pub apart : (v w : V) (line : List ℕ) (next : Next) → m.Begins v line next w → m.Passes v line → ⊥
  pub begins : (v w x : V) (line : List ℕ) (next more : Next) → m.Begins v line next w → m.Begins v line more x → (next ≡ more) × (w ≡ x)
  pub goes : (v w x : V) (turn : Turn) (next more : Next) → m.Goes v turn next w → m.Goes v turn more x → (next ≡ more) × (w ≡ x)
  pub sees : (v w x : V) (turn : Turn) → m.Sees v turn w → m.Sees v turn x → w ≡ x

-- each view is like itself, and two that are like a third are alike
pub record AreAlike {V : Type 0} (m : Model V) : Type 0 where
  pub same : (v : V) → m.Alike v v
  pub joined : (u v w : V) → m.Alike u w → m.Alike v w → m.Alike u v

-- What was done for an own line so far changed nothing, and what it asks for next is a balance, if it is a step.
pub record IsIdle {V : Type 0} (m : Model V) (old new : World Place V) (next : Next) : Type 0 where
  pub ledger : new.scene.ledger ≡ old.scene.ledger
  pub alike : m.Alike new.desk old.desk
  pub asks : (event : Event) → next ≡ Step event → (customer : ℕ) × (event ≡ ev.Balance customer)

-- == the steps that it asks for ==

-- an event that gets one answer, unless its node fails
abbrev pub IsSure : Event → Type 0
IsSure e = ((scan : ℕ) × (bytes : List ℕ) × (e ≡ ev.ScanHex scan bytes)) ⊎ (((job : ℕ) × (e ≡ ev.Send job)) ⊎ ((customer : ℕ) × (e ≡ ev.Balance customer)))

-- it asks for such events alone
pub record AsksSurely {V : Type 0} (m : Model V) : Type 0 where
  pub first : (v w : V) (line : List ℕ) (e : Event) → m.Begins v line (Step e) w → IsSure e
  pub then : (v w : V) (turn : Turn) (e : Event) → m.Goes v turn (Step e) w → IsSure e

-- A failure of a node ends its line, and what is kept for the next run is as it was.
abbrev pub EndsByFailure : {V : Type 0} → Model V → Type 0
EndsByFailure {V} m = (v w : V) (turn : Turn) (next : Next) (n : Node) → IsFailure turn.reply n → m.Goes v turn next w → (next ≡ Say) × m.Alike w v

-- == what the first line of an answer tells of them ==

-- what a line tells are failures of one node, each by one line at each step, and the empty line tells none
pub record AreFailures (Fails : ℕ → List ℕ → Reply → Type 0) : Type 0 where
  pub node : Node
  pub fails : (number : ℕ) (line : List ℕ) (reply : Reply) → Fails number line reply → IsFailure reply node
  pub one_line : (number : ℕ) (line other : List ℕ) (reply : Reply) → Fails number line reply → Fails number other reply → line ≡ other
  pub none : (number : ℕ) (reply : Reply) → Fails number [] reply → ⊥

-- The step of this number was such an event. It got the failure of a node that the line tells; or the line tells none, and no node failed in it.
pub record IsToldOf (Fails : ℕ → List ℕ → Reply → Type 0) (number : ℕ) (line : List ℕ) (d : StepRecord) : Type 0 where
  pub sure : IsSure d.event
  pub told : Fails number line d.reply ⊎ (((reply : Reply) → Fails number line reply → ⊥) × ((m : Node) → IsFailure d.reply m → ⊥))

abbrev pub AreToldOf : (ℕ → List ℕ → Reply → Type 0) → ℕ → List ℕ → List StepRecord → Type 0
AreToldOf Fails number line [] = Unit {0}
AreToldOf Fails number line (d ∷ rest) = IsToldOf Fails number line d × AreToldOf Fails (number + 1) line rest

-- there is a first text, and it tells of each step whether a node failed
pub record TellsFailures (Fails : ℕ → List ℕ → Reply → Type 0) (steps : List StepRecord) (texts : List (List ℕ)) : Type 0 where
  pub first : List ℕ
  pub more : List (List ℕ)
  pub are : texts ≡ first ∷ more
  pub told : AreToldOf Fails 1 first steps
