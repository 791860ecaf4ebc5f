-- What a statement says, by the ledger: the movements that were counted between its opening and its close.
use Rattle.std.specs.Prelude.{◌≡◌, ◌≢◌, ◌⊎◌, ◌<◌, ◌≤◌, ℕ, List, [], ◌∷◌, ◌++◌, Option, Some, None, length, codes}
use Rattle.bench_base.specs.declared.events.Event.TheVariants as ev
use Rattle.bench_base.specs.declared.{events.Reply.Reply, ledger.Commit.Commit}
use Rattle.bench_base.specs.declared.events.Reply.TheVariants as r
use Rattle.bench_base.specs.Ledger.{Ledger, counted}
use Rattle.line_extensions.specs.Trace.{StepRecord, done_in}
use Rattle.line_extensions.specs.SideTrace.{SideStep, Plain, Own, Broken}
use Rattle.ledger_moves.specs.Tariffs.{Tariff}
use Rattle.ledger_terms.specs.Centres.{balance}
use Rattle.script_replay.specs.Trace.{ledger_after}
use Rattle.script_text.specs.Texts.{text_of}
use Rattle.statement_check.specs.Lines.{line_text}
use Rattle.statement_check.specs.declared.{line.Movement.Movement, line.StatementLine.TheVariants.Opening}
use Rattle.centre_statement.specs.Changes.{change_in}
use Rattle.centre_statement.specs.Texts.{closed_texts}
use Rattle.centre_statement.specs.declared.{change.Change.Change, lines.OwnLine.OwnLine, lines.OwnLine.TheVariants.Open, lines.OwnLine.TheVariants.Close}

-- == movements ==

-- what a commit changed, with the balance after it
abbrev pub movement_of : Option Change → ℕ → List Movement
movement_of None after = []
movement_of (Some x) after = (record { cause = x.cause; amount = x.amount; balance = after }) ∷ []

-- the movements of the customer's money among the commits that were counted after those of C, each with the centre's balance after its commit. The
-- commits are listed newest first, the movements oldest first.
abbrev pub movements : ℕ → List Commit → List Commit → List Movement
movements w [] C = []
movements w (c ∷ since) C = movements w since C ++ movement_of (change_in c w) (balance w (c ∷ (since ++ C)))

-- == a statement that is open ==

-- its customer, and the commits that were counted when it was opened
pub record OpenedAt : Type 0 where
  pub customer : ℕ
  pub counted : List Commit

-- one step was done, which asked for this customer's balance
pub record AsksBalance (w : ℕ) (steps : List StepRecord) : Type 0 where
  pub step : StepRecord
  pub only : steps ≡ step ∷ []
  pub event : step.event ≡ ev.Balance w

-- the reply has no balance of the customer, and is the answer
pub record IsRefused (w : ℕ) (reply : Reply) (texts : List (List ℕ)) : Type 0 where
  pub other : (b : ℕ) → reply ≢ r.Balance w b
  pub texts_are : texts ≡ text_of reply ∷ []

-- `statement open`, where these commits count: the opening balance is the centre's
pub record TellsOpening (w : ℕ) (C : List Commit) (reply : Reply) (texts : List (List ℕ)) (now : Option OpenedAt) : Type 0 where
  pub reply_is : reply ≡ r.Balance w (balance w C)
  pub texts_are : texts ≡ line_text (Opening w (balance w C)) ∷ []
  pub now_is : now ≡ Some (record { customer = w; counted = C })

-- all movements and the closing balance, or that there are more than a statement holds
abbrev pub AllTold : List Movement → ℕ → List (List ℕ) → Type 0
AllTold ms b texts = ((length ms ≤ 10000) × (texts ≡ closed_texts ms b)) ⊎ ((10000 < length ms) × (texts ≡ codes "refused statement full" ∷ []))

-- `statement close`: the movements are those of the commits that were counted since the opening, and the closing balance is the centre's
pub record TellsMovements (o : OpenedAt) (C : List Commit) (reply : Reply) (texts : List (List ℕ)) (now : Option OpenedAt) : Type 0 where
  pub since : List Commit
  pub counts : C ≡ since ++ o.counted
  pub reply_is : reply ≡ r.Balance o.customer (balance o.customer C)
  pub told : AllTold (movements o.customer since o.counted) (balance o.customer C) texts
  pub now_is : now ≡ None

-- == the lines of a run ==

-- an own line, where these commits count, by the statement that was open; and the one that is open now
abbrev pub IsStated : OwnLine → Option OpenedAt → List Commit → List StepRecord → List (List ℕ) → Option OpenedAt → Type 0
IsStated (Open w) was C steps texts now =
    (asks : AsksBalance w steps) × (TellsOpening w C asks.step.reply texts now ⊎ (IsRefused w asks.step.reply texts × (now ≡ was)))
IsStated Close None C steps texts now = (steps ≡ []) × (texts ≡ codes "refused statement none" ∷ []) × (now ≡ None)
IsStated Close (Some o) C steps texts now =
    (asks : AsksBalance o.customer steps) × (TellsMovements o C asks.step.reply texts now ⊎ (IsRefused o.customer asks.step.reply texts × (now ≡ Some o)))

-- each own line of a run from this ledger on is stated, in turn; no line breaks off
abbrev pub AreStated : Tariff → Option OpenedAt → Ledger → List (SideStep OwnLine) → Type 0
AreStated τ o H [] = Unit {0}
AreStated τ o H (Plain d ∷ rest) = AreStated τ o (ledger_after τ H (done_in (d ∷ []))) rest
AreStated τ o H (Own line own steps texts ∷ rest) =
    (now : Option OpenedAt) × IsStated own o (counted (ledger_after τ H steps)) steps texts now × AreStated τ now (ledger_after τ H steps) rest
AreStated τ o H (Broken line own steps ∷ rest) = ⊥
