-- Departments do not see each other's quotas and postage.
use Rattle.std.specs.Prelude.{◌≡◌, ◌<◌, ◌↔◌, ℕ, ◌+◌, ◌-◌, List, [], ◌∷◌}
use Rattle.bench_base.specs.declared.events.Event.TheVariants as ev
use Rattle.node_acts.specs.RowList.{row_at}
use Rattle.node_turns.specs.Turns.{sent_in}
use Rattle.node_turns.specs.declared.turn.Turn.{Turn}
use Rattle.script_text.specs.Texts.{text_of}
use Rattle.host_departments.specs.Answers.{Asked, Answered, IsAnswered}
use Rattle.host_departments.specs.Heard.{IsTaken}
use Rattle.host_departments.specs.Rows.{Rows, first_cell, AnotherHas}
use Rattle.host_departments.specs.declared.{row.DepartmentLine.DepartmentLine, row.DepartmentLine.TheVariants.Quota, row.DepartmentLine.TheVariants.Assign, row.DepartmentLine.TheVariants.Spent, row.DepartmentLine.TheVariants.Print}

-- the line is one of department d
abbrev pub IsLineOf : ℕ → DepartmentLine → Type 0
IsLineOf d (Quota e q) = e ≡ d
IsLineOf d (Assign e j) = e ≡ d
IsLineOf d (Spent e) = e ≡ d
IsLineOf d (Print j) = ⊥

-- the same was committed of department d, and the same jobs are others'; nothing is said of the quotas and of the postage of others
pub record IsSameFor (d : ℕ) (rows other : Rows) : Type 0 where
  pub quota : row_at other (d - 1) ≡ row_at rows (d - 1)
  pub jobs : (i : ℕ) → i < 64 → row_at other (first_cell d + i) ≡ row_at rows (first_cell d + i)
  pub others : (j : ℕ) → AnotherHas rows d j ↔ AnotherHas other d j

-- the message of job j was answered by the same text, with the same postage
pub record IsSameHeard (j : ℕ) (turn other : Turn) : Type 0 where
  pub text : text_of other.reply ≡ text_of turn.reply
  pub postage : (p : ℕ) → IsTaken j turn.reply (sent_in turn.entries) p ↔ IsTaken j other.reply (sent_in other.entries) p

-- so it is where both lines asked for it
abbrev pub AreSameHeard : List Asked → List Asked → Type 0
AreSameHeard asked other = (j : ℕ) (s t : Turn) → asked ≡ record { event = ev.Send j; turn = s } ∷ []
    → other ≡ record { event = ev.Send j; turn = t } ∷ [] → IsSameHeard j s t

-- Each line of a department is answered by the same texts, whatever is kept of others.
abbrev pub AreIsolated : Type 0
AreIsolated =
    (d : ℕ) (own : DepartmentLine) → IsLineOf d own → (rows other : Rows) → IsSameFor d rows other
    → (a b : Answered) → IsAnswered own rows a → IsAnswered own other b → AreSameHeard a.asked b.asked → b.texts ≡ a.texts
