-- The desk of statements as a model: it moves by its view, whatever memory holds the movements.
use Rattle.std.specs.Prelude.{◌≡◌, ℕ, List}
use Rattle.bench_base.specs.declared.events.Reply.{Reply}
use Rattle.centre_statement.specs.Courses.{Begins, GoesOn}
use Rattle.centre_statement.specs.Desk.{View, seen}
use Rattle.centre_statement.specs.OwnLines.{IsOwnLine}
use Rattle.centre_statement.specs.Texts.{said_texts}
use Rattle.centre_statement.specs.declared.lines.OwnLine.{OwnLine}
use Rattle.trace_extensions.specs.Models.{Model}

-- what it keeps and says is the view of the desk, `view_of`
abbrev pub statement_model : Model View
statement_model = record {
  IsOwn = λ line. (own : OwnLine) × IsOwnLine own line;
  Passes = λ v line. (own : OwnLine) → IsOwnLine own line → ⊥;
  Begins = λ v line next w. (own : OwnLine) × IsOwnLine own line × Begins v own next w;
  Goes = λ v turn next w. GoesOn v turn next w;
  Sees = λ v turn w. w ≡ seen v turn.entries;
  texts = λ v. said_texts v.said v.listed;
  Alike = λ v w. Unit {0};
}

-- No line tells a failure: an own line asks for a balance at most, in which no node fails.
abbrev pub Fails : ℕ → List ℕ → Reply → Type 0
Fails number line reply = ⊥
