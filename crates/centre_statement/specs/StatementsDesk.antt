-- The desk of statements, as a desk.
use Rattle.std.specs.Prelude.{◌≡◌}
use Rattle.node_turns.specs.declared.turn.Turn.{Turn}
use Rattle.line_extensions.specs.declared.extension.Extension.{Ghosts}
use Rattle.centre_statement.specs.Courses.{MayWant, Begins, GoesOn}
use Rattle.centre_statement.specs.Desk.{view_of, seen}
use Rattle.centre_statement.specs.OwnLines.{IsOwnLine}
use Rattle.centre_statement.specs.Texts.{said_texts}
use Rattle.centre_statement.specs.declared.{desk.StatementDesk.StatementDesk, lines.OwnLine.OwnLine}

abbrev pub statements_desk : Ghosts StatementDesk Turn
statements_desk = record {
  Own = OwnLine;
  IsOwn = IsOwnLine;
  MayWant = MayWant;
  Passes = λ k line. (own : OwnLine) → IsOwnLine own line → ⊥;
  Begins = λ k own next t. Begins (view_of k) own next (view_of t);
  Goes = λ k turn next t. GoesOn (view_of k) turn next (view_of t);
  Sees = λ k e turn t. view_of t ≡ seen (view_of k) turn.entries;
  texts = λ k. said_texts (view_of k).said (view_of k).listed;
  left = λ k. 0;
}
