-- The departments, as an extension, whoever keeps the quotas and jobs.
use Rattle.std.specs.Prelude.{◌≡◌}
use Rattle.node_turns.specs.Turns.{sent_in}
use Rattle.line_extensions.specs.declared.extension.Extension.{Ghosts}
use Rattle.host_departments.specs.DepartmentLines.{IsLine, IsDepartmentLine}
use Rattle.host_departments.specs.Moves.{Keeper, Begins, GoesOn}
use Rattle.host_departments.specs.Passes.{Passes}
use Rattle.host_departments.specs.Texts.{said_texts}
use Rattle.host_departments.specs.declared.{heard.Heard.Heard, row.DepartmentLine.DepartmentLine}

abbrev pub by_keeper : {S : Type 0} → Keeper S → Ghosts S Heard
by_keeper k = record {
  Own = DepartmentLine;
  IsOwn = IsDepartmentLine;
  MayWant = λ own. ⊥;
  Passes = λ s line. Passes (k.rows s) line;
  Begins = λ s own next t. IsLine own × Begins k s own next t;
  Goes = λ s turn next t. GoesOn k (k.said s) turn.reply (sent_in turn.entries) s next t;
  Sees = λ s e turn t. t ≡ s;
  texts = λ s. said_texts (k.said s);
  left = λ s. 0;
}
