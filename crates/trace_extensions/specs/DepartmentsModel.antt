-- The model of the departments: how they move by their quotas, their jobs and their answer, whatever their storage is.
use Rattle.std.specs.Prelude.{◌≡◌, ℕ, List, Bool, true, false}
use Rattle.bench_base.specs.declared.{words.Node.TheVariants.Host, events.Reply.Reply}
use Rattle.nv_model.specs.declared.nv.Nv as nv
use Rattle.node_acts.specs.RowList.{is_worn, put}
use Rattle.node_turns.specs.Turns.{sent_in}
use Rattle.script_text.specs.Texts.{text_of}
use Rattle.line_extensions.specs.declared.extension.Next.TheVariants.{Say}
use Rattle.host_departments.specs.DepartmentLines.{IsLine, IsDepartmentLine}
use Rattle.host_departments.specs.Moves as moves
use Rattle.host_departments.specs.Moves.{Keeper}
use Rattle.host_departments.specs.Passes.{Passes}
use Rattle.host_departments.specs.Rows.{Rows}
use Rattle.host_departments.specs.Texts.{said_texts}
use Rattle.host_departments.specs.View.{rows_of, said_of}
use Rattle.host_departments.specs.declared.{desk.Departments.Departments, row.DepartmentLine.DepartmentLine, row.DepartmentRow.DepartmentRow, answer.Answer.Answer}
use Rattle.host_departments.specs.declared.answer.Answer.TheVariants as answers
use Rattle.trace_bench.specs.Prefixes.{IsFailure}
use Rattle.trace_extensions.specs.Models.{Model}

-- the quotas and jobs that are kept, and what was answered last or is waited for
pub record Kept : Type 0 where
  pub rows : Rows
  pub said : Answer

abbrev pub kept : Rows → Answer → Kept
kept rows said = record { rows = rows; said = said }

abbrev pub departments_view : {N : Type 0} {g : nv.Ghosts N} → Departments N g → Kept
departments_view desk = kept (rows_of desk) (said_of desk)

-- a row for cell k: the cell is worn, or it keeps the row and what was meant is answered
abbrev pub tried : Bool → ℕ → DepartmentRow → Answer → Kept → Kept
tried true k x meant v = kept v.rows answers.Worn
tried false k x meant v = kept (put v.rows k x) meant

-- no commit fails
abbrev pub kept_keeper : Keeper Kept
kept_keeper = record {
  rows = λ v. v.rows;
  said = λ v. v.said;
  Rests = λ v w. w.rows ≡ v.rows;
  Tries = λ k x meant v next w. (next ≡ Say) × (w ≡ tried (is_worn v.rows k) k x meant v);
}

abbrev pub departments_model : Model Kept
departments_model = record {
  IsOwn = λ line. (own : DepartmentLine) × IsDepartmentLine own line;
  Passes = λ v line. Passes v.rows line;
  Begins = λ v line next w. (own : DepartmentLine) × IsDepartmentLine own line × IsLine own × moves.Begins kept_keeper v own next w;
  Goes = λ v turn next w. moves.GoesOn kept_keeper v.said turn.reply (sent_in turn.entries) v next w;
  Sees = λ v turn w. w ≡ v;
  texts = λ v. said_texts v.said;
  Alike = λ v w. v.rows ≡ w.rows;
}

-- the line tells that the message of a job got this failure of the host
abbrev pub DepartmentsFail : ℕ → List ℕ → Reply → Type 0
DepartmentsFail number line reply = (line ≡ text_of reply) × IsFailure reply Host
