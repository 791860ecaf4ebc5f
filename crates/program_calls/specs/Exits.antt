-- How the program ends: its exit status, and its line on standard error.
use Rattle.std.specs.Prelude.{ℕ, Option, Some, None, Result, Ok, Err}
use Rattle.line_runs.specs.Codes.{code_of, side_code_of}
use Rattle.line_runs.specs.declared.{status.SideStatus.SideStatus, status.SideStatus.TheVariants.Run, status.SideStatus.TheVariants.Stopped, status.Status.TheVariants.Done, status.Status.TheVariants.Words, status.Status.TheVariants.Script, status.Status.TheVariants.ReadFault, status.Status.TheVariants.WriteFault, status.Status.TheVariants.Memory, status.Status.TheVariants.TooLong}
use Rattle.program_calls.specs.declared.{exit.OpenFault.OpenFault, exit.Fault.Fault, exit.Exit.Exit}
use Rattle.program_calls.specs.declared.exit.OpenFault.TheVariants as unopened
use Rattle.program_calls.specs.declared.exit.Fault.TheVariants as says

abbrev ends_with : ℕ → Option Fault → Exit
ends_with status line = record { status = status; line = line }

-- the line of each ending of a run
abbrev pub line_of : SideStatus → Option Fault
line_of (Run Done) = None
line_of (Run Words) = Some says.Words
line_of (Run (Script line)) = Some (says.Script line)
line_of (Run ReadFault) = Some says.Read
line_of (Run WriteFault) = Some says.Write
line_of (Run Memory) = Some says.Memory
line_of (Run TooLong) = Some says.TooLong
line_of Stopped = Some says.Stopped

-- Each ending of a run has its status, from 0 to 6 or 8, and its line; so has a start that could not begin one.
abbrev pub exit_of : Result SideStatus OpenFault → Exit
exit_of (Ok ended) = ends_with (side_code_of ended) (line_of ended)
exit_of (Err unopened.Memory) = ends_with (code_of Memory) (Some says.Memory)
exit_of (Err (unopened.File name)) = ends_with 7 (Some (says.File name))
