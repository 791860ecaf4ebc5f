use Rattle.row_node.proofs.Blank.{blank_shown}
use Rattle.row_store.specs.Seen.{ReadsAs}
use Rattle.host_departments.proofs.Blank.{no_row}
use Rattle.host_departments.specs.Payload.{decoded}
use Rattle.host_departments.specs.declared.row.TheConstants.{CELLS}
use Rattle.host_departments.proofs.laws.blank_shows_no_rows.Goals as goal

pub returns-clause-shows : goal.returns-clause-shows
returns-clause-shows c rows bytes none = blank_shown rows none 12 CELLS bytes (ReadsAs decoded)

pub returns-clause-none : goal.returns-clause-none
returns-clause-none c rows bytes long shows k = no_row CELLS bytes rows long shows k
