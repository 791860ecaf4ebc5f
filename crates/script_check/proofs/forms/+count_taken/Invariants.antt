use Rattle.std.proofs.Common.{length}
use Rattle.script_check.proofs.forms.+count_taken.Given as goal

abbrev pub decreases-count_taken : goal.decreases-count_taken
decreases-count_taken l = length l.form.now
