-- `run_part`: the measure is how many commands there are.
use Rattle.edit.proofs.part.+run_part.Given as goal

abbrev pub decreases-run_part : goal.decreases-run_part
decreases-run_part l = l.k
