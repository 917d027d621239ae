use Rattle.std.proofs.Common.{◌-◌, length}
use Rattle.apl_read.proofs.StepLemmas.{IsScanned}
use Rattle.apl_read.proofs.columns.read_columns.Given as goal

abbrev pub invariant-loop-at : goal.invariant-loop-at
invariant-loop-at l = IsScanned l.text l.at l.made

abbrev pub decreases-loop-at : goal.decreases-loop-at
decreases-loop-at l = length l.text - l.at
