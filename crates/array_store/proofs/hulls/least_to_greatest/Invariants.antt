use Rattle.std.proofs.Common.{◌≡◌, take}
use Rattle.apl_base.specs.Interval.{exact_interval}
use Rattle.array_store.proofs.hulls.least_to_greatest.Given as goal

abbrev pub invariant-loop-cell : goal.invariant-loop-cell
invariant-loop-cell l = l.interval ≡ exact_interval (take l.cell-index l.cells)
