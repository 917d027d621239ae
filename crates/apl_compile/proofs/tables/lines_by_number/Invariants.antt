use Rattle.std.proofs.Common.{drop}
use Rattle.apl_compile.specs.Tables.{HasLines}
use Rattle.apl_compile.proofs.tables.lines_by_number.Given as goal

abbrev pub invariant-loop-place : goal.invariant-loop-place
invariant-loop-place l = HasLines l.table l.place (drop l.place l.lines)
