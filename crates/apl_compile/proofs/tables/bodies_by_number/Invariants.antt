use Rattle.std.proofs.Common.{drop}
use Rattle.apl_compile.specs.Tables.{HasBodies}
use Rattle.apl_compile.proofs.tables.bodies_by_number.Given as goal

abbrev pub invariant-loop-item : goal.invariant-loop-item
invariant-loop-item l = HasBodies l.table l.item (drop l.item l.items)
