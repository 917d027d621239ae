use Rattle.std.proofs.Common.{◌≡◌, ◌+◌, drop}
use Rattle.apl_compile.specs.Tables.{codes_for, HasFunctions}
use Rattle.apl_compile.proofs.tables.functions_by_name.Given as goal

abbrev pub invariant-loop-item : goal.invariant-loop-item
invariant-loop-item l = (l.code + codes_for (drop l.item l.items) ≡ codes_for l.items) × HasFunctions l.table l.item l.code (drop l.item l.items)
