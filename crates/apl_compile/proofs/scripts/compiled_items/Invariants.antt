use Rattle.std.proofs.Common.{◌≡◌, ◌++◌, drop, map}
use Rattle.apl_model.specs.Mirror.{item_of}
use Rattle.apl_compile.specs.Program.{codes_of}
use Rattle.apl_compile.proofs.scripts.compiled_items.Given as goal

abbrev pub invariant-loop-item : goal.invariant-loop-item
invariant-loop-item l = l.codes ++ codes_of (map item_of (drop l.item-index l.items)) ≡ codes_of (map item_of l.items)
