use Rattle.std.proofs.Common.{◌≡◌, ◌++◌, length, map, reverse}
use Rattle.apl_model.specs.Mirror.{item_of}
use Rattle.apl_compile.specs.Program.{outline_item}
use Rattle.apl_compile.proofs.scripts.outline_items.Given as goal

abbrev pub invariant-loop-item : goal.invariant-loop-item
invariant-loop-item l = map outline_item (map item_of l.left) ++ reverse l.backward.items ≡ map outline_item (map item_of l.initial.left)

abbrev pub decreases-loop-item : goal.decreases-loop-item
decreases-loop-item l = length l.left
