use Rattle.std.proofs.Common.{◌≡◌, ◌++◌, length, map, reverse}
use Rattle.apl_compile.specs.Program.{outline_line}
use Rattle.apl_compile.proofs.scripts.outline_lines.Given as goal

abbrev pub invariant-loop-line : goal.invariant-loop-line
invariant-loop-line l = map outline_line l.left ++ reverse l.backward.items ≡ map outline_line l.initial.left

abbrev pub decreases-loop-line : goal.decreases-loop-line
decreases-loop-line l = length l.left
