use Rattle.std.proofs.Common.{◌≡◌, ◌++◌, length, map, reverse}
use Rattle.apl_model.specs.Mirror.{body_line_of}
use Rattle.apl_compile.specs.Program.{outline_body}
use Rattle.apl_compile.proofs.scripts.outline_body.Given as goal

abbrev pub invariant-loop-line : goal.invariant-loop-line
invariant-loop-line l = map outline_body (map body_line_of l.left) ++ reverse l.backward.items ≡ map outline_body (map body_line_of l.initial.left)

abbrev pub decreases-loop-line : goal.decreases-loop-line
decreases-loop-line l = length l.left
