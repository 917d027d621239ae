use Rattle.std.proofs.Common.{take}
use Rattle.apl_defn.specs.Passes.{IsBody}
use Rattle.apl_defn.proofs.uses.read_body.Given as goal

abbrev pub invariant-loop-line : goal.invariant-loop-line
invariant-loop-line l = IsBody l.lookup (take l.line-index l.lines) l.body
