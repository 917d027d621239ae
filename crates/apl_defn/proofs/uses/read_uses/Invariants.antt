use Rattle.std.proofs.Common.{length}
use Rattle.apl_defn.proofs.UseLemmas.{UsesSoFar}
use Rattle.apl_defn.proofs.uses.read_uses.Given as goal

abbrev pub invariant-loop-part : goal.invariant-loop-part
invariant-loop-part l = UsesSoFar l.lookup l.lines l.parts.rest.now l.headers.items l.uses

abbrev pub decreases-loop-part : goal.decreases-loop-part
decreases-loop-part l = length l.parts.rest.now
