use Rattle.std.proofs.Common.{length}
use Rattle.apl_defn.proofs.FormLemmas.{FormsSoFar}
use Rattle.apl_defn.proofs.forms.read_forms.Given as goal

abbrev pub invariant-loop-part : goal.invariant-loop-part
invariant-loop-part l = FormsSoFar l.lines l.parts.rest.now l.forms

abbrev pub decreases-loop-part : goal.decreases-loop-part
decreases-loop-part l = length l.parts.rest.now
