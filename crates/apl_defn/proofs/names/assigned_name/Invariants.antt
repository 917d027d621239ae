use Rattle.apl_defn.proofs.AssignedLemmas.{IsFirstAssigned}
use Rattle.apl_defn.proofs.names.assigned_name.Given as goal

abbrev pub invariant-loop-from : goal.invariant-loop-from
invariant-loop-from l = IsFirstAssigned l.lookup l.line.number l.tokens l.from l.found
