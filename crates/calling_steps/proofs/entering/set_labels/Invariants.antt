use Rattle.calling_steps.specs.Calls.{labels_in}
use Rattle.calling_steps.proofs.EnterLemmas.{LabelsSet}
use Rattle.calling_steps.proofs.entering.set_labels.Given as goal

abbrev pub invariant-loop-at : goal.invariant-loop-at
invariant-loop-at l = LabelsSet l.fn.machine l.machine (labels_in l.fn.body) l.at
