use Rattle.std.proofs.Common.{take}
use Rattle.apl_tree.specs.Prepared.{Answers}
use Rattle.apl_tree.proofs.lookups.prepared.Given as goal

abbrev pub invariant-loop-heading : goal.invariant-loop-heading
invariant-loop-heading l = Answers l.by_text (take l.heading-index l.headings)
