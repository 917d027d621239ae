use Rattle.std.proofs.Common.{◌≡◌}
use Rattle.indexing_steps.proofs.ChoiceLemmas.{AreKept}
use Rattle.indexing_steps.proofs.fitting.lengths_kept.Given as goal

abbrev pub invariant-loop-axis : goal.invariant-loop-axis
invariant-loop-axis l = record { kept : AreKept l.items l.shape l.axis l.lengths.items; room : l.lengths.capacity ≡ 8 }
