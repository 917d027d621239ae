use Rattle.std.proofs.Common.{◌∙◌, arith}
use Rattle.e_machine.proofs.LoneLeafLemmas.{ForSome-functions}
use Rattle.forcing_tests.proofs.forced.halves_fault_at.Goals as goal

pub halves_and_parts-requires-clause-lawful : goal.halves_and_parts-requires-clause-lawful
halves_and_parts-requires-clause-lawful c = c.in_ok-vector.ensures.lawful

pub halves_and_parts-requires-clause-four : goal.halves_and_parts-requires-clause-four
halves_and_parts-requires-clause-four c = c.in_ok-vector.ensures.shape ∙ c.in_ok-four.ensures.ok

pub force-requires-clause-lawful : goal.force-requires-clause-lawful
force-requires-clause-lawful c = c.in_ok-s.ensures.lawful

pub force-requires-clause-holders : goal.force-requires-clause-holders
force-requires-clause-holders c = ForSome-functions _ c.in_ok-s.s.nodes (omega (arith, c.in_ok-s.ensures.functions))
