use Rattle.e_machine.proofs.LoneLeafLemmas.{ForSome-functions}
use Rattle.forcing_tests.proofs.blocks.gives_differences.Goals as goal

pub force-requires-clause-lawful : goal.force-requires-clause-lawful
force-requires-clause-lawful c = c.in_ok-s.ensures.lawful

pub force-requires-clause-holders : goal.force-requires-clause-holders
force-requires-clause-holders c = ForSome-functions _ c.in_ok-s.s.nodes c.in_ok-s.ensures.some

pub listed-requires : goal.listed-requires
listed-requires c = c.in_ok-made.ensures.forced.stands.lawful
