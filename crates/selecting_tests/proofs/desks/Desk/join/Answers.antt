use Rattle.selecting_tests.proofs.DeskLemmas.{stepped}
use Rattle.selecting_tests.proofs.desks.Desk.join.Goals as goal

pub returns : goal.returns
returns c = stepped _ _ _ _ _ c.requires.sound.held c.scalar_two.ensures.moves
