use Rattle.selecting_tests.proofs.DeskLemmas.{stepped}
use Rattle.selecting_tests.proofs.desks.Desk.reduce.Goals as goal

pub returns : goal.returns
returns c = stepped _ _ _ _ _ c.requires.sound.held c.reduction.ensures.moves
