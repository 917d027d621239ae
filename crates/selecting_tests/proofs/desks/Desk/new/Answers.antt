use Rattle.selecting_tests.proofs.DeskLemmas.{empty_sound}
use Rattle.selecting_tests.proofs.desks.Desk.new.Goals as goal

pub returns : goal.returns
returns c = empty_sound _ c.new.ensures
