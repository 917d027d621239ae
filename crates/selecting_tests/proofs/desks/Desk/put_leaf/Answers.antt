use Rattle.selecting_tests.proofs.DeskLemmas.{put_sound}
use Rattle.selecting_tests.proofs.desks.Desk.put_leaf.Goals as goal

pub returns : goal.returns
returns c = put_sound _ _ _ _ c.requires.held c.in_ok-push_leaf.ensures.puts
