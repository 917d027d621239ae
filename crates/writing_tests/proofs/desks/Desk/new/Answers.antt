use Rattle.writing_tests.proofs.DeskLemmas.{empty_desk}
use Rattle.writing_tests.proofs.desks.Desk.new.Goals as goal

pub returns : goal.returns
returns c = empty_desk c.args.limit c.new-3.result c.new.result c.new-2.result c.new-3.ensures c.new.ensures c.new-2.ensures
