use Rattle.writing_tests.proofs.DeskLemmas.{moved}
use Rattle.writing_tests.proofs.desks.Desk.settle.Goals as goal

pub returns : goal.returns
returns c =
    moved c.args.self.now.store c.settle.new.store c.args.self.now.variables.names c.args.self.now.stack c.settle.new.stack c.requires c.settle.ensures.follows c.settle.ensures.lawful
