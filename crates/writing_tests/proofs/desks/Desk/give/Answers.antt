use Rattle.writing_tests.proofs.DeskLemmas.{given_ok}
use Rattle.writing_tests.proofs.desks.Desk.give.Goals as goal

pub returns : goal.returns
returns c =
    given_ok c.set.result c.args.self.now.store c.set.new.store c.args.self.now.variables.names c.set.new.self c.args.self.now.stack c.args.leaf c.requires.beside
    c.set.ensures.follows c.set.ensures.lawful c.set.ensures.fills
