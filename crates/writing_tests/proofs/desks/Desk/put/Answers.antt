use Rattle.writing_tests.proofs.DeskLemmas.{pushed_ok}
use Rattle.writing_tests.proofs.desks.Desk.put.Goals as goal

pub returns : goal.returns
returns c =
    pushed_ok c.push.result c.args.self.now.store c.args.self.now.variables.names c.args.self.now.stack c.push.new.self c.args.segment c.requires.segment c.requires.beside c.push.ensures.ok c.push.ensures.leaves
