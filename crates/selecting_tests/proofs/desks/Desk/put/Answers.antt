use Rattle.selecting_tests.proofs.DeskLemmas.{kept_beside, held_beside}
use Rattle.selecting_tests.proofs.desks.Desk.put.Goals as goal

pub put_leaf-requires-clause-entries : goal.put_leaf-requires-clause-entries
put_leaf-requires-clause-entries c = kept_beside _ _ _ _ c.requires.lawful c.requires.held c.in-Ok.ensures.follows

pub put_leaf-requires-clause-held : goal.put_leaf-requires-clause-held
put_leaf-requires-clause-held c = held_beside c.args.self.now.store c.placed.new.store c.args.self.now.stack _ c.requires.held c.in-Ok.ensures.follows
