use Rattle.std.proofs.Common.{◌≡◌}
use Rattle.apl_model.specs.Environment.{with_frame}
use Rattle.name_table.proofs.LettingLemmas.{unwound-lets_go, unwound-means}
use Rattle.name_table.proofs.PlaceLemmas.{whole, whole-popped}
use Rattle.name_table.proofs.names.Names.unwind.Goals as goal

popped : (c : goal.After-release) → c.args.self.now ≡ with_frame c.in-Some.frame (whole c.self.inside.globals c.pop.new.self.items)
popped c = whole-popped c.self.inside.globals c.self.inside.frames.items c.args.self.now c.self.view_is c.pop.new.self.items c.in-Some.frame c.in-Some.ensures.items

pub returns-clause-means : goal.returns-clause-means
returns-clause-means c =
    unwound-means c.args.store.now c.release.new.store c.args.self.now (whole c.self.inside.globals c.pop.new.self.items) c.in-Some.frame (popped c) c.requires.held c.release.ensures.follows c.requires.lawful

pub returns-clause-leaves : goal.returns-clause-leaves
returns-clause-leaves c =
    unwound-lets_go c.args.store.now c.release.new.store c.args.self.now (whole c.self.inside.globals c.pop.new.self.items) c.in-Some.frame (popped c) c.requires.held c.release.ensures.follows c.requires.lawful c.release.ensures.counts
