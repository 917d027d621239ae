use Rattle.std.proofs.Common.{sym}
use Rattle.pending_steps.proofs.LeafLemmas.{leaf_comes}
use Rattle.leaf_steps.proofs.takes.as_leaf.Goals as goal

pub returns-in-Some-clause-comes : goal.returns-in-Some-clause-comes
returns-in-Some-clause-comes c =
    leaf_comes c.args.store.now c.args.s c.in-Some.leaf.now c.copy.result c.only_leaf.ensures.segment c.requires.lawful (sym c.in-Some.ensures.found) c.copy.ensures.same c.copy.ensures.desc
