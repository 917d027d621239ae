use Rattle.leaf_tests.proofs.operands.push_unstored.Goals as goal

pub push_leaf-requires-clause-leaf : goal.push_leaf-requires-clause-leaf
push_leaf-requires-clause-leaf c = c.requires.leaf c.args.store.now
