use Rattle.product_tests.proofs.tests.scalar_stays.Goals as goal

pub reduced-requires : goal.reduced-requires
reduced-requires c = c.scalar-leaf.ensures c.new-store.result
