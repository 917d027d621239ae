use Rattle.product_tests.proofs.tests.is_as_wanted.Goals as goal

pub reduced-requires : goal.reduced-requires
reduced-requires c = (rw c.in-Some.is at c.in_ok-leaf.ensures) c.new-store.result
