use Rattle.product_fns.proofs.tests.an_outer_product_is_pending.Goals as goal

pub outer-pending-requires-clause-left : goal.outer-pending-requires-clause-left
outer-pending-requires-clause-left g c = c.numbers-a.ensures.lawful c.new-store.result

pub outer-pending-requires-clause-right : goal.outer-pending-requires-clause-right
outer-pending-requires-clause-right g c = c.numbers-b.ensures.lawful c.new-store.result
