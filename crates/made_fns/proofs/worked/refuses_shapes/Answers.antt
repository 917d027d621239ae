use Rattle.made_fns.proofs.worked.refuses_shapes.Goals as goal

pub reshape-domain-requires-clause-a : goal.reshape-domain-requires-clause-a
reshape-domain-requires-clause-a c = c.minus_one-negative.ensures.lawful c.new-store.result

pub reshape-length-requires-clause-a : goal.reshape-length-requires-clause-a
reshape-length-requires-clause-a c = c.nine_ones-many.ensures.lawful c.reshape-domain.new.store
