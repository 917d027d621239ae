use Rattle.made_fns.proofs.worked.refuses_too_many_axes.Goals as goal

pub reshape-requires-clause-a : goal.reshape-requires-clause-a
reshape-requires-clause-a c = c.nine_ones-many.ensures.lawful c.new-store.result
