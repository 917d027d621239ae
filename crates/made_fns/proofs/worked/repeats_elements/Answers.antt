use Rattle.made_fns.proofs.TestLemmas.{answered_lawful}
use Rattle.made_fns.proofs.worked.repeats_elements.Goals as goal

pub is_made-requires : goal.is_made-requires
is_made-requires c = answered_lawful _ _ _ _ _ c.in_ok-made.ensures.made

pub reshape-requires-clause-a : goal.reshape-requires-clause-a
reshape-requires-clause-a c = c.twos-by.ensures.lawful c.new-store.result
