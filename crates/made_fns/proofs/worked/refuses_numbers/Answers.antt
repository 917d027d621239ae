use Rattle.made_fns.proofs.worked.refuses_numbers.Goals as goal

pub iota-requires-clause-b : goal.iota-requires-clause-b
iota-requires-clause-b c = c.twos.ensures.lawful c.new-store.result

pub iota-requires-2-clause-b : goal.iota-requires-2-clause-b
iota-requires-2-clause-b c = c.minus_one.ensures.lawful c.iota.new.store
