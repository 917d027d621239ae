use Rattle.made_tests.proofs.calls.gathered.Goals as goal

pub gather_two-requires-in-AndNine-clause-second : goal.gather_two-requires-in-AndNine-clause-second
gather_two-requires-in-AndNine-clause-second c = c.nine.ensures c.args.store.now
