use Rattle.forcing_tests.proofs.segments.chain.Goals as goal

pub pending-requires : goal.pending-requires
pending-requires c = c.counting.ensures.lawful c.args.store.now

pub pending-requires-then-k-eq0 : goal.pending-requires-then-k-eq0
pending-requires-then-k-eq0 c = c.counting-then-k-eq0.ensures.lawful c.args.store.now
