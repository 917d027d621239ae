use Rattle.forcing_tests.proofs.segments.halves_and_parts.Goals as goal

pub pending-requires : goal.pending-requires
pending-requires c = c.everywhere.ensures.lawful c.args.store.now

pub pending-requires-2 : goal.pending-requires-2
pending-requires-2 c = c.everywhere-2.ensures.lawful c.args.store.now

pub pending-requires-3 : goal.pending-requires-3
pending-requires-3 c = c.part-a.ensures.lawful c.args.store.now c.requires.lawful

pub pending-requires-4 : goal.pending-requires-4
pending-requires-4 c = c.part-b.ensures.lawful c.args.store.now c.requires.lawful
