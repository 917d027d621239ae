use Rattle.value_fns.proofs.Ends.{answered_lawful}
use Rattle.value_fns.proofs.tests.tests_are.Goals as goal

pub read_cells-requires : goal.read_cells-requires
read_cells-requires c = record { lawful = answered_lawful _ _ _ _ _ c.in_ok-made.ensures.made }

pub member-requires-clause-right : goal.member-requires-clause-right
member-requires-clause-right c = c.counting-b.ensures.lawful c.stored.new.store
