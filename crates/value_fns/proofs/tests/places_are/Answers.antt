use Rattle.value_fns.proofs.Ends.{answered_lawful}
use Rattle.value_fns.proofs.tests.places_are.Goals as goal

pub read_cells-requires : goal.read_cells-requires
read_cells-requires c = record { lawful = answered_lawful _ _ _ _ _ c.in_ok-made.ensures.made }

pub index_of-requires-clause-left : goal.index_of-requires-clause-left
index_of-requires-clause-left c = c.counting-a.ensures.lawful c.stored.new.store
