use Rattle.value_fns.proofs.Ends.{answered_lawful}
use Rattle.value_fns.proofs.tests.number_is.Goals as goal

pub read_cells-requires : goal.read_cells-requires
read_cells-requires c = record { lawful = answered_lawful _ _ _ _ _ c.in_ok-made.ensures.made }

pub decode-requires-clause-left : goal.decode-requires-clause-left
decode-requires-clause-left c = c.everywhere-a.ensures.lawful c.stored.new.store
