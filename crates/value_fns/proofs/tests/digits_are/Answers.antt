use Rattle.value_fns.proofs.Ends.{answered_lawful}
use Rattle.value_fns.proofs.tests.digits_are.Goals as goal

pub read_cells-requires : goal.read_cells-requires
read_cells-requires c = record { lawful = answered_lawful _ _ _ _ _ c.in_ok-made.ensures.made }

pub encode-requires-clause-left : goal.encode-requires-clause-left
encode-requires-clause-left c = c.everywhere-a.ensures.lawful c.stored.new.store
