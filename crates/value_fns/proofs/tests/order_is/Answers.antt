use Rattle.value_fns.proofs.Ends.{answered_lawful}
use Rattle.value_fns.proofs.tests.order_is.Goals as goal

pub read_cells-requires : goal.read_cells-requires
read_cells-requires c = record { lawful = answered_lawful _ _ _ _ _ c.in_ok-made.ensures.made }
