use Rattle.apl_model_laws.proofs.Behind.{positions_print_behind}
use Rattle.apl_model_laws.proofs.printing.positions_print_behind.Goals as goal

pub returns : goal.returns
returns c = positions_print_behind
