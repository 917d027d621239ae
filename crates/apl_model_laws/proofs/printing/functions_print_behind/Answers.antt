use Rattle.apl_model_laws.proofs.Behind.{functions_print_behind}
use Rattle.apl_model_laws.proofs.printing.functions_print_behind.Goals as goal

pub returns : goal.returns
returns c = functions_print_behind
