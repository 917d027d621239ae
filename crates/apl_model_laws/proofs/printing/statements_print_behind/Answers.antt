use Rattle.apl_model_laws.proofs.Behind.{statements_print_behind}
use Rattle.apl_model_laws.proofs.printing.statements_print_behind.Goals as goal

pub returns : goal.returns
returns c = statements_print_behind
