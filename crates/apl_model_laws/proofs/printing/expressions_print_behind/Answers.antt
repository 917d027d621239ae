use Rattle.apl_model_laws.proofs.Behind.{expressions_print_behind}
use Rattle.apl_model_laws.proofs.printing.expressions_print_behind.Goals as goal

pub returns : goal.returns
returns c = expressions_print_behind
