use Rattle.apl_model_laws.proofs.Counted.{expressions_keep_printed}
use Rattle.apl_model_laws.proofs.printing.expressions_keep_printed.Goals as goal

pub returns : goal.returns
returns c = expressions_keep_printed
