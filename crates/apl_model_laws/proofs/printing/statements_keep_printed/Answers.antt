use Rattle.apl_model_laws.proofs.Counted.{statements_keep_printed}
use Rattle.apl_model_laws.proofs.printing.statements_keep_printed.Goals as goal

pub returns : goal.returns
returns c = statements_keep_printed
