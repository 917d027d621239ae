use Rattle.apl_model_laws.proofs.Counted.{functions_keep_printed}
use Rattle.apl_model_laws.proofs.printing.functions_keep_printed.Goals as goal

pub returns : goal.returns
returns c = functions_keep_printed
