use Rattle.apl_model.proofs.TokenSlices.{line_slices}
use Rattle.apl_model.proofs.laws.tokens_are_slices.Goals as goal

pub returns : goal.returns
returns c = line_slices
