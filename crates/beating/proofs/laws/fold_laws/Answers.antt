use Rattle.beating.proofs.FoldLemmas.{numbers_in_range}
use Rattle.beating.proofs.laws.fold_laws.Goals as goal

pub returns : goal.returns
returns c = numbers_in_range
