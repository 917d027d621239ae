use Rattle.apl_model.proofs.Agreement.{expressions_agree, positions_agree, statements_agree}
use Rattle.apl_model.proofs.agreements.evaluations_agree.Goals as goal

pub returns-clause-expressions : goal.returns-clause-expressions
returns-clause-expressions g c = expressions_agree _ _ _ _

pub returns-clause-positions : goal.returns-clause-positions
returns-clause-positions g c = positions_agree _ _ _ _

pub returns-clause-statements : goal.returns-clause-statements
returns-clause-statements g c = statements_agree _ _ _ _
