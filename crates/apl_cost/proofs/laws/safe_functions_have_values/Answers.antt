use Rattle.apl_cost.proofs.Safe.{safe_functions_of_one, safe_functions_of_two}
use Rattle.apl_cost.proofs.laws.safe_functions_have_values.Goals as goal

pub returns-clause-one : goal.returns-clause-one
returns-clause-one c = safe_functions_of_one

pub returns-clause-two : goal.returns-clause-two
returns-clause-two c = safe_functions_of_two
