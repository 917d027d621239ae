use Rattle.apl_cost_laws.proofs.Staying.{expressions_stay_inside, positions_stay_inside, statements_stay_inside, lines_stay_inside, functions_stay_inside, runs_stay_inside, scripts_stay_inside}
use Rattle.apl_cost_laws.proofs.inside.cells_stay_inside.Goals as goal

pub returns-clause-expressions : goal.returns-clause-expressions
returns-clause-expressions c = expressions_stay_inside

pub returns-clause-positions : goal.returns-clause-positions
returns-clause-positions c = positions_stay_inside

pub returns-clause-statements : goal.returns-clause-statements
returns-clause-statements c = statements_stay_inside

pub returns-clause-lines : goal.returns-clause-lines
returns-clause-lines c = lines_stay_inside

pub returns-clause-functions : goal.returns-clause-functions
returns-clause-functions c = functions_stay_inside

pub returns-clause-runs : goal.returns-clause-runs
returns-clause-runs c = runs_stay_inside

pub returns-clause-scripts : goal.returns-clause-scripts
returns-clause-scripts c = scripts_stay_inside
