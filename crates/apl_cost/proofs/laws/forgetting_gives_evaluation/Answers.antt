use Rattle.apl_cost.proofs.Forgetting.{expressions_forget, statements_forget, calls_forget, runs_forget, immediate_forgets}
use Rattle.apl_cost.proofs.laws.forgetting_gives_evaluation.Goals as goal

pub returns-clause-expressions : goal.returns-clause-expressions
returns-clause-expressions c = expressions_forget

pub returns-clause-statements : goal.returns-clause-statements
returns-clause-statements c = statements_forget

pub returns-clause-calls : goal.returns-clause-calls
returns-clause-calls c = calls_forget

pub returns-clause-runs : goal.returns-clause-runs
returns-clause-runs c = runs_forget

pub returns-clause-immediate : goal.returns-clause-immediate
returns-clause-immediate c = immediate_forgets
