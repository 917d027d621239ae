use Rattle.run_laws.proofs.Running.{runs_behind}
use Rattle.run_laws.proofs.runs_behind.Goals as goal

pub returns : goal.returns
returns c = runs_behind
