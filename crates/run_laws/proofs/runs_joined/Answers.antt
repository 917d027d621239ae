use Rattle.run_laws.proofs.Running.{runs_joined}
use Rattle.run_laws.proofs.runs_joined.Goals as goal

pub returns : goal.returns
returns c = runs_joined
