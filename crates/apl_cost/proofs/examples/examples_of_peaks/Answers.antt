use Rattle.std.specs.Prelude.{refl}
use Rattle.apl_cost.proofs.examples.examples_of_peaks.Goals as goal

pub returns-clause-squares : goal.returns-clause-squares
returns-clause-squares c = refl

pub returns-clause-fewer_squares : goal.returns-clause-fewer_squares
returns-clause-fewer_squares c = refl

pub returns-clause-take : goal.returns-clause-take
returns-clause-take c = refl

pub returns-clause-workload : goal.returns-clause-workload
returns-clause-workload c = refl

pub returns-clause-nested_calls : goal.returns-clause-nested_calls
returns-clause-nested_calls c = refl

pub returns-clause-fewer_turns : goal.returns-clause-fewer_turns
returns-clause-fewer_turns c = refl
