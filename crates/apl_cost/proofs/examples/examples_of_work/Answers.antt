use Rattle.std.specs.Prelude.{refl}
use Rattle.apl_cost.proofs.examples.examples_of_work.Goals as goal

pub returns-clause-take : goal.returns-clause-take
returns-clause-take c = refl

pub returns-clause-assignment : goal.returns-clause-assignment
returns-clause-assignment c = refl

pub returns-clause-reversal : goal.returns-clause-reversal
returns-clause-reversal c = refl

pub returns-clause-product : goal.returns-clause-product
returns-clause-product c = refl

pub returns-clause-sum : goal.returns-clause-sum
returns-clause-sum c = refl

pub returns-clause-sixty_four : goal.returns-clause-sixty_four
returns-clause-sixty_four c = refl

pub returns-clause-sixty_five : goal.returns-clause-sixty_five
returns-clause-sixty_five c = refl

pub returns-clause-name : goal.returns-clause-name
returns-clause-name c cells = refl

pub returns-clause-may_fail : goal.returns-clause-may_fail
returns-clause-may_fail c cells = refl

pub returns-clause-progression : goal.returns-clause-progression
returns-clause-progression c cells = refl

pub returns-clause-other_positions : goal.returns-clause-other_positions
returns-clause-other_positions c cells = refl

pub returns-clause-beyond : goal.returns-clause-beyond
returns-clause-beyond c cells = refl

pub returns-clause-padding : goal.returns-clause-padding
returns-clause-padding c cells = refl

pub returns-clause-position_by_name : goal.returns-clause-position_by_name
returns-clause-position_by_name c cells = refl

pub returns-clause-other_name : goal.returns-clause-other_name
returns-clause-other_name c cells = refl

pub returns-clause-numbers : goal.returns-clause-numbers
returns-clause-numbers c cells = refl

pub returns-clause-million : goal.returns-clause-million
returns-clause-million c = refl

pub returns-clause-turned_name : goal.returns-clause-turned_name
returns-clause-turned_name c cells = refl

pub returns-clause-output : goal.returns-clause-output
returns-clause-output c = refl

pub returns-clause-dropped_scalar : goal.returns-clause-dropped_scalar
returns-clause-dropped_scalar c = refl

pub returns-clause-scalar_with_axes : goal.returns-clause-scalar_with_axes
returns-clause-scalar_with_axes c = refl

pub returns-clause-functions_in_arguments : goal.returns-clause-functions_in_arguments
returns-clause-functions_in_arguments c = refl

pub returns-clause-many_in_arguments : goal.returns-clause-many_in_arguments
returns-clause-many_in_arguments c = refl

pub returns-clause-two_positions : goal.returns-clause-two_positions
returns-clause-two_positions c cells = refl
