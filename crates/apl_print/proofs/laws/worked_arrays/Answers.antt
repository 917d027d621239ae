-- The examples are computed, printed digits included.
use Rattle.std.proofs.Common.{refl}
use Rattle.std.specs.Fmt.{digits}
use Rattle.apl_print.proofs.laws.worked_arrays.Goals as goal

pub returns-clause-scalar : goal.returns-clause-scalar
unfolding digits
returns-clause-scalar c = refl

pub returns-clause-negative : goal.returns-clause-negative
unfolding digits
returns-clause-negative c = refl

pub returns-clause-greatest : goal.returns-clause-greatest
unfolding digits
returns-clause-greatest c = refl

pub returns-clause-least : goal.returns-clause-least
unfolding digits
returns-clause-least c = refl

pub returns-clause-vector : goal.returns-clause-vector
unfolding digits
returns-clause-vector c = refl

pub returns-clause-table : goal.returns-clause-table
unfolding digits
returns-clause-table c = refl

pub returns-clause-one_column : goal.returns-clause-one_column
unfolding digits
returns-clause-one_column c = refl

pub returns-clause-two_planes : goal.returns-clause-two_planes
unfolding digits
returns-clause-two_planes c = refl
