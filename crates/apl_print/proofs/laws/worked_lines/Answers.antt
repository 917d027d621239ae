-- The examples are computed, printed digits included.
use Rattle.std.proofs.Common.{refl}
use Rattle.std.specs.Fmt.{digits}
use Rattle.apl_print.proofs.laws.worked_lines.Goals as goal

pub returns-clause-refusal : goal.returns-clause-refusal
unfolding digits
returns-clause-refusal c = refl

pub returns-clause-too_long : goal.returns-clause-too_long
unfolding digits
returns-clause-too_long c = refl

pub returns-clause-cost : goal.returns-clause-cost
unfolding digits
returns-clause-cost c = refl

pub returns-clause-progression : goal.returns-clause-progression
unfolding digits
returns-clause-progression c = refl

pub returns-clause-stored : goal.returns-clause-stored
unfolding digits
returns-clause-stored c = refl

pub returns-clause-no_axis : goal.returns-clause-no_axis
unfolding digits
returns-clause-no_axis c = refl
