-- The examples are computed, printed digits included.
use Rattle.std.proofs.Common.{refl}
use Rattle.std.specs.Fmt.{digits}
use Rattle.apl_print.proofs.laws.worked_reports.Goals as goal

pub returns-clause-in_a_body : goal.returns-clause-in_a_body
unfolding digits
returns-clause-in_a_body c = refl

pub returns-clause-first_line : goal.returns-clause-first_line
unfolding digits
returns-clause-first_line c = refl
