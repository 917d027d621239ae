use Rattle.pending_laws.proofs.AxisLemmas.{reversed_is_selected, reversed_has_axis, reversed_scalar_stays}
use Rattle.pending_laws.proofs.selections.reversals_select.Goals as goal

pub returns : goal.returns
returns c = record { axis = reversed_is_selected; exact = reversed_has_axis; scalar = reversed_scalar_stays }
