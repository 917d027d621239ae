use Rattle.pending_laws.proofs.AxisLemmas.{flipped_is_selected, transposed_is_selected, transposed_has_axes}
use Rattle.pending_laws.proofs.selections.transposes_select.Goals as goal

pub returns : goal.returns
returns c = record { one = flipped_is_selected; two = transposed_is_selected; exact = transposed_has_axes }
