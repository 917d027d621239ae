use Rattle.pending_laws.proofs.CountLemmas.{taken_scalar_extends, taken_from_itself, taken_is_selected, dropped_is_selected, taken_has_counts, dropped_has_counts}
use Rattle.pending_laws.proofs.selections.takes_select.Goals as goal

pub returns : goal.returns
returns c = record { scalar = taken_scalar_extends; itself = taken_from_itself; take = taken_is_selected; drop = dropped_is_selected; take_exact = taken_has_counts; drop_exact = dropped_has_counts }
