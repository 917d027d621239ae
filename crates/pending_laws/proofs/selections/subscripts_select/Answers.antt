use Rattle.pending_laws.proofs.SubscriptLemmas.{scalars_are_in_progression, runs_are_in_progression, subscript_is_selected, subscript_has_places}
use Rattle.pending_laws.proofs.selections.subscripts_select.Goals as goal

pub returns : goal.returns
returns c = record { scalar = scalars_are_in_progression; vector = runs_are_in_progression; subscript = subscript_is_selected; exact = subscript_has_places }
