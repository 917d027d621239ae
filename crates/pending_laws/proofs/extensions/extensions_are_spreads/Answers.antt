use Rattle.pending_laws.proofs.ExtensionLemmas.{extension_is_spread, extension_to_one_element, extended_join_is_the_lift}
use Rattle.pending_laws.proofs.extensions.extensions_are_spreads.Goals as goal

pub returns : goal.returns
returns c = record { elements = extension_is_spread; one = extension_to_one_element; join = extended_join_is_the_lift }
