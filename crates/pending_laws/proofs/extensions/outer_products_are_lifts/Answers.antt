use Rattle.pending_laws.proofs.ExtensionLemmas.{outer_is_the_lift, outer_join_is_the_product}
use Rattle.pending_laws.proofs.extensions.outer_products_are_lifts.Goals as goal

pub returns : goal.returns
returns c = record { lift = outer_is_the_lift; join = outer_join_is_the_product }
