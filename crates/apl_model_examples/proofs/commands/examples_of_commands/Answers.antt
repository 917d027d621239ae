use lib.Utf8.{encode}
use Rattle.std.specs.Prelude.{refl}
use Rattle.apl_model_examples.proofs.Sizes.{nothing_fits, one_fits, two_fit, three_fit, four_fit, one_is_some, two_are_some, three_are_some, four_are_some}
use Rattle.std.specs.Fmt.{digits}
use Rattle.apl_model_examples.proofs.commands.examples_of_commands.Goals as goal

pub returns-clause-trees : goal.returns-clause-trees
returns-clause-trees c = assumption (nothing_fits, one_fits, two_fit, three_fit, four_fit, one_is_some, two_are_some, three_are_some, four_are_some)

pub returns-clause-names_are_listed_and_erased : goal.returns-clause-names_are_listed_and_erased
unfolding digits encode
returns-clause-names_are_listed_and_erased c = refl

pub returns-clause-functions_are_listed_in_order_of_bytes : goal.returns-clause-functions_are_listed_in_order_of_bytes
unfolding digits encode
returns-clause-functions_are_listed_in_order_of_bytes c = refl

pub returns-clause-an_unset_name_is_passed_over : goal.returns-clause-an_unset_name_is_passed_over
unfolding digits encode
returns-clause-an_unset_name_is_passed_over c = refl

pub returns-clause-names_differ_at_their_first_differing_byte : goal.returns-clause-names_differ_at_their_first_differing_byte
unfolding digits encode
returns-clause-names_differ_at_their_first_differing_byte c = refl
