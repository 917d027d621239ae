use Rattle.std.specs.Prelude.{refl}
use Rattle.apl_model_examples.proofs.Sizes.{nothing_fits, one_fits, two_fit, three_fit, four_fit, five_fit, eight_fit, one_is_some, two_are_some, three_are_some, four_are_some, five_are_some, eight_are_some}
use Rattle.std.specs.Fmt.{digits}
use Rattle.apl_model_examples.proofs.extension.examples_of_extension.Goals as goal

pub returns-clause-trees : goal.returns-clause-trees
returns-clause-trees c = assumption (nothing_fits, one_fits, two_fit, three_fit, four_fit, five_fit, eight_fit, one_is_some, two_are_some, three_are_some, four_are_some, five_are_some, eight_are_some)

pub returns-clause-a_table_of_one_element_does_not_extend : goal.returns-clause-a_table_of_one_element_does_not_extend
unfolding digits
returns-clause-a_table_of_one_element_does_not_extend c = refl

pub returns-clause-one_element_extends : goal.returns-clause-one_element_extends
unfolding digits
returns-clause-one_element_extends c = refl

pub returns-clause-a_scalar_is_taken_with_lengths_of_1 : goal.returns-clause-a_scalar_is_taken_with_lengths_of_1
unfolding digits
returns-clause-a_scalar_is_taken_with_lengths_of_1 c = refl

pub returns-clause-one_element_goes_to_all_places : goal.returns-clause-one_element_goes_to_all_places
unfolding digits
returns-clause-one_element_goes_to_all_places c = refl
