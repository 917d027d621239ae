use Rattle.std.specs.Prelude.{refl}
use Rattle.apl_model_examples.proofs.Sizes.{nothing_fits, one_fits, two_fit, three_fit, four_fit, one_is_some, two_are_some, three_are_some, four_are_some}
use Rattle.std.specs.Fmt.{digits}
use Rattle.apl_model_examples.proofs.made.examples_of_made.Goals as goal

pub returns-clause-trees : goal.returns-clause-trees
returns-clause-trees c = assumption (nothing_fits, one_fits, two_fit, three_fit, four_fit, one_is_some, two_are_some, three_are_some, four_are_some)

pub returns-clause-taking_pads_and_dropping_stops : goal.returns-clause-taking_pads_and_dropping_stops
unfolding digits
returns-clause-taking_pads_and_dropping_stops c = refl

pub returns-clause-digits_and_their_value : goal.returns-clause-digits_and_their_value
unfolding digits
returns-clause-digits_and_their_value c = refl

pub returns-clause-eight_functions_of_vectors : goal.returns-clause-eight_functions_of_vectors
unfolding digits
returns-clause-eight_functions_of_vectors c = refl

pub returns-clause-a_negative_length : goal.returns-clause-a_negative_length
unfolding digits
returns-clause-a_negative_length c = refl

pub returns-clause-nothing_has_no_two_elements : goal.returns-clause-nothing_has_no_two_elements
unfolding digits
returns-clause-nothing_has_no_two_elements c = refl

pub returns-clause-a_second_spelling_of_membership : goal.returns-clause-a_second_spelling_of_membership
unfolding digits
returns-clause-a_second_spelling_of_membership c = refl

pub returns-clause-more_than_the_greatest_length : goal.returns-clause-more_than_the_greatest_length
unfolding digits
returns-clause-more_than_the_greatest_length c = refl

pub returns-clause-equal_elements_keep_their_order : goal.returns-clause-equal_elements_keep_their_order
unfolding digits
returns-clause-equal_elements_keep_their_order c = refl

pub returns-clause-places_and_members : goal.returns-clause-places_and_members
unfolding digits
returns-clause-places_and_members c = refl

pub returns-clause-bits_along_an_axis : goal.returns-clause-bits_along_an_axis
unfolding digits
returns-clause-bits_along_an_axis c = refl

pub returns-clause-the_number_of_digits_in_one_base : goal.returns-clause-the_number_of_digits_in_one_base
unfolding digits
returns-clause-the_number_of_digits_in_one_base c = refl

pub returns-clause-a_base_of_0_takes_all_that_is_left : goal.returns-clause-a_base_of_0_takes_all_that_is_left
unfolding digits
returns-clause-a_base_of_0_takes_all_that_is_left c = refl
