use Rattle.std.specs.Prelude.{refl}
use Rattle.apl_model_examples.proofs.Sizes.{nothing_fits, one_fits, two_fit, three_fit, four_fit, one_is_some, two_are_some, three_are_some, four_are_some}
use Rattle.std.specs.Fmt.{digits}
use Rattle.apl_model_examples.proofs.scalars.examples_of_scalars.Goals as goal

pub returns-clause-trees : goal.returns-clause-trees
returns-clause-trees c = assumption (nothing_fits, one_fits, two_fit, three_fit, four_fit, one_is_some, two_are_some, three_are_some, four_are_some)

pub returns-clause-zero_by_zero_is_one : goal.returns-clause-zero_by_zero_is_one
unfolding digits
returns-clause-zero_by_zero_is_one c = refl

pub returns-clause-a_text_is_compared_character_by_character : goal.returns-clause-a_text_is_compared_character_by_character
unfolding digits
returns-clause-a_text_is_compared_character_by_character c = refl

pub returns-clause-a_character_has_no_sum : goal.returns-clause-a_character_has_no_sum
unfolding digits
returns-clause-a_character_has_no_sum c = refl

pub returns-clause-the_greatest_factorial : goal.returns-clause-the_greatest_factorial
unfolding digits
returns-clause-the_greatest_factorial c = refl

pub returns-clause-no_greater_factorial : goal.returns-clause-no_greater_factorial
unfolding digits
returns-clause-no_greater_factorial c = refl

pub returns-clause-the_greatest_number_is_a_product : goal.returns-clause-the_greatest_number_is_a_product
unfolding digits
returns-clause-the_greatest_number_is_a_product c = refl

pub returns-clause-no_sum_beyond_the_greatest_number : goal.returns-clause-no_sum_beyond_the_greatest_number
unfolding digits
returns-clause-no_sum_beyond_the_greatest_number c = refl

pub returns-clause-a_great_element_is_doubled : goal.returns-clause-a_great_element_is_doubled
unfolding digits
returns-clause-a_great_element_is_doubled c = refl

pub returns-clause-an_element_that_is_not_taken_fails_all : goal.returns-clause-an_element_that_is_not_taken_fails_all
unfolding digits
returns-clause-an_element_that_is_not_taken_fails_all c = refl

pub returns-clause-unequal_lengths : goal.returns-clause-unequal_lengths
unfolding digits
returns-clause-unequal_lengths c = refl

pub returns-clause-unequal_lengths_of_a_name : goal.returns-clause-unequal_lengths_of_a_name
unfolding digits
returns-clause-unequal_lengths_of_a_name c = refl

pub returns-clause-unequal_ranks : goal.returns-clause-unequal_ranks
unfolding digits
returns-clause-unequal_ranks c = refl

pub returns-clause-a_residue_is_never_negative : goal.returns-clause-a_residue_is_never_negative
unfolding digits
returns-clause-a_residue_is_never_negative c = refl
