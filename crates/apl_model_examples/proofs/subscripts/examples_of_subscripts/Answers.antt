use Rattle.std.specs.Prelude.{refl}
use Rattle.apl_model_examples.proofs.Sizes.{nothing_fits, one_fits, two_fit, three_fit, four_fit, one_is_some, two_are_some, three_are_some, four_are_some}
use Rattle.std.specs.Fmt.{digits}
use Rattle.apl_model_examples.proofs.subscripts.examples_of_subscripts.Goals as goal

pub returns-clause-trees : goal.returns-clause-trees
returns-clause-trees c = assumption (nothing_fits, one_fits, two_fit, three_fit, four_fit, one_is_some, two_are_some, three_are_some, four_are_some)

pub returns-clause-a_row_a_column_and_a_corner : goal.returns-clause-a_row_a_column_and_a_corner
unfolding digits
returns-clause-a_row_a_column_and_a_corner c = refl

pub returns-clause-positions_in_any_order : goal.returns-clause-positions_in_any_order
unfolding digits
returns-clause-positions_in_any_order c = refl

pub returns-clause-a_position_beyond_the_length : goal.returns-clause-a_position_beyond_the_length
unfolding digits
returns-clause-a_position_beyond_the_length c = refl

pub returns-clause-a_write_leaves_earlier_values_alone : goal.returns-clause-a_write_leaves_earlier_values_alone
unfolding digits
returns-clause-a_write_leaves_earlier_values_alone c = refl

pub returns-clause-a_write_of_the_array_itself : goal.returns-clause-a_write_of_the_array_itself
unfolding digits
returns-clause-a_write_of_the_array_itself c = refl

pub returns-clause-the_last_write_to_a_place_stays : goal.returns-clause-the_last_write_to_a_place_stays
unfolding digits
returns-clause-the_last_write_to_a_place_stays c = refl

pub returns-clause-one_element_is_a_value_of_its_own : goal.returns-clause-one_element_is_a_value_of_its_own
unfolding digits
returns-clause-one_element_is_a_value_of_its_own c = refl

pub returns-clause-a_write_to_an_unset_name : goal.returns-clause-a_write_to_an_unset_name
unfolding digits
returns-clause-a_write_to_an_unset_name c = refl

pub returns-clause-positions_of_more_axes : goal.returns-clause-positions_of_more_axes
unfolding digits
returns-clause-positions_of_more_axes c = refl
