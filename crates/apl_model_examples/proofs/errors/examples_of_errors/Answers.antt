use Rattle.std.specs.Prelude.{refl}
use Rattle.apl_model_examples.proofs.Sizes.{nothing_fits, one_fits, two_fit, three_fit, four_fit, one_is_some, two_are_some, three_are_some, four_are_some}
use Rattle.std.specs.Fmt.{digits}
use Rattle.apl_model_examples.proofs.errors.examples_of_errors.Goals as goal

pub returns-clause-trees : goal.returns-clause-trees
returns-clause-trees c = assumption (nothing_fits, one_fits, two_fit, three_fit, four_fit, one_is_some, two_are_some, three_are_some, four_are_some)

pub returns-clause-the_place_is_the_function_that_fails : goal.returns-clause-the_place_is_the_function_that_fails
unfolding digits
returns-clause-the_place_is_the_function_that_fails c = refl

pub returns-clause-an_error_comes_before_an_output_to_its_left : goal.returns-clause-an_error_comes_before_an_output_to_its_left
unfolding digits
returns-clause-an_error_comes_before_an_output_to_its_left c = refl

pub returns-clause-an_error_comes_though_no_element_is_left : goal.returns-clause-an_error_comes_though_no_element_is_left
unfolding digits
returns-clause-an_error_comes_though_no_element_is_left c = refl

pub returns-clause-an_error_comes_before_an_unset_name_to_its_left : goal.returns-clause-an_error_comes_before_an_unset_name_to_its_left
unfolding digits
returns-clause-an_error_comes_before_an_unset_name_to_its_left c = refl

pub returns-clause-the_script_goes_on_after_an_error : goal.returns-clause-the_script_goes_on_after_an_error
unfolding digits
returns-clause-the_script_goes_on_after_an_error c = refl

pub returns-clause-the_right_one_of_two_unset_names : goal.returns-clause-the_right_one_of_two_unset_names
unfolding digits
returns-clause-the_right_one_of_two_unset_names c = refl

pub returns-clause-the_right_one_of_two_errors : goal.returns-clause-the_right_one_of_two_errors
unfolding digits
returns-clause-the_right_one_of_two_errors c = refl

pub returns-clause-the_right_one_of_two_kinds_of_errors : goal.returns-clause-the_right_one_of_two_kinds_of_errors
unfolding digits
returns-clause-the_right_one_of_two_kinds_of_errors c = refl

pub returns-clause-the_right_one_of_two_failing_quotients : goal.returns-clause-the_right_one_of_two_failing_quotients
unfolding digits
returns-clause-the_right_one_of_two_failing_quotients c = refl

pub returns-clause-an_axis_far_beyond_the_rank : goal.returns-clause-an_axis_far_beyond_the_rank
unfolding digits
returns-clause-an_axis_far_beyond_the_rank c = refl
