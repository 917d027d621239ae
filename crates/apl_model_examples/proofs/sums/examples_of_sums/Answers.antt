use Rattle.std.specs.Prelude.{refl}
use Rattle.apl_model_examples.proofs.Sizes.{nothing_fits, one_fits, two_fit, three_fit, four_fit, one_is_some, two_are_some, three_are_some, four_are_some}
use Rattle.std.specs.Fmt.{digits}
use Rattle.apl_model_examples.proofs.sums.examples_of_sums.Goals as goal

pub returns-clause-trees : goal.returns-clause-trees
returns-clause-trees c = assumption (nothing_fits, one_fits, two_fit, three_fit, four_fit, one_is_some, two_are_some, three_are_some, four_are_some)

pub returns-clause-two_numbers_are_added : goal.returns-clause-two_numbers_are_added
unfolding digits
returns-clause-two_numbers_are_added c = refl

pub returns-clause-an_empty_script_prints_nothing : goal.returns-clause-an_empty_script_prints_nothing
unfolding digits
returns-clause-an_empty_script_prints_nothing c = refl

pub returns-clause-equal_lengths_go_pairwise : goal.returns-clause-equal_lengths_go_pairwise
unfolding digits
returns-clause-equal_lengths_go_pairwise c = refl

pub returns-clause-the_right_argument_comes_first : goal.returns-clause-the_right_argument_comes_first
unfolding digits
returns-clause-the_right_argument_comes_first c = refl

pub returns-clause-an_assignment_leaves_earlier_values_alone : goal.returns-clause-an_assignment_leaves_earlier_values_alone
unfolding digits
returns-clause-an_assignment_leaves_earlier_values_alone c = refl

pub returns-clause-an_assignment_prints_in_parentheses_alone : goal.returns-clause-an_assignment_prints_in_parentheses_alone
unfolding digits
returns-clause-an_assignment_prints_in_parentheses_alone c = refl

pub returns-clause-an_output_prints_its_value_once : goal.returns-clause-an_output_prints_its_value_once
unfolding digits
returns-clause-an_output_prints_its_value_once c = refl
