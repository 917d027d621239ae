use Rattle.std.specs.Prelude.{refl}
use Rattle.apl_model_examples.proofs.Sizes.{nothing_fits, one_fits, two_fit, three_fit, four_fit, one_is_some, two_are_some, three_are_some, four_are_some}
use Rattle.std.specs.Fmt.{digits}
use Rattle.apl_model_examples.proofs.calls.examples_of_calls.Goals as goal

pub returns-clause-trees : goal.returns-clause-trees
returns-clause-trees c = assumption (nothing_fits, one_fits, two_fit, three_fit, four_fit, one_is_some, two_are_some, three_are_some, four_are_some)

pub returns-clause-a_call_writes_a_global : goal.returns-clause-a_call_writes_a_global
unfolding digits
returns-clause-a_call_writes_a_global c = refl

pub returns-clause-the_average_of_three_numbers : goal.returns-clause-the_average_of_three_numbers
unfolding digits
returns-clause-the_average_of_three_numbers c = refl

pub returns-clause-a_name_is_that_of_the_innermost_call : goal.returns-clause-a_name_is_that_of_the_innermost_call
unfolding digits
returns-clause-a_name_is_that_of_the_innermost_call c = refl

pub returns-clause-a_loop_adds_up : goal.returns-clause-a_loop_adds_up
unfolding digits
returns-clause-a_loop_adds_up c = refl

pub returns-clause-fifteen_turns_are_enough : goal.returns-clause-fifteen_turns_are_enough
unfolding digits
returns-clause-fifteen_turns_are_enough c = refl

pub returns-clause-fourteen_turns_are_too_few : goal.returns-clause-fourteen_turns_are_too_few
unfolding digits
returns-clause-fourteen_turns_are_too_few c = refl

pub returns-clause-a_loop_without_end : goal.returns-clause-a_loop_without_end
unfolding digits
returns-clause-a_loop_without_end c = refl

pub returns-clause-no_turn_at_all : goal.returns-clause-no_turn_at_all
unfolding digits
returns-clause-no_turn_at_all c = refl

pub returns-clause-commands_and_definitions_take_no_turn : goal.returns-clause-commands_and_definitions_take_no_turn
unfolding digits
returns-clause-commands_and_definitions_take_no_turn c = refl

pub returns-clause-a_branch_to_a_character : goal.returns-clause-a_branch_to_a_character
unfolding digits
returns-clause-a_branch_to_a_character c = refl

pub returns-clause-a_call_too_deep : goal.returns-clause-a_call_too_deep
unfolding digits
returns-clause-a_call_too_deep c = refl

pub returns-clause-a_call_without_a_result : goal.returns-clause-a_call_without_a_result
unfolding digits
returns-clause-a_call_without_a_result c = refl
