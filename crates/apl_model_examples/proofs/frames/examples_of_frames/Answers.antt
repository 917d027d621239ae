use Rattle.std.specs.Prelude.{refl}
use Rattle.apl_model_examples.proofs.Sizes.{nothing_fits, one_fits, two_fit, three_fit, four_fit, five_fit, eight_fit, one_is_some, two_are_some, three_are_some, four_are_some, five_are_some, eight_are_some}
use Rattle.std.specs.Fmt.{digits}
use Rattle.apl_model_examples.proofs.frames.examples_of_frames.Goals as goal

pub returns-clause-trees : goal.returns-clause-trees
returns-clause-trees c = assumption (nothing_fits, one_fits, two_fit, three_fit, four_fit, five_fit, eight_fit, one_is_some, two_are_some, three_are_some, four_are_some, five_are_some, eight_are_some)

pub returns-clause-a_name_is_set_in_the_innermost_frame_that_declares_it : goal.returns-clause-a_name_is_set_in_the_innermost_frame_that_declares_it
unfolding digits
returns-clause-a_name_is_set_in_the_innermost_frame_that_declares_it c = refl

pub returns-clause-an_unset_local_has_no_value : goal.returns-clause-an_unset_local_has_no_value
unfolding digits
returns-clause-an_unset_local_has_no_value c = refl

pub returns-clause-a_branch_names_the_next_line : goal.returns-clause-a_branch_names_the_next_line
unfolding digits
returns-clause-a_branch_names_the_next_line c = refl

pub returns-clause-a_value_that_is_needed : goal.returns-clause-a_value_that_is_needed
unfolding digits
returns-clause-a_value_that_is_needed c = refl
