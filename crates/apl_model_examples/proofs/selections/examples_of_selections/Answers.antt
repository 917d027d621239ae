use Rattle.std.specs.Prelude.{refl}
use Rattle.apl_model_examples.proofs.Sizes.{nothing_fits, one_fits, two_fit, three_fit, four_fit, one_is_some, two_are_some, three_are_some, four_are_some}
use Rattle.std.specs.Fmt.{digits}
use Rattle.apl_model_examples.proofs.selections.examples_of_selections.Goals as goal

pub returns-clause-trees : goal.returns-clause-trees
returns-clause-trees c = assumption (nothing_fits, one_fits, two_fit, three_fit, four_fit, one_is_some, two_are_some, three_are_some, four_are_some)

pub returns-clause-axes_that_fall_together_give_the_diagonal : goal.returns-clause-axes_that_fall_together_give_the_diagonal
unfolding digits
returns-clause-axes_that_fall_together_give_the_diagonal c = refl

pub returns-clause-a_selection_keeps_an_error : goal.returns-clause-a_selection_keeps_an_error
unfolding digits
returns-clause-a_selection_keeps_an_error c = refl

pub returns-clause-a_transpose_keeps_its_value : goal.returns-clause-a_transpose_keeps_its_value
unfolding digits
returns-clause-a_transpose_keeps_its_value c = refl

pub returns-clause-a_reversal_keeps_its_value : goal.returns-clause-a_reversal_keeps_its_value
unfolding digits
returns-clause-a_reversal_keeps_its_value c = refl

pub returns-clause-each_axis_is_turned : goal.returns-clause-each_axis_is_turned
unfolding digits
returns-clause-each_axis_is_turned c = refl

pub returns-clause-each_axis_has_a_new_place : goal.returns-clause-each_axis_has_a_new_place
unfolding digits
returns-clause-each_axis_has_a_new_place c = refl
