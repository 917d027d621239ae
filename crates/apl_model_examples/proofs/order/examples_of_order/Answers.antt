use Rattle.std.specs.Prelude.{refl}
use Rattle.apl_model_examples.proofs.Sizes.{nothing_fits, one_fits, two_fit, three_fit, four_fit, five_fit, eight_fit, one_is_some, two_are_some, three_are_some, four_are_some, five_are_some, eight_are_some}
use Rattle.std.specs.Fmt.{digits}
use Rattle.apl_model_examples.proofs.order.examples_of_order.Goals as goal

pub returns-clause-trees : goal.returns-clause-trees
returns-clause-trees c = assumption (nothing_fits, one_fits, two_fit, three_fit, four_fit, five_fit, eight_fit, one_is_some, two_are_some, three_are_some, four_are_some, five_are_some, eight_are_some)

pub returns-clause-positions_are_evaluated_from_the_last : goal.returns-clause-positions_are_evaluated_from_the_last
unfolding digits
returns-clause-positions_are_evaluated_from_the_last c = refl

pub returns-clause-a_failed_statement_ends_too : goal.returns-clause-a_failed_statement_ends_too
unfolding digits
returns-clause-a_failed_statement_ends_too c = refl

pub returns-clause-a_statement_that_is_cut_off_has_not_ended : goal.returns-clause-a_statement_that_is_cut_off_has_not_ended
unfolding digits
returns-clause-a_statement_that_is_cut_off_has_not_ended c = refl

pub returns-clause-turns_are_spent_after_a_report_too : goal.returns-clause-turns_are_spent_after_a_report_too
unfolding digits
returns-clause-turns_are_spent_after_a_report_too c = refl
