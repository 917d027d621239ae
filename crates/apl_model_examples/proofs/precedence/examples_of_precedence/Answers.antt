use Rattle.std.specs.Prelude.{refl}
use Rattle.apl_model_examples.proofs.Sizes.{nothing_fits, one_fits, two_fit, three_fit, four_fit, five_fit, eight_fit, one_is_some, two_are_some, three_are_some, four_are_some, five_are_some, eight_are_some}
use Rattle.std.specs.Fmt.{digits}
use Rattle.apl_model_examples.proofs.precedence.examples_of_precedence.Goals as goal

pub returns-clause-trees : goal.returns-clause-trees
returns-clause-trees c = assumption (nothing_fits, one_fits, two_fit, three_fit, four_fit, five_fit, eight_fit, one_is_some, two_are_some, three_are_some, four_are_some, five_are_some, eight_are_some)

pub returns-clause-a_length_error_comes_before_a_domain_error : goal.returns-clause-a_length_error_comes_before_a_domain_error
unfolding digits
returns-clause-a_length_error_comes_before_a_domain_error c = refl

pub returns-clause-no_rank_error_is_left_out : goal.returns-clause-no_rank_error_is_left_out
unfolding digits
returns-clause-no_rank_error_is_left_out c = refl

pub returns-clause-a_domain_error_comes_before_an_index_error : goal.returns-clause-a_domain_error_comes_before_an_index_error
unfolding digits
returns-clause-a_domain_error_comes_before_an_index_error c = refl

pub returns-clause-where_a_limit_error_comes_before_a_domain_error : goal.returns-clause-where_a_limit_error_comes_before_a_domain_error
unfolding digits
returns-clause-where_a_limit_error_comes_before_a_domain_error c = refl

pub returns-clause-what_an_interval_and_a_shape_refuse : goal.returns-clause-what_an_interval_and_a_shape_refuse
unfolding digits
returns-clause-what_an_interval_and_a_shape_refuse c = refl

pub returns-clause-what_a_selection_and_a_grade_refuse : goal.returns-clause-what_a_selection_and_a_grade_refuse
unfolding digits
returns-clause-what_a_selection_and_a_grade_refuse c = refl

pub returns-clause-what_bits_and_digits_refuse : goal.returns-clause-what_bits_and_digits_refuse
unfolding digits
returns-clause-what_bits_and_digits_refuse c = refl
