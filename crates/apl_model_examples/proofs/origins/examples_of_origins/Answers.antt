use Rattle.std.specs.Prelude.{refl}
use Rattle.apl_model_examples.proofs.Sizes.{nothing_fits, one_fits, two_fit, three_fit, four_fit, one_is_some, two_are_some, three_are_some, four_are_some, from_0, from_1}
use Rattle.std.specs.Fmt.{digits}
use Rattle.apl_model_examples.proofs.origins.examples_of_origins.Goals as goal

pub returns-clause-trees : goal.returns-clause-trees
returns-clause-trees c = assumption (nothing_fits, one_fits, two_fit, three_fit, four_fit, one_is_some, two_are_some, three_are_some, four_are_some, from_0, from_1)

pub returns-clause-places_count_from_the_origin : goal.returns-clause-places_count_from_the_origin
unfolding digits
returns-clause-places_count_from_the_origin c = refl

pub returns-clause-the_length_is_no_position_from_0 : goal.returns-clause-the_length_is_no_position_from_0
unfolding digits
returns-clause-the_length_is_no_position_from_0 c = refl

pub returns-clause-the_origin_is_set_back : goal.returns-clause-the_origin_is_set_back
unfolding digits
returns-clause-the_origin_is_set_back c = refl

pub returns-clause-the_origin_stays_0 : goal.returns-clause-the_origin_stays_0
unfolding digits
returns-clause-the_origin_stays_0 c = refl

pub returns-clause-axes_and_writes_count_from_the_origin : goal.returns-clause-axes_and_writes_count_from_the_origin
unfolding digits
returns-clause-axes_and_writes_count_from_the_origin c = refl

pub returns-clause-lines_count_from_1 : goal.returns-clause-lines_count_from_1
unfolding digits
returns-clause-lines_count_from_1 c = refl
