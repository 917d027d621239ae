use Rattle.std.specs.Prelude.{refl}
use Rattle.apl_model_examples.proofs.Sizes.{nothing_fits, one_fits, two_fit, three_fit, four_fit, five_fit, eight_fit, one_is_some, two_are_some, three_are_some, four_are_some, five_are_some, eight_are_some}
use Rattle.std.specs.Fmt.{digits}
use Rattle.apl_model_examples.proofs.kinds.examples_of_kinds.Goals as goal

pub returns-clause-trees : goal.returns-clause-trees
returns-clause-trees c = assumption (nothing_fits, one_fits, two_fit, three_fit, four_fit, five_fit, eight_fit, one_is_some, two_are_some, three_are_some, four_are_some, five_are_some, eight_are_some)

pub returns-clause-what_is_reduced_keeps_its_kind_along_length_1 : goal.returns-clause-what_is_reduced_keeps_its_kind_along_length_1
unfolding digits
returns-clause-what_is_reduced_keeps_its_kind_along_length_1 c = refl

pub returns-clause-nothing_gives_a_catenation_no_kind : goal.returns-clause-nothing_gives_a_catenation_no_kind
unfolding digits
returns-clause-nothing_gives_a_catenation_no_kind c = refl
