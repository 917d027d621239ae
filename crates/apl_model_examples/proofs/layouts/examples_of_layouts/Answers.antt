use Rattle.std.specs.Prelude.{refl}
use Rattle.apl_model_examples.proofs.Sizes.{nothing_fits, one_fits, two_fit, three_fit, four_fit, five_fit, eight_fit, one_is_some, two_are_some, three_are_some, four_are_some, five_are_some, eight_are_some}
use Rattle.std.specs.Fmt.{digits}
use Rattle.apl_model_examples.proofs.layouts.examples_of_layouts.Goals as goal

pub returns-clause-trees : goal.returns-clause-trees
returns-clause-trees c = assumption (nothing_fits, one_fits, two_fit, three_fit, four_fit, five_fit, eight_fit, one_is_some, two_are_some, three_are_some, four_are_some, five_are_some, eight_are_some)

pub returns-clause-an_empty_line_stands_between_two_planes : goal.returns-clause-an_empty_line_stands_between_two_planes
unfolding digits
returns-clause-an_empty_line_stands_between_two_planes c = refl
