use Rattle.std.specs.Prelude.{refl}
use Rattle.apl_model_examples.proofs.Sizes.{nothing_fits, one_fits, two_fit, three_fit, four_fit, one_is_some, two_are_some, three_are_some, four_are_some}
use Rattle.std.specs.Fmt.{digits}
use Rattle.apl_model_examples.proofs.texts.examples_of_texts.Goals as goal

pub returns-clause-trees : goal.returns-clause-trees
returns-clause-trees c = assumption (nothing_fits, one_fits, two_fit, three_fit, four_fit, one_is_some, two_are_some, three_are_some, four_are_some)

pub returns-clause-a_doubled_quote_is_one_quote : goal.returns-clause-a_doubled_quote_is_one_quote
unfolding digits
returns-clause-a_doubled_quote_is_one_quote c = refl

pub returns-clause-columns_are_right_justified : goal.returns-clause-columns_are_right_justified
unfolding digits
returns-clause-columns_are_right_justified c = refl

pub returns-clause-an_empty_vector_prints_an_empty_line : goal.returns-clause-an_empty_vector_prints_an_empty_line
unfolding digits
returns-clause-an_empty_vector_prints_an_empty_line c = refl
