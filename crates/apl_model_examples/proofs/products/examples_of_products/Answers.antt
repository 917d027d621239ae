use Rattle.std.specs.Prelude.{refl}
use Rattle.apl_model_examples.proofs.Sizes.{nothing_fits, one_fits, two_fit, three_fit, four_fit, one_is_some, two_are_some, three_are_some, four_are_some}
use Rattle.std.specs.Fmt.{digits}
use Rattle.apl_model_examples.proofs.products.examples_of_products.Goals as goal

pub returns-clause-trees : goal.returns-clause-trees
returns-clause-trees c = assumption (nothing_fits, one_fits, two_fit, three_fit, four_fit, one_is_some, two_are_some, three_are_some, four_are_some)

pub returns-clause-a_reduction_goes_from_the_right : goal.returns-clause-a_reduction_goes_from_the_right
unfolding digits
returns-clause-a_reduction_goes_from_the_right c = refl

pub returns-clause-an_empty_axis_gives_the_identity : goal.returns-clause-an_empty_axis_gives_the_identity
unfolding digits
returns-clause-an_empty_axis_gives_the_identity c = refl

pub returns-clause-a_missing_identity : goal.returns-clause-a_missing_identity
unfolding digits
returns-clause-a_missing_identity c = refl

pub returns-clause-a_missing_identity_of_no_elements : goal.returns-clause-a_missing_identity_of_no_elements
unfolding digits
returns-clause-a_missing_identity_of_no_elements c = refl

pub returns-clause-a_reduction_along_the_first_axis : goal.returns-clause-a_reduction_along_the_first_axis
unfolding digits
returns-clause-a_reduction_along_the_first_axis c = refl

pub returns-clause-no_third_axis : goal.returns-clause-no_third_axis
unfolding digits
returns-clause-no_third_axis c = refl

pub returns-clause-a_product_of_two_tables : goal.returns-clause-a_product_of_two_tables
unfolding digits
returns-clause-a_product_of_two_tables c = refl

pub returns-clause-a_table_of_products : goal.returns-clause-a_table_of_products
unfolding digits
returns-clause-a_table_of_products c = refl

pub returns-clause-sales_by_quarter : goal.returns-clause-sales_by_quarter
unfolding digits
returns-clause-sales_by_quarter c = refl

pub returns-clause-axes_of_products : goal.returns-clause-axes_of_products
unfolding digits
returns-clause-axes_of_products c = refl
