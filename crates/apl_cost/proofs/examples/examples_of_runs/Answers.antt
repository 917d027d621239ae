use Rattle.std.specs.Prelude.{refl}
use Rattle.apl_cost.proofs.examples.examples_of_runs.Goals as goal

pub returns-clause-product : goal.returns-clause-product
returns-clause-product c = refl

pub returns-clause-write : goal.returns-clause-write
returns-clause-write c = refl

pub returns-clause-selection : goal.returns-clause-selection
returns-clause-selection c = refl

pub returns-clause-footprints : goal.returns-clause-footprints
returns-clause-footprints c = refl

pub returns-clause-failure : goal.returns-clause-failure
returns-clause-failure c = refl

pub returns-clause-footprints_of_a_write : goal.returns-clause-footprints_of_a_write
returns-clause-footprints_of_a_write c = refl

pub returns-clause-inner_assignment : goal.returns-clause-inner_assignment
returns-clause-inner_assignment c = refl

pub returns-clause-footprints_of_a_call : goal.returns-clause-footprints_of_a_call
returns-clause-footprints_of_a_call c = refl

pub returns-clause-call : goal.returns-clause-call
returns-clause-call c = refl

pub returns-clause-turned_product : goal.returns-clause-turned_product
returns-clause-turned_product c = refl

pub returns-clause-erased : goal.returns-clause-erased
returns-clause-erased c = refl

pub returns-clause-origin : goal.returns-clause-origin
returns-clause-origin c = refl

pub returns-clause-nothing_selected : goal.returns-clause-nothing_selected
returns-clause-nothing_selected c = refl

pub returns-clause-written_in_call : goal.returns-clause-written_in_call
returns-clause-written_in_call c = refl

pub returns-clause-outer_product : goal.returns-clause-outer_product
returns-clause-outer_product c = refl

pub returns-clause-text : goal.returns-clause-text
returns-clause-text c = refl

pub returns-clause-table : goal.returns-clause-table
returns-clause-table c = refl
