use Rattle.apl_model.proofs.DefinitionRows as definitionrows
use Rattle.apl_model.proofs.ClassRow as classrow
use Rattle.apl_model.proofs.examples.refusals_of_definitions.Goals as goal

pub returns-clause-four_names : goal.returns-clause-four_names
returns-clause-four_names c = definitionrows.four_row

pub returns-clause-double_name : goal.returns-clause-double_name
returns-clause-double_name c = definitionrows.double_row

pub returns-clause-open_definition : goal.returns-clause-open_definition
returns-clause-open_definition c = definitionrows.open_row

pub returns-clause-function_assigned : goal.returns-clause-function_assigned
returns-clause-function_assigned c = classrow.class_row
