use Rattle.apl_model.proofs.Mapped.{look_up_is_mapped, set_name_is_mapped, erased_is_mapped, set_names_are_mapped}
use Rattle.apl_model.proofs.environments.variables_are_mapped.Goals as goal

pub returns-clause-look_up : goal.returns-clause-look_up
returns-clause-look_up g c = look_up_is_mapped _ _

pub returns-clause-set_name : goal.returns-clause-set_name
returns-clause-set_name g c = set_name_is_mapped _ _

pub returns-clause-erased : goal.returns-clause-erased
returns-clause-erased g c = erased_is_mapped _ _

pub returns-clause-set_names : goal.returns-clause-set_names
returns-clause-set_names g c = set_names_are_mapped _ _
