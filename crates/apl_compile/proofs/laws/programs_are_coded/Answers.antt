use Rattle.apl_compile.proofs.CodedLemmas.{routines_are_coded, steps_are_coded, codes_are_in_order}
use Rattle.apl_compile.proofs.laws.programs_are_coded.Goals as goal

pub returns-clause-functions : goal.returns-clause-functions
returns-clause-functions c = λ script. routines_are_coded script.items

pub returns-clause-steps : goal.returns-clause-steps
returns-clause-steps c = λ script. steps_are_coded script.items

pub returns-clause-codes : goal.returns-clause-codes
returns-clause-codes c = λ script. codes_are_in_order script.items
