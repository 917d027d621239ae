use Rattle.apl_compile.proofs.LawfulLemmas.{statements_are_lawful, lawful_code_has_operands}
use Rattle.apl_compile.proofs.laws.codes_are_lawful.Goals as goal

pub returns-clause-statements : goal.returns-clause-statements
returns-clause-statements g c = statements_are_lawful

pub returns-clause-operands : goal.returns-clause-operands
returns-clause-operands g c = lawful_code_has_operands g.row.S.Denot g.row.V.Denot
