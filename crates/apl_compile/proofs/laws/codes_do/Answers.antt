use Rattle.apl_compile.proofs.ProgramLemmas.{code_does_law, statement_code_does}
use Rattle.apl_compile.proofs.laws.codes_do.Goals as goal

pub returns-clause-expressions : goal.returns-clause-expressions
returns-clause-expressions g c = code_does_law g.row.S.Denot g.row.V.Denot

pub returns-clause-statements : goal.returns-clause-statements
returns-clause-statements g c = statement_code_does g.row.S.Denot g.row.V.Denot
