use Rattle.apl_compile.proofs.ProgramLemmas.{program_does}
use Rattle.apl_compile.proofs.laws.programs_do.Goals as goal

pub returns : goal.returns
returns g c = program_does g.row.S.Denot g.row.V.Denot
