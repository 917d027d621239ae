use Rattle.apl_compile.proofs.ProgramLemmas.{reports_of_outline, one_report, same_lines}
use Rattle.apl_compile.proofs.laws.one_report.Goals as goal

pub returns-clause-outline : goal.returns-clause-outline
returns-clause-outline c = reports_of_outline

pub returns-clause-same : goal.returns-clause-same
returns-clause-same c = one_report

pub returns-clause-lines : goal.returns-clause-lines
returns-clause-lines c = same_lines
