use Rattle.standing.proofs.StatementLemmas.{statement_has_code, evaluated_by_code}
use Rattle.standing.proofs.statements.statements_have_codes.Goals as goal

pub returns : goal.returns
returns c = record { code = statement_has_code; same = evaluated_by_code }
