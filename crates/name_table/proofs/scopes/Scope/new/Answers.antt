use Rattle.name_table.proofs.TableLemmas.{table-none}
use Rattle.name_table.proofs.scopes.Scope.new.Goals as goal

pub invariant_of-result : goal.invariant_of-result
invariant_of-result c = table-none c.new.result.entries c.new.ensures.empty

pub returns-clause-names : goal.returns-clause-names
returns-clause-names c = (table-none c.new.result.entries c.new.ensures.empty).names
