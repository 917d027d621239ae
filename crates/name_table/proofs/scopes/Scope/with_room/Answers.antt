use Rattle.name_table.proofs.TableLemmas.{table-none}
use Rattle.name_table.proofs.scopes.Scope.with_room.Goals as goal

pub invariant_of-result : goal.invariant_of-result
invariant_of-result c = table-none c.in_ok-table.table.entries c.in_ok-table.ensures.empty

pub returns-clause-names : goal.returns-clause-names
returns-clause-names c = (table-none c.in_ok-table.table.entries c.in_ok-table.ensures.empty).names
