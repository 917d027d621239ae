use Rattle.std.proofs.Common.{sym, ◌∙◌}
use Rattle.name_table.proofs.BindingLemmas.{undeclared}
use Rattle.name_table.proofs.scopes.Scope.unset.Goals as goal

pub returns-else-declares-clause-old : goal.returns-else-declares-clause-old
returns-else-declares-clause-old c = sym (undeclared c.args.self.now c.args.name.now (sym c.declares.ensures ∙ c.if-declares.false))
