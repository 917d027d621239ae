use Rattle.std.proofs.Common.{sym, ap, ◌∙◌}
use Rattle.apl_model.specs.Environment.{declares}
use Rattle.name_table.proofs.TableLemmas.{declares-table}
use Rattle.name_table.proofs.scopes.Scope.declares.Goals as goal

pub returns : goal.returns
returns c =
    let name = c.args.name.now in
    c.contains_key.ensures
    ∙ sym (declares-table c.as_str.result.now name c.as_str.utf8 c.as_str.ensures.characters c.self.inside.table.entries c.self.invariant.texts)
    ∙ ap (λ bs. declares bs name) c.self.view_is
