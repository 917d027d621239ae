use Rattle.std.proofs.Common.{is_some, sym, ap, ◌∙◌}
use Rattle.apl_model.specs.Environment.{bound_in, declares}
use Rattle.name_table.proofs.TableLemmas.{flat, bound_in-table, declares-table, found-bound, found-declares}
use Rattle.name_table.proofs.scopes.Scope.find.Goals as goal

pub returns-clause-none : goal.returns-clause-none
returns-clause-none c =
    let name = c.args.name.now in
    found-declares c.get.result _ (sym (
    ap is_some c.get.ensures.value
    ∙ sym (declares-table c.as_str.result.now name c.as_str.utf8 c.as_str.ensures.characters c.self.inside.table.entries c.self.invariant.texts)
    ∙ ap (λ bs. declares bs name) c.self.view_is))

pub returns-clause-bound : goal.returns-clause-bound
returns-clause-bound c =
    let name = c.args.name.now in
    found-bound c.get.result _ (sym (
    ap flat c.get.ensures.value
    ∙ sym (bound_in-table c.as_str.result.now name c.as_str.utf8 c.as_str.ensures.characters c.self.inside.table.entries c.self.invariant.texts)
    ∙ ap (λ bs. bound_in bs name) c.self.view_is))
