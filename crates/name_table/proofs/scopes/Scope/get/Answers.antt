use Rattle.std.proofs.Common.{sym, ap, ◌∙◌}
use Rattle.std.specs.Option.{option_copied}
use Rattle.apl_model.specs.Environment.{bound_in}
use Rattle.name_table.proofs.TableLemmas.{flat, bound_in-table}
use Rattle.name_table.proofs.scopes.Scope.get.Goals as goal

pub returns-in-Some : goal.returns-in-Some
returns-in-Some c =
    let name = c.args.name.now in
    c.as_ref.ensures.value
    ∙ ap flat (sym (ap option_copied c.in-Some.is) ∙ c.get.ensures.value)
    ∙ sym (bound_in-table c.as_str.result.now name c.as_str.utf8 c.as_str.ensures.characters c.self.inside.table.entries c.self.invariant.texts)
    ∙ ap (λ bs. bound_in bs name) c.self.view_is

pub returns-in-None : goal.returns-in-None
returns-in-None c =
    let name = c.args.name.now in
    ap flat (sym (ap option_copied c.in-None.is) ∙ c.get.ensures.value)
    ∙ sym (bound_in-table c.as_str.result.now name c.as_str.utf8 c.as_str.ensures.characters c.self.inside.table.entries c.self.invariant.texts)
    ∙ ap (λ bs. bound_in bs name) c.self.view_is
