use Rattle.std.proofs.Common.{◌≡◌, true, Option, Some, None, is_some, sym, ap, ◌∙◌}
use Rattle.std.specs.Option.{option_copied_mut}
use Rattle.drag_along.specs.declared.leaves.Leaf.{Leaf}
use Rattle.apl_model.specs.Environment.{bound_in, declares}
use Rattle.name_table.proofs.TableLemmas.{flat, bound_in-table, declares-table, rebound, Bound}
use Rattle.name_table.proofs.scopes.Scope.rebind.Goals as goal

none_not_some : (o : Option (Option Leaf)) → is_some o ≡ true → o ≡ None → ⊥
none_not_some (Some x) e n = cc
none_not_some None e n = cc

pub unreachable-requires : goal.unreachable-requires
unreachable-requires c =
    let name = c.args.name.now in
    none_not_some _ (sym (declares-table c.as_str.result.now name c.as_str.utf8 c.as_str.ensures.characters c.self.inside.table.entries c.self.invariant.texts) ∙ ap (λ bs. declares bs name) c.self.view_is ∙ c.requires)
    (sym c.get_mut.ensures.value ∙ ap option_copied_mut c.in_default.is)

bound_anew : (c : goal.After-self-2-1) → Bound c.args.self.now c.args.name.now c.args.bound (c.get_mut.follows.lender c.replace.new.dest).entries
bound_anew c =
    rebound c.as_str.result.now c.args.name.now c.as_str.utf8 c.as_str.ensures.characters c.self.inside.table.entries
    (c.get_mut.follows.lender c.replace.new.dest).entries c.args.self.now c.replace.new.dest c.args.bound c.self.view_is c.self.invariant c.requires (c.get_mut.follows.holds c.replace.new.dest).0 c.replace.ensures.after

pub invariant_of-self : goal.invariant_of-self
invariant_of-self c = (bound_anew c).table

pub returns-clause-bound : goal.returns-clause-bound
returns-clause-bound c = (bound_anew c).bound

pub returns-clause-old : goal.returns-clause-old
returns-clause-old c =
    let name = c.args.name.now in
    c.replace.ensures.value
    ∙ ap flat (sym (ap option_copied_mut c.in-Some.is) ∙ c.get_mut.ensures.value)
    ∙ sym (bound_in-table c.as_str.result.now name c.as_str.utf8 c.as_str.ensures.characters c.self.inside.table.entries c.self.invariant.texts)
    ∙ ap (λ bs. bound_in bs name) c.self.view_is

pub returns-clause-names : goal.returns-clause-names
returns-clause-names c = (bound_anew c).table.names
