use Rattle.std.proofs.Common.{◌≡◌, true, false, Option, Some, None, IsSome, sym, ◌∙◌}
use Rattle.drag_along.specs.declared.leaves.Leaf.{Leaf}
use Rattle.apl_model.specs.Environment.{look_up}
use Rattle.name_table.proofs.BindingLemmas.{undeclared}
use Rattle.name_table.proofs.PlaceLemmas.{in_frame-found, in_frame-set, global-found}
use Rattle.name_table.proofs.names.Names.put.Goals as goal

pub returns-in-Some-clause-old : goal.returns-in-Some-clause-old
returns-in-Some-clause-old c =
    in_frame-found c.self.inside.globals c.self.inside.frames.items c.as_slice.result.now c.args.self.now c.args.name.now c.self.view_is c.as_slice.ensures.value c.in-Some.at c.in-Some.ensures c.index_mut.result.now
    c.index_mut.ensures.value c.rebind.result c.rebind.ensures.old

pub returns-in-Some-clause-put : goal.returns-in-Some-clause-put
returns-in-Some-clause-put c =
    in_frame-set c.self.inside.globals c.self.inside.frames.items c.as_slice.result.now c.args.self.now c.args.name.now c.self.view_is c.as_slice.ensures.value c.in-Some.at c.in-Some.ensures c.index_mut.result.now
    c.index_mut.ensures.value c.rebind.new.self c.args.leaf c.rebind.ensures.bound

pub returns-then-declares-clause-old : goal.returns-then-declares-clause-old
returns-then-declares-clause-old c =
    global-found c.self.inside.globals c.self.inside.frames.items c.as_slice.result.now c.args.self.now c.args.name.now c.self.view_is c.as_slice.ensures.value c.in_default.ensures
    c.rebind-then-declares.result c.rebind-then-declares.ensures.old

pub returns-in_default-put_new-clause-old : goal.returns-in_default-put_new-clause-old
returns-in_default-put_new-clause-old c =
    global-found c.self.inside.globals c.self.inside.frames.items c.as_slice.result.now c.args.self.now c.args.name.now c.self.view_is c.as_slice.ensures.value c.in_default.ensures
    None (sym (undeclared c.self.inside.globals c.args.name.now (sym c.declares.ensures ∙ c.if-declares.false)))

not_set : (o : Option Leaf) → None ≡ o → IsSome o → false ≡ true
not_set None e some = some
not_set (Some leaf) e some = absurd (cc)

pub returns-clause-known : goal.returns-clause-known
returns-clause-known c =
    not_set (look_up c.args.self.now c.args.name.now)
    (global-found c.self.inside.globals c.self.inside.frames.items c.as_slice.result.now c.args.self.now c.args.name.now c.self.view_is c.as_slice.ensures.value c.in_default.ensures
    None (sym (undeclared c.self.inside.globals c.args.name.now (sym c.declares.ensures ∙ c.if-declares.false))))
