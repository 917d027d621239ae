use Rattle.std.proofs.Common.{◌∙◌, ap}
use Rattle.std.specs.Prelude.{reverse}
use Rattle.std.specs.Option.{option_copied}
use Rattle.apl_model.specs.Environment.{Environment, found_in, look_up}
use Rattle.drag_along.specs.declared.leaves.Leaf.{Leaf}
use Rattle.name_table.proofs.PlaceLemmas.{global-found}
use Rattle.name_table.proofs.names.Names.get.Goals as goal

pub returns-in-Some : goal.returns-in-Some
returns-in-Some c =
    let name = c.args.name.now in
    let globals = c.self.inside.globals in
    c.as_ref.ensures.value
    ∙ c.in-Some.ensures globals
    ∙ ap (λ fs. found_in (reverse fs) globals name) c.as_slice.ensures.value
    ∙ ap (λ (e : Environment Leaf). look_up e name) c.self.view_is

pub returns-in-None : goal.returns-in-None
returns-in-None c =
    global-found c.self.inside.globals c.self.inside.frames.items c.as_slice.result.now c.args.self.now c.args.name.now c.self.view_is c.as_slice.ensures.value c.in-None.ensures
    (option_copied c.get.result) c.get.ensures
