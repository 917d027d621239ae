use mir.Syntax.{w128}
use Rattle.std.proofs.Common.{◌≡◌, ◌∙◌, ◌-◌, ◌<◌, Some, length, sym, ap, subst, refl, arith, rules, to_z-of_z, FitsSigned}
use Rattle.std.specs.Prelude.{All, IfSome}
use Rattle.std.specs.Option.{option_copied}
use Rattle.std.proofs.lemmas.Result.{IfOk-weaker}
use Rattle.array_desc.specs.Desc.{DescView}
use Rattle.apl_model.specs.Environment.{look_up}
use Rattle.drag_along.specs.Lawful.{IsLawfulLeaf}
use Rattle.drag_along.specs.Nodes.{leaf_shape}
use Rattle.indexing_steps.proofs.OperandLemmas.{positions_lawful}
use Rattle.machine_state.specs.declared.machines.Machine.{Machine}
use Rattle.replacing_steps.proofs.FreeLemmas.{operands_there, leaf_at_lawful}
use Rattle.replacing_steps.proofs.PlacedLemmas.{placing, placed, one_leaf}
use Rattle.replacing_steps.proofs.replacing.write_in_place.Goals as goal

pub write_selected-requires-clause-positions : goal.write_selected-requires-clause-positions
write_selected-requires-clause-positions c =
    subst (All (λ p. IfSome p (IsLawfulLeaf c.args.machine.now.store))) (sym c.deref.ensures.value)
    (positions_lawful c.args.machine.now.store c.args.mask.now c.args.machine.now.stack c.len-end.result c.in_ok-positions.positions.items c.in_ok-positions.ensures.positions c.requires.lawful.1.desk.entries)

pub write_selected-requires-clause-value : goal.write_selected-requires-clause-value
write_selected-requires-clause-value c =
    leaf_at_lawful c.args.machine.now.store c.args.machine.now.stack (c.len-end.result - 1 - c.count_there.result) c.leaf_at-value.result
    (omega (arith, c.requires.operands, c.len-end.ensures.value, c.count_there.ensures)) c.requires.lawful.1.desk.entries c.leaf_at-value.ensures.leaf

pub write_selected-requires-clause-can : goal.write_selected-requires-clause-can
write_selected-requires-clause-can c =
    let are = operands_there c.args.machine.now c.args.mask.now c.len-end.result (c.len-end.result - 1 - c.count_there.result) c.in_ok-positions.positions.items c.leaf_at-value.result c.requires.lawful.0 c.requires.lawful.1 c.requires.safe c.requires.operands
    c.len-end.ensures.value (ap (λ n. c.len-end.result - 1 - n) c.count_there.ensures) c.in_ok-positions.ensures.positions c.leaf_at-value.ensures.leaf in
    let w = c.requires.writable in
    let found : look_up c.args.machine.now.names c.args.name.now ≡ Some c.in-Some.array.now = sym c.get.ensures ∙ ap option_copied c.in-Some.is in
    let same = one_leaf c.args.machine.now.names c.args.name.now c.in-Some.array.now w.leaf found w.bound in
    let shape : c.desc-desc.result.now.shape ≡ leaf_shape w.leaf = ap (λ (d : DescView). d.shape) c.desc-desc.ensures ∙ ap leaf_shape same in
    let p = placing c.args.machine.now c.args.name.now c.args.mask.now c.args.selected.now c.args.owner w.leaf c.in_ok-positions.positions.items c.leaf_at-value.result c.requires.lawful.0 c.requires.lawful.1 c.requires.to_write w.bound w.view w.fills are in
    let origin_fits : FitsSigned w128 c.args.machine.now.origin = search rules in
    let origin = to_z-of_z {w = w128} {z = c.args.machine.now.origin} origin_fits in
    rw (origin, c.deref.ensures.value, shape) p.can

pub returns-clause-writes : goal.returns-clause-writes
returns-clause-writes c =
    let m1 : Machine = record c.args.machine.now { store = c.write_selected.new.store } in
    let are = operands_there c.args.machine.now c.args.mask.now c.len-end.result (c.len-end.result - 1 - c.count_there.result) c.in_ok-positions.positions.items c.leaf_at-value.result c.requires.lawful.0 c.requires.lawful.1 c.requires.safe c.requires.operands
    c.len-end.ensures.value (ap (λ n. c.len-end.result - 1 - n) c.count_there.ensures) c.in_ok-positions.ensures.positions c.leaf_at-value.ensures.leaf in
    let w = c.requires.writable in
    let found : look_up c.args.machine.now.names c.args.name.now ≡ Some c.in-Some.array.now = sym c.get.ensures ∙ ap option_copied c.in-Some.is in
    let same = one_leaf c.args.machine.now.names c.args.name.now c.in-Some.array.now w.leaf found w.bound in
    let shape : c.desc-desc.result.now.shape ≡ leaf_shape w.leaf = ap (λ (d : DescView). d.shape) c.desc-desc.ensures ∙ ap leaf_shape same in
    let p = placing c.args.machine.now c.args.name.now c.args.mask.now c.args.selected.now c.args.owner w.leaf c.in_ok-positions.positions.items c.leaf_at-value.result c.requires.lawful.0 c.requires.lawful.1 c.requires.to_write w.bound w.view w.fills are in
    let origin_fits : FitsSigned w128 c.args.machine.now.origin = search rules in
    let origin = to_z-of_z {w = w128} {z = c.args.machine.now.origin} origin_fits in
    let writes = rw (origin, c.deref.ensures.value, shape) at c.write_selected.ensures.written in
    IfOk-weaker c.write_selected.result _ _ (λ _ h. placed c.args.machine.now m1 c.args.name.now c.args.mask.now c.args.selected.now c.args.owner w.leaf c.in_ok-positions.positions.items c.leaf_at-value.result p refl refl refl c.write_selected.ensures.limit
    h w w.bound w.view w.fills c.requires.lawful.0 c.requires.lawful.1) writes
