use mir.Syntax.{w128}
use Rattle.std.proofs.Common.{◌≡◌, ◌∙◌, ◌-◌, Some, None, length, sym, ap, subst, refl, arith, rules, to_z-of_z, FitsSigned}
use Rattle.std.specs.Prelude.{All, IfSome}
use Rattle.std.specs.Option.{option_copied}
use Rattle.std.proofs.lemmas.Result.{IfOk-weaker, IfErr-weaker}
use Rattle.apl_model.specs.Environment.{look_up}
use Rattle.drag_along.specs.Lawful.{IsLawfulLeaf}
use Rattle.machine_state.specs.declared.machines.Machine.{Machine}
use Rattle.indexing_steps.proofs.OperandLemmas.{positions_lawful}
use Rattle.replacing_steps.proofs.FreeLemmas.{operands_there, shape_found, refused_found, unset_found, counted_keeps, counted_pending}
use Rattle.replacing_steps.proofs.replacing.shape_to_write.Goals as goal

pub returns-in-None-clause-refused : goal.returns-in-None-clause-refused
returns-in-None-clause-refused c =
    let are = operands_there c.args.machine.now c.args.mask.now c.len-end.result (c.len-end.result - 1 - c.count_there.result) c.in_ok-positions.positions.items c.leaf_at-value.result c.requires.lawful.0 c.requires.lawful.1 c.requires.safe c.requires.operands
    c.len-end.ensures.value (ap (λ n. c.len-end.result - 1 - n) c.count_there.ensures) c.in_ok-positions.ensures.positions c.leaf_at-value.ensures.leaf in
    unset_found c.args.machine.now c.args.name.now c.args.mask.now c.leaf_at-value.result c.in_ok-positions.positions.items (sym c.get.ensures ∙ ap option_copied c.in-None.is) are

pub shape_selected-requires-clause-positions : goal.shape_selected-requires-clause-positions
shape_selected-requires-clause-positions c =
    subst (All (λ p. IfSome p (IsLawfulLeaf c.args.machine.now.store))) (sym c.deref.ensures.value)
    (positions_lawful c.args.machine.now.store c.args.mask.now c.args.machine.now.stack c.len-end.result c.in_ok-positions.positions.items c.in_ok-positions.ensures.positions c.requires.lawful.1.desk.entries)

pub returns-clause-keeps : goal.returns-clause-keeps
returns-clause-keeps c = counted_keeps c.args.machine.now _ c.requires.lawful.0 refl refl refl c.shape_selected.ensures.counted c.requires.lawful.1

pub returns-clause-pending : goal.returns-clause-pending
returns-clause-pending c = counted_pending c.args.machine.now (record c.args.machine.now { store = c.shape_selected.new.store }) c.requires.lawful.0 refl c.shape_selected.ensures.counted c.requires.lawful.1

pub returns-clause-shape : goal.returns-clause-shape
returns-clause-shape c =
    let m1 : Machine = record c.args.machine.now { store = c.shape_selected.new.store } in
    let are = operands_there c.args.machine.now c.args.mask.now c.len-end.result (c.len-end.result - 1 - c.count_there.result) c.in_ok-positions.positions.items c.leaf_at-value.result c.requires.lawful.0 c.requires.lawful.1 c.requires.safe c.requires.operands
    c.len-end.ensures.value (ap (λ n. c.len-end.result - 1 - n) c.count_there.ensures) c.in_ok-positions.ensures.positions c.leaf_at-value.ensures.leaf in
    let found : look_up c.args.machine.now.names c.args.name.now ≡ Some c.copy-array.result = sym c.get.ensures ∙ ap option_copied c.in-Some.is ∙ ap (λ l. Some l) (sym c.copy-array.ensures.same) in
    let keeps = counted_keeps c.args.machine.now m1 c.requires.lawful.0 refl refl refl c.shape_selected.ensures.counted c.requires.lawful.1 in
    let pend = counted_pending c.args.machine.now m1 c.requires.lawful.0 refl c.shape_selected.ensures.counted c.requires.lawful.1 in
    let origin_fits : FitsSigned w128 c.args.machine.now.origin = search rules in
    let origin = to_z-of_z {w = w128} {z = c.args.machine.now.origin} origin_fits in
    let can = rw (origin, c.deref.ensures.value) at c.shape_selected.ensures.can in
    IfOk-weaker c.shape_selected.result _ _ (λ ns h. shape_found c.args.machine.now m1 c.args.name.now c.args.mask.now ns c.copy-array.result c.leaf_at-value.result c.in_ok-positions.positions.items c.requires.lawful.0 c.requires.lawful.1 found are h keeps pend) can

pub returns-clause-refused : goal.returns-clause-refused
returns-clause-refused c =
    let m1 : Machine = record c.args.machine.now { store = c.shape_selected.new.store } in
    let are = operands_there c.args.machine.now c.args.mask.now c.len-end.result (c.len-end.result - 1 - c.count_there.result) c.in_ok-positions.positions.items c.leaf_at-value.result c.requires.lawful.0 c.requires.lawful.1 c.requires.safe c.requires.operands
    c.len-end.ensures.value (ap (λ n. c.len-end.result - 1 - n) c.count_there.ensures) c.in_ok-positions.ensures.positions c.leaf_at-value.ensures.leaf in
    let found : look_up c.args.machine.now.names c.args.name.now ≡ Some c.copy-array.result = sym c.get.ensures ∙ ap option_copied c.in-Some.is ∙ ap (λ l. Some l) (sym c.copy-array.ensures.same) in
    let keeps = counted_keeps c.args.machine.now m1 c.requires.lawful.0 refl refl refl c.shape_selected.ensures.counted c.requires.lawful.1 in
    let pend = counted_pending c.args.machine.now m1 c.requires.lawful.0 refl c.shape_selected.ensures.counted c.requires.lawful.1 in
    let origin_fits : FitsSigned w128 c.args.machine.now.origin = search rules in
    let origin = to_z-of_z {w = w128} {z = c.args.machine.now.origin} origin_fits in
    let refused = rw (origin, c.deref.ensures.value) at c.shape_selected.ensures.refused in
    IfErr-weaker c.shape_selected.result _ _ (λ kind h. refused_found c.args.machine.now m1 c.args.name.now c.args.mask.now kind c.copy-array.result c.leaf_at-value.result c.in_ok-positions.positions.items c.requires.lawful.0 c.requires.lawful.1 found are h keeps pend) refused
