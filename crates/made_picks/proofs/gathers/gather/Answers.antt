use mir.Syntax.{w128}
use Rattle.std.proofs.Common.{◌∙◌, ◌+◌, length, refl, sym, ap, arith}
use Rattle.std.proofs.lemmas.Int.{to_z-of_z}
use Rattle.apl_base.specs.Array.{IsArray, size_of}
use Rattle.apl_base.specs.Elements.{gathered}
use Rattle.array_store.proofs.CountingLemmas.{OnlyFetched-then, OnlyFetched-more}
use Rattle.drag_along.specs.Nodes.{leaf_shape}
use Rattle.leaf_names.specs.Variables.{array_of}
use Rattle.apl_model.specs.Subscript.{positions_index}
use Rattle.apl_model_laws.proofs.Values.{subscript-gives}
use Rattle.made_leaf.proofs.MadeLemmas.{leaf_is_array, counted_room}
use Rattle.made_fns.proofs.Finish.{room_ends, memory_ends, leaf_ends, array_lawful, cells_lawful, same_array}
use Rattle.made_picks.specs.Picks.{positions_of, elements_named}
use Rattle.made_picks.proofs.GatherLemmas.{length-gathered, gathered_same}
use Rattle.made_picks.proofs.gathers.gather.Goals as goal

pub returns-in_err-cells-clause-made : goal.returns-in_err-cells-clause-made
returns-in_err-cells-clause-made c =
    let s = c.args.store.now in
    let is = rw (to_z-of_z w128 c.args.origin c.ranges.origin) at c.in_ok-made.ensures.array in
    let many = length-gathered c.in_ok-made.made (positions_index c.args.origin (leaf_shape c.args.b.now) (positions_of s c.args.positions.now)) (array_of s c.args.b.now) ∙ sym c.size-size.ensures.value in
    room_ends s _ _ _ _ _ _ _ c.from_residual-in_err-cells.ensures.1 is many (OnlyFetched-more s c.gathered_shape.new.store (elements_named c.args.positions.now) _ (omega arith) c.in_ok-made.ensures.counted) c.in_err-cells.ensures.refused

pub returns-in_err-fill_gathered-clause-made : goal.returns-in_err-fill_gathered-clause-made
returns-in_err-fill_gathered-clause-made c =
    let s = c.args.store.now in
    let is = rw (to_z-of_z w128 c.args.origin c.ranges.origin) at c.in_ok-made.ensures.array in
    let many = length-gathered c.in_ok-made.made (positions_index c.args.origin (leaf_shape c.args.b.now) (positions_of s c.args.positions.now)) (array_of s c.args.b.now) ∙ sym c.size-size.ensures.value in
    let size = c.size-size.ensures.value ∙ ap size_of c.in_ok-made.ensures.shape in
    memory_ends s _ _ _ _ _ c.size-size.result _ c.from_residual-in_err-fill_gathered.ensures.1 is many (counted_room s _ _ c.in_ok-made.ensures.counted.only c.in_ok-cells.ensures.within)
    (OnlyFetched-more s c.fill_gathered.new.store (elements_named c.args.positions.now + (elements_named c.args.positions.now + c.size-size.result)) _ (omega (arith, size)) (OnlyFetched-then _ _ _ _ _ c.in_ok-made.ensures.counted c.fill_gathered.ensures.counted)) refl

pub make_leaf-requires-clause-count : goal.make_leaf-requires-clause-count
make_leaf-requires-clause-count c =
    let s = c.args.store.now in
    let filled = rw (to_z-of_z w128 c.args.origin c.ranges.origin) at c.in_ok-fill_gathered.ensures.cells in
    let are = gathered_same s c.gathered_shape.new.store c.args.b.now c.args.positions.now c.args.origin c.in_ok-made.made c.fill_gathered.new.cells.items c.in_ok-made.ensures.counted.only c.in_ok-made.ensures.shape filled in
    ap length are ∙ length-gathered c.in_ok-made.made (positions_index c.args.origin (leaf_shape c.args.b.now) (positions_of s c.args.positions.now)) (array_of s c.args.b.now)

pub make_leaf-requires-clause-lawful : goal.make_leaf-requires-clause-lawful
make_leaf-requires-clause-lawful c =
    let s = c.args.store.now in
    let is = rw (to_z-of_z w128 c.args.origin c.ranges.origin) at c.in_ok-made.ensures.array in
    let filled = rw (to_z-of_z w128 c.args.origin c.ranges.origin) at c.in_ok-fill_gathered.ensures.cells in
    let are = gathered_same s c.gathered_shape.new.store c.args.b.now c.args.positions.now c.args.origin c.in_ok-made.made c.fill_gathered.new.cells.items c.in_ok-made.ensures.counted.only c.in_ok-made.ensures.shape filled in
    let b : IsArray (array_of s c.args.b.now) = leaf_is_array s c.args.b.now c.counts-counts.ensures.store c.in_ok-made.ensures.lawful c.requires.b in
    cells_lawful (gathered c.in_ok-made.made (positions_index c.args.origin (leaf_shape c.args.b.now) (positions_of s c.args.positions.now)) (array_of s c.args.b.now)) _ _
    (array_lawful _ _ (subscript-gives c.args.origin (array_of s c.args.b.now) (positions_of s c.args.positions.now) b) is) c.kind.ensures are

pub returns-in_err-make_leaf-clause-made : goal.returns-in_err-make_leaf-clause-made
returns-in_err-make_leaf-clause-made c =
    let s = c.args.store.now in
    let is = rw (to_z-of_z w128 c.args.origin c.ranges.origin) at c.in_ok-made.ensures.array in
    let many = length-gathered c.in_ok-made.made (positions_index c.args.origin (leaf_shape c.args.b.now) (positions_of s c.args.positions.now)) (array_of s c.args.b.now) ∙ sym c.size-size.ensures.value in
    let size = c.size-size.ensures.value ∙ ap size_of c.in_ok-made.ensures.shape in
    memory_ends s _ _ _ _ _ c.size-size.result _ c.from_residual-in_err-make_leaf.ensures.1 is many (counted_room s _ _ c.in_ok-made.ensures.counted.only c.in_ok-cells.ensures.within)
    (OnlyFetched-more s c.fill_gathered.new.store (elements_named c.args.positions.now + (elements_named c.args.positions.now + c.size-size.result)) _ (omega (arith, size)) (OnlyFetched-then _ _ _ _ _ c.in_ok-made.ensures.counted c.fill_gathered.ensures.counted)) c.in_err-make_leaf.ensures.unchanged

pub returns-clause-made : goal.returns-clause-made
returns-clause-made c =
    let s = c.args.store.now in
    let is = rw (to_z-of_z w128 c.args.origin c.ranges.origin) at c.in_ok-made.ensures.array in
    let filled = rw (to_z-of_z w128 c.args.origin c.ranges.origin) at c.in_ok-fill_gathered.ensures.cells in
    let are = gathered_same s c.gathered_shape.new.store c.args.b.now c.args.positions.now c.args.origin c.in_ok-made.made c.fill_gathered.new.cells.items c.in_ok-made.ensures.counted.only c.in_ok-made.ensures.shape filled in
    let size = c.size-size.ensures.value ∙ ap size_of c.in_ok-made.ensures.shape in
    leaf_ends s _ _ _ _ _ _ _ is (same_array c.kind.ensures refl are)
    (OnlyFetched-more s c.fill_gathered.new.store (elements_named c.args.positions.now + (elements_named c.args.positions.now + c.size-size.result)) _ (omega (arith, size)) (OnlyFetched-then _ _ _ _ _ c.in_ok-made.ensures.counted c.fill_gathered.ensures.counted)) c.in_ok-make_leaf.ensures.made
