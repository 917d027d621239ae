use Rattle.std.proofs.Common.{◌∙◌, ◌*◌, sym, ap, length, arith}
use Rattle.apl_base.specs.Array.{IsArray}
use Rattle.array_store.proofs.CountingLemmas.{OnlyFetched-then, OnlyFetched-more}
use Rattle.apl_model_laws.proofs.Forms.{reshape-gives}
use Rattle.leaf_names.specs.Variables.{array_of}
use Rattle.made_leaf.proofs.MadeLemmas.{leaf_is_array, counted_room}
use Rattle.made_fns.specs.Answers.{elements_in, reshaped_array}
use Rattle.made_fns.proofs.Finish.{room_ends, memory_ends, leaf_ends, array_lawful, cells_lawful, same_array}
use Rattle.made_fns.proofs.ReshapeLemmas.{length-reshaped, repeated_are}
use Rattle.made_fns.proofs.reshapes.reshape.Goals as goal

pub returns-in_err-cells-clause-made : goal.returns-in_err-cells-clause-made
returns-in_err-cells-clause-made c =
    let many = length-reshaped (array_of c.args.store.now c.args.a.now) (array_of c.args.store.now c.args.b.now) _ c.in_ok-shape.ensures.shape.0 ∙ sym c.size-size.ensures.value in
    room_ends c.args.store.now _ _ _ _ _ _ _ c.from_residual-in_err-cells.ensures.1 c.in_ok-shape.ensures.array many (OnlyFetched-more c.args.store.now c.new_shape.new.store (3 * elements_in c.args.a.now) _ (omega arith) c.in_ok-shape.ensures.counted) c.in_err-cells.ensures.refused

pub make_leaf-requires-clause-count : goal.make_leaf-requires-clause-count
make_leaf-requires-clause-count c =
    let are = repeated_are c.args.store.now _ c.args.a.now c.args.b.now _ _ _ c.in_ok-shape.ensures.counted.only c.size-size.ensures.value c.in_ok-shape.ensures.shape.0 c.repeat.ensures.cells in
    ap length are ∙ length-reshaped (array_of c.args.store.now c.args.a.now) (array_of c.args.store.now c.args.b.now) _ c.in_ok-shape.ensures.shape.0

pub make_leaf-requires-clause-lawful : goal.make_leaf-requires-clause-lawful
make_leaf-requires-clause-lawful c =
    let s = c.args.store.now in
    let are = repeated_are s _ c.args.a.now c.args.b.now _ _ _ c.in_ok-shape.ensures.counted.only c.size-size.ensures.value c.in_ok-shape.ensures.shape.0 c.repeat.ensures.cells in
    let y : IsArray (array_of s c.args.b.now) = leaf_is_array s c.args.b.now c.counts-counts.ensures.store c.in_ok-shape.ensures.shape.1 c.requires.b in
    cells_lawful (reshaped_array (array_of s c.args.a.now) (array_of s c.args.b.now)) _ _ (array_lawful _ _ (reshape-gives (array_of s c.args.a.now) (array_of s c.args.b.now) y) c.in_ok-shape.ensures.array) c.kind.ensures are

pub returns-in_err-make_leaf-clause-made : goal.returns-in_err-make_leaf-clause-made
returns-in_err-make_leaf-clause-made c =
    let many = length-reshaped (array_of c.args.store.now c.args.a.now) (array_of c.args.store.now c.args.b.now) _ c.in_ok-shape.ensures.shape.0 ∙ sym c.size-size.ensures.value in
    memory_ends c.args.store.now _ _ _ _ _ c.size-size.result _ c.from_residual-in_err-make_leaf.ensures.1 c.in_ok-shape.ensures.array many (counted_room c.args.store.now _ _ c.in_ok-shape.ensures.counted.only c.in_ok-cells.ensures.within)
    (OnlyFetched-then _ _ _ _ _ c.in_ok-shape.ensures.counted c.repeat.ensures.counted) c.in_err-make_leaf.ensures.unchanged

pub returns-clause-made : goal.returns-clause-made
returns-clause-made c =
    let are = repeated_are c.args.store.now _ c.args.a.now c.args.b.now _ _ _ c.in_ok-shape.ensures.counted.only c.size-size.ensures.value c.in_ok-shape.ensures.shape.0 c.repeat.ensures.cells in
    leaf_ends c.args.store.now _ _ _ _ _ _ _ c.in_ok-shape.ensures.array (same_array c.kind.ensures c.in_ok-shape.ensures.shape.0 are) (OnlyFetched-then _ _ _ _ _ c.in_ok-shape.ensures.counted c.repeat.ensures.counted) c.in_ok-make_leaf.ensures.made
