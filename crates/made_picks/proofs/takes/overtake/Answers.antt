use Rattle.std.proofs.Common.{◌∙◌, ◌+◌, length, refl, sym, ap, arith}
use Rattle.apl_base.specs.Array.{IsArray, size_of}
use Rattle.array_store.proofs.CountingLemmas.{OnlyFetched-then, OnlyFetched-more}
use Rattle.leaf_names.specs.Variables.{array_of}
use Rattle.apl_model_laws.proofs.Forms.{take-gives}
use Rattle.made_leaf.proofs.MadeLemmas.{leaf_is_array, counted_room}
use Rattle.made_fns.specs.Answers.{elements_in}
use Rattle.made_fns.proofs.Finish.{room_ends, memory_ends, leaf_ends, array_lawful, cells_lawful, same_array}
use Rattle.made_picks.specs.Taken.{taken_array}
use Rattle.made_picks.proofs.TakeLemmas.{length-taken, taken_same}
use Rattle.made_picks.proofs.takes.overtake.Goals as goal

pub returns-in_err-cells-clause-made : goal.returns-in_err-cells-clause-made
returns-in_err-cells-clause-made c =
    let s = c.args.store.now in
    let many = length-taken (array_of s c.args.a.now) (array_of s c.args.b.now) c.in_ok-shape.shape c.in_ok-shape.ensures.shape ∙ sym c.size-size.ensures.value in
    room_ends s _ _ _ _ _ _ _ c.from_residual-in_err-cells.ensures.1 c.in_ok-shape.ensures.array many (OnlyFetched-more s c.taken_shape.new.store (elements_in c.args.a.now) _ (omega arith) c.in_ok-shape.ensures.counted) c.in_err-cells.ensures.refused

pub returns-in_err-fill_taken-clause-made : goal.returns-in_err-fill_taken-clause-made
returns-in_err-fill_taken-clause-made c =
    let s = c.args.store.now in
    let many = length-taken (array_of s c.args.a.now) (array_of s c.args.b.now) c.in_ok-shape.shape c.in_ok-shape.ensures.shape ∙ sym c.size-size.ensures.value in
    let size = c.size-size.ensures.value ∙ ap size_of c.in_ok-shape.ensures.shape in
    memory_ends s _ _ _ _ _ c.size-size.result _ c.from_residual-in_err-fill_taken.ensures.1 c.in_ok-shape.ensures.array many (counted_room s _ _ c.in_ok-shape.ensures.counted.only c.in_ok-cells.ensures.within)
    (OnlyFetched-more s c.fill_taken.new.store (elements_in c.args.a.now + (elements_in c.args.a.now + c.size-size.result)) _ (omega (arith, size)) (OnlyFetched-then _ _ _ _ _ c.in_ok-shape.ensures.counted c.fill_taken.ensures.counted)) refl

pub make_leaf-requires-clause-count : goal.make_leaf-requires-clause-count
make_leaf-requires-clause-count c =
    let s = c.args.store.now in
    let are = taken_same s c.taken_shape.new.store c.args.a.now c.args.b.now c.fill_taken.new.cells.items c.in_ok-shape.ensures.counted.only c.in_ok-fill_taken.ensures.cells in
    ap length are ∙ length-taken (array_of s c.args.a.now) (array_of s c.args.b.now) c.in_ok-shape.shape c.in_ok-shape.ensures.shape

pub make_leaf-requires-clause-lawful : goal.make_leaf-requires-clause-lawful
make_leaf-requires-clause-lawful c =
    let s = c.args.store.now in
    let are = taken_same s c.taken_shape.new.store c.args.a.now c.args.b.now c.fill_taken.new.cells.items c.in_ok-shape.ensures.counted.only c.in_ok-fill_taken.ensures.cells in
    let b : IsArray (array_of s c.args.b.now) = leaf_is_array s c.args.b.now c.counts-counts.ensures.store c.in_ok-shape.ensures.lawful c.requires.b in
    cells_lawful (taken_array (array_of s c.args.a.now) (array_of s c.args.b.now)) _ _ (array_lawful _ _ (take-gives (array_of s c.args.a.now) (array_of s c.args.b.now) b) c.in_ok-shape.ensures.array) c.kind.ensures are

pub returns-in_err-make_leaf-clause-made : goal.returns-in_err-make_leaf-clause-made
returns-in_err-make_leaf-clause-made c =
    let s = c.args.store.now in
    let many = length-taken (array_of s c.args.a.now) (array_of s c.args.b.now) c.in_ok-shape.shape c.in_ok-shape.ensures.shape ∙ sym c.size-size.ensures.value in
    let size = c.size-size.ensures.value ∙ ap size_of c.in_ok-shape.ensures.shape in
    memory_ends s _ _ _ _ _ c.size-size.result _ c.from_residual-in_err-make_leaf.ensures.1 c.in_ok-shape.ensures.array many (counted_room s _ _ c.in_ok-shape.ensures.counted.only c.in_ok-cells.ensures.within)
    (OnlyFetched-more s c.fill_taken.new.store (elements_in c.args.a.now + (elements_in c.args.a.now + c.size-size.result)) _ (omega (arith, size)) (OnlyFetched-then _ _ _ _ _ c.in_ok-shape.ensures.counted c.fill_taken.ensures.counted)) c.in_err-make_leaf.ensures.unchanged

pub returns-clause-made : goal.returns-clause-made
returns-clause-made c =
    let s = c.args.store.now in
    let are = taken_same s c.taken_shape.new.store c.args.a.now c.args.b.now c.fill_taken.new.cells.items c.in_ok-shape.ensures.counted.only c.in_ok-fill_taken.ensures.cells in
    let size = c.size-size.ensures.value ∙ ap size_of c.in_ok-shape.ensures.shape in
    leaf_ends s _ _ _ _ _ _ _ c.in_ok-shape.ensures.array (same_array c.kind.ensures c.in_ok-shape.ensures.shape are)
    (OnlyFetched-more s c.fill_taken.new.store (elements_in c.args.a.now + (elements_in c.args.a.now + c.size-size.result)) _ (omega (arith, size)) (OnlyFetched-then _ _ _ _ _ c.in_ok-shape.ensures.counted c.fill_taken.ensures.counted)) c.in_ok-make_leaf.ensures.made
