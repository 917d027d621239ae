use Rattle.std.proofs.Common.{length, refl, sym, ap, ◌∙◌}
use Rattle.array_store.proofs.CountingLemmas.{OnlyFetched-none}
use Rattle.made_fns.proofs.Finish.{room_ends, memory_ends}
use Rattle.made_fns.proofs.Lengths.{length-array_of, size_of-vector, appended}
use Rattle.made_fns.proofs.vectors.ravel.Goals as goal

pub returns-in_err-cells-clause-made : goal.returns-in_err-cells-clause-made
returns-in_err-cells-clause-made c =
    let many = length-array_of c.args.store.now c.args.b.now ∙ sym c.elements-size.ensures.value in
    room_ends c.args.store.now _ _ _ _ _ _ _ c.from_residual.ensures.1 refl many (OnlyFetched-none c.args.store.now _) c.in_err-cells.ensures.refused

pub make_leaf-requires-clause-count : goal.make_leaf-requires-clause-count
make_leaf-requires-clause-count c =
    ap length (appended c.in_ok-cells.ensures.empty c.read_all.ensures.cells) ∙ length-array_of c.args.store.now c.args.b.now ∙ sym c.elements-size.ensures.value ∙ sym (size_of-vector _ _ c.vector_shape-shape.ensures)

pub returns-in_err-make_leaf-clause-made : goal.returns-in_err-make_leaf-clause-made
returns-in_err-make_leaf-clause-made c =
    let many = length-array_of c.args.store.now c.args.b.now ∙ sym c.elements-size.ensures.value in
    memory_ends c.args.store.now _ _ _ _ _ c.elements-size.result _ c.from_residual-in_err-make_leaf.ensures.1 refl many c.in_ok-cells.ensures.within c.read_all.ensures.counted c.in_err-make_leaf.ensures.unchanged
