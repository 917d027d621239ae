use Rattle.std.proofs.Common.{◌≡◌, ◌∙◌, ◌∷◌, [], ℕ, ap, sym, length, vec_len, arith, rules}
use Rattle.array_store.proofs.CountingLemmas.{OnlyFetched-none, OnlyFetched-then}
use Rattle.apl_base.specs.Array.{IsArray}
use Rattle.leaf_names.specs.Variables.{array_of}
use Rattle.made_leaf.proofs.MadeLemmas.{leaf_is_array}
use Rattle.apl_model_laws.proofs.Forms.{catenate-gives}
use Rattle.made_fns.specs.Answers.{joined_array}
use Rattle.made_fns.proofs.Finish.{error_ends, room_ends, memory_ends, leaf_ends, array_lawful, cells_lawful, same_array}
use Rattle.made_fns.proofs.Lengths.{length-array_of, size_of-vector, appended}
use Rattle.made_fns.proofs.JoinLemmas.{length-joined, joined_are}
use Rattle.made_fns.proofs.joins.catenate.Goals as goal

pub returns-in_err-size-clause-made : goal.returns-in_err-size-clause-made
returns-in_err-size-clause-made c =
    error_ends c.args.store.now _ _ _ _ _ c.from_residual.ensures.1 (c.in_err-size.ensures.refused c.args.store.now) (OnlyFetched-none c.args.store.now _)

pub returns-in_err-cells-clause-made : goal.returns-in_err-cells-clause-made
returns-in_err-cells-clause-made c =
    let many = length-joined c.args.store.now c.args.a.now c.args.b.now ∙ sym c.in_ok-size.ensures.size in
    room_ends c.args.store.now _ _ _ _ _ _ _ c.from_residual-in_err-cells.ensures.1 (c.in_ok-size.ensures.array c.args.store.now) many (OnlyFetched-none c.args.store.now _) c.in_err-cells.ensures.refused

pub read_all-requires-2-clause-room : goal.read_all-requires-2-clause-room
read_all-requires-2-clause-room c =
    let after : length c.read_all.new.into.items ≡ vec_len c.read_all.new.into = search rules in
    omega (arith, after, ap length (appended c.in_ok-cells.ensures.empty c.read_all.ensures.cells), length-array_of c.args.store.now c.args.a.now, c.in_ok-cells.ensures.room, c.in_ok-size.ensures.size, c.read_all.ensures.capacity)

pub make_leaf-requires-clause-count : goal.make_leaf-requires-clause-count
make_leaf-requires-clause-count c =
    let are = joined_are c.args.store.now _ c.args.a.now c.args.b.now _ _ _ c.read_all.ensures.counted.only c.in_ok-cells.ensures.empty c.read_all.ensures.cells c.read_all-2.ensures.cells in
    ap length are ∙ length-joined c.args.store.now c.args.a.now c.args.b.now ∙ sym c.in_ok-size.ensures.size ∙ sym (size_of-vector _ _ c.vector_shape-shape.ensures)

pub make_leaf-requires-clause-lawful : goal.make_leaf-requires-clause-lawful
make_leaf-requires-clause-lawful c =
    let are = joined_are c.args.store.now _ c.args.a.now c.args.b.now _ _ _ c.read_all.ensures.counted.only c.in_ok-cells.ensures.empty c.read_all.ensures.cells c.read_all-2.ensures.cells in
    let s = c.args.store.now in
    let x : IsArray (array_of s c.args.a.now) = leaf_is_array s c.args.a.now c.counts-counts.ensures.store c.in_ok-size.ensures.lawful.0 c.requires.a in
    let y : IsArray (array_of s c.args.b.now) = leaf_is_array s c.args.b.now c.counts-counts.ensures.store c.in_ok-size.ensures.lawful.1 c.requires.b in
    cells_lawful (joined_array c.args.store.now c.args.a.now c.args.b.now) _ _ (array_lawful _ _ (catenate-gives _ _ x y) (c.in_ok-size.ensures.array s)) (c.kind_of_both.ensures c.args.store.now) are

pub returns-in_err-make_leaf-clause-made : goal.returns-in_err-make_leaf-clause-made
returns-in_err-make_leaf-clause-made c =
    let many = length-joined c.args.store.now c.args.a.now c.args.b.now ∙ sym c.in_ok-size.ensures.size in
    memory_ends c.args.store.now _ _ _ _ _ c.in_ok-size.size _ c.from_residual-in_err-make_leaf.ensures.1 (c.in_ok-size.ensures.array c.args.store.now) many c.in_ok-cells.ensures.within
    (OnlyFetched-then _ _ _ _ _ c.read_all.ensures.counted c.read_all-2.ensures.counted) c.in_err-make_leaf.ensures.unchanged

pub returns-clause-made : goal.returns-clause-made
returns-clause-made c =
    let are = joined_are c.args.store.now _ c.args.a.now c.args.b.now _ _ _ c.read_all.ensures.counted.only c.in_ok-cells.ensures.empty c.read_all.ensures.cells c.read_all-2.ensures.cells in
    leaf_ends c.args.store.now _ _ _ _ _ _ _ (c.in_ok-size.ensures.array c.args.store.now) (same_array (c.kind_of_both.ensures c.args.store.now) (c.vector_shape-shape.ensures ∙ ap (λ (n : ℕ). n ∷ []) (c.in_ok-size.ensures.size ∙ sym (length-joined c.args.store.now c.args.a.now c.args.b.now))) are) (OnlyFetched-then _ _ _ _ _ c.read_all.ensures.counted c.read_all-2.ensures.counted) c.in_ok-make_leaf.ensures.made
