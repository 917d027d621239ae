use Rattle.std.proofs.Common.{◌≡◌, ◌∙◌, ◌⊎◌, ◌<◌, ℕ, List, pos, refl, sym, ap, length, subst, arith}
use Rattle.apl_base.specs.Array.{Array, IsArray, size_of}
use Rattle.array_store.proofs.CountingLemmas.{OnlyFetched-none, OnlyFetched-then, OnlyFetched-more}
use Rattle.apl_model_laws.proofs.Forms.{rotated-gives}
use Rattle.leaf_names.specs.Variables.{array_of}
use Rattle.made_leaf.proofs.MadeLemmas.{leaf_is_array}
use Rattle.made_fns.specs.Answers.{rotated_array}
use Rattle.made_fns.proofs.Finish.{error_ends, room_ends, memory_ends, leaf_ends, array_lawful, cells_lawful, same_array}
use Rattle.made_fns.proofs.Lengths.{array_of-counted, length-array_of}
use Rattle.made_fns.proofs.TurnLemmas.{length-rotated, rotated_are, turns_known}
use Rattle.made_fns.proofs.turns.rotate.Goals as goal

pub returns-in_err-along-clause-made : goal.returns-in_err-along-clause-made
returns-in_err-along-clause-made c =
    error_ends c.args.store.now _ _ _ _ _ c.from_residual.ensures.1 (c.in_err-along.ensures.refused c.args.store.now) (OnlyFetched-none c.args.store.now _)

pub returns-in_err-cells-clause-made : goal.returns-in_err-cells-clause-made
returns-in_err-cells-clause-made c =
    let many = length-rotated c.in_ok-along.along (array_of c.args.store.now c.args.a.now) (array_of c.args.store.now c.args.b.now) ∙ sym c.elements-size.ensures.value in
    room_ends c.args.store.now _ _ _ _ _ _ _ c.from_residual-in_err-cells.ensures.1 (c.in_ok-along.ensures.array c.args.store.now) many (OnlyFetched-none c.args.store.now _) c.in_err-cells.ensures.refused

pub returns-in_err-turns-clause-made : goal.returns-in_err-turns-clause-made
returns-in_err-turns-clause-made c =
    let many = length-rotated c.in_ok-along.along (array_of c.args.store.now c.args.a.now) (array_of c.args.store.now c.args.b.now) ∙ sym c.elements-size.ensures.value in
    memory_ends c.args.store.now _ _ _ _ _ c.elements-size.result _ c.from_residual-in_err-turns.ensures.1 (c.in_ok-along.ensures.array c.args.store.now) many c.in_ok-cells.ensures.within
    (OnlyFetched-more _ _ _ _ (omega arith) c.in_err-turns.ensures.counted) refl

pub returns-in_err-items-clause-made : goal.returns-in_err-items-clause-made
returns-in_err-items-clause-made c =
    let many = length-rotated c.in_ok-along.along (array_of c.args.store.now c.args.a.now) (array_of c.args.store.now c.args.b.now) ∙ sym c.elements-size.ensures.value in
    memory_ends c.args.store.now _ _ _ _ _ c.elements-size.result _ c.from_residual-in_err-items.ensures.1 (c.in_ok-along.ensures.array c.args.store.now) many c.in_ok-cells.ensures.within
    (OnlyFetched-then _ _ _ _ _ c.in_ok-turns.ensures.counted c.in_err-items.ensures.counted) refl

pub turn-requires-clause-items : goal.turn-requires-clause-items
turn-requires-clause-items c =
    ap length (c.as_slice-2.ensures.value ∙ c.in_ok-items.ensures.cells) ∙ length-array_of c.read_cells.new.store c.args.b.now ∙ ap size_of (sym c.lengths.ensures)

pub turn-requires-clause-turns : goal.turn-requires-clause-turns
turn-requires-clause-turns c =
    turns_known _ _ c.lengths.result.now c.in_ok-along.along _ (ap length (c.as_slice.ensures.value ∙ c.in_ok-turns.ensures.cells) ∙ length-array_of c.args.store.now c.args.a.now) c.lengths.ensures c.in_ok-along.ensures.fits

pub make_leaf-requires-clause-count : goal.make_leaf-requires-clause-count
make_leaf-requires-clause-count c =
    let s = c.args.store.now in
    let one = c.in_ok-turns.ensures.counted in
    let ts = c.as_slice.ensures.value ∙ c.in_ok-turns.ensures.cells in
    let bs = c.as_slice-2.ensures.value ∙ c.in_ok-items.ensures.cells ∙ ap (λ (x : Array). x.cells) (array_of-counted s _ c.args.b.now one.only) in
    let within = subst (λ (ns : List ℕ). (c.in_ok-along.along < length ns) ⊎ ((length ns ≡ 0) × (c.in_ok-along.along ≡ 0))) (sym c.lengths.ensures) c.in_ok-along.ensures.within in
    let are = rotated_are c.lengths.result.now c.in_ok-along.along (array_of s c.args.a.now) (array_of s c.args.b.now) _ _ _ within c.lengths.ensures (length-array_of s c.args.a.now) (length-array_of s c.args.b.now) c.in_ok-along.ensures.fits ts bs c.turn.ensures.still c.turn.ensures.turned in
    ap length are ∙ length-rotated c.in_ok-along.along (array_of s c.args.a.now) (array_of s c.args.b.now) ∙ ap size_of (sym c.shape.ensures)

pub make_leaf-requires-clause-lawful : goal.make_leaf-requires-clause-lawful
make_leaf-requires-clause-lawful c =
    let s = c.args.store.now in
    let one = c.in_ok-turns.ensures.counted in
    let ts = c.as_slice.ensures.value ∙ c.in_ok-turns.ensures.cells in
    let bs = c.as_slice-2.ensures.value ∙ c.in_ok-items.ensures.cells ∙ ap (λ (x : Array). x.cells) (array_of-counted s _ c.args.b.now one.only) in
    let within = subst (λ (ns : List ℕ). (c.in_ok-along.along < length ns) ⊎ ((length ns ≡ 0) × (c.in_ok-along.along ≡ 0))) (sym c.lengths.ensures) c.in_ok-along.ensures.within in
    let are = rotated_are c.lengths.result.now c.in_ok-along.along (array_of s c.args.a.now) (array_of s c.args.b.now) _ _ _ within c.lengths.ensures (length-array_of s c.args.a.now) (length-array_of s c.args.b.now) c.in_ok-along.ensures.fits ts bs c.turn.ensures.still c.turn.ensures.turned in
    let y : IsArray (array_of s c.args.b.now) = leaf_is_array s c.args.b.now c.counts-counts.ensures.store c.in_ok-along.ensures.lawful c.requires.b in
    cells_lawful (rotated_array c.in_ok-along.along (array_of s c.args.a.now) (array_of s c.args.b.now)) _ _ (array_lawful _ _ (rotated-gives (pos 1) c.args.axis (array_of s c.args.a.now) (array_of s c.args.b.now) y) (c.in_ok-along.ensures.array s)) c.kind.ensures are

pub returns-in_err-make_leaf-clause-made : goal.returns-in_err-make_leaf-clause-made
returns-in_err-make_leaf-clause-made c =
    let many = length-rotated c.in_ok-along.along (array_of c.args.store.now c.args.a.now) (array_of c.args.store.now c.args.b.now) ∙ sym c.elements-size.ensures.value in
    memory_ends c.args.store.now _ _ _ _ _ c.elements-size.result _ c.from_residual-in_err-make_leaf.ensures.1 (c.in_ok-along.ensures.array c.args.store.now) many c.in_ok-cells.ensures.within
    (OnlyFetched-then _ _ _ _ _ c.in_ok-turns.ensures.counted c.in_ok-items.ensures.counted) c.in_err-make_leaf.ensures.unchanged

pub returns-clause-made : goal.returns-clause-made
returns-clause-made c =
    let s = c.args.store.now in
    let one = c.in_ok-turns.ensures.counted in
    let ts = c.as_slice.ensures.value ∙ c.in_ok-turns.ensures.cells in
    let bs = c.as_slice-2.ensures.value ∙ c.in_ok-items.ensures.cells ∙ ap (λ (x : Array). x.cells) (array_of-counted s _ c.args.b.now one.only) in
    let within = subst (λ (ns : List ℕ). (c.in_ok-along.along < length ns) ⊎ ((length ns ≡ 0) × (c.in_ok-along.along ≡ 0))) (sym c.lengths.ensures) c.in_ok-along.ensures.within in
    let are = rotated_are c.lengths.result.now c.in_ok-along.along (array_of s c.args.a.now) (array_of s c.args.b.now) _ _ _ within c.lengths.ensures (length-array_of s c.args.a.now) (length-array_of s c.args.b.now) c.in_ok-along.ensures.fits ts bs c.turn.ensures.still c.turn.ensures.turned in
    leaf_ends s _ _ _ _ _ _ _ (c.in_ok-along.ensures.array s) (same_array c.kind.ensures c.shape.ensures are) (OnlyFetched-then _ _ _ _ _ c.in_ok-turns.ensures.counted c.in_ok-items.ensures.counted) c.in_ok-make_leaf.ensures.made
