use Rattle.std.proofs.Common.{◌≡◌, ◌∙◌, pos, get_or, ap, arith, rules, FitsSigned}
use Rattle.std.specs.Int.{w128}
use Rattle.std.specs.Ordering.{int_eq}
use Rattle.std.proofs.lemmas.Int.{ints}
use Rattle.std.proofs.lemmas.Bool.Decides.{Decides-int_eq}
use Rattle.apl_base.specs.Array.{Array, size_of}
use Rattle.apl_base.proofs.Elements.{tabulated-count}
use Rattle.array_desc.specs.Desc.{DescView}
use Rattle.drag_along.specs.Meaning.{leaf_cell}
use Rattle.leaf_names.specs.Variables.{array_of}
use Rattle.value_fns.proofs.Encoded.{any_false, any_true}
use Rattle.value_fns.proofs.Decoding.{same_array}
use Rattle.value_fns.proofs.encodes.has_zero.Goals as goal

pub returns-then-cell_at-eq0-clause-value : goal.returns-then-cell_at-eq0-clause-value
returns-then-cell_at-eq0-clause-value c =
    let s = c.args.store.now in
    let a = array_of s c.args.leaf.now in
    let size = c.size-place-end.ensures.value ∙ ap (λ (d : DescView). size_of d.shape) c.desc.ensures in
    let many = tabulated-count a.kind a.shape (leaf_cell s c.args.leaf.now) in
    let fits : FitsSigned w128 c.cell_at.result = search rules in
    let zero_cell : pos 0 ≡ c.cell_at.result = omega (arith, ints, c.if-cell_at-eq0.true) in
    let cell : c.cell_at.result ≡ get_or a.cells c.loop-place.place (pos 0) = c.cell_at.ensures.cell ∙ ap (λ (x : Array). get_or x.cells c.loop-place.place (pos 0)) (same_array s c.loop-place.store c.args.leaf.now _ c.loop-place.invariant.counted) in
    any_true (int_eq (pos 0)) a.cells c.loop-place.place (omega (arith, c.loop-place-test.true, size, many)) ((Decides-int_eq (pos 0) (get_or a.cells c.loop-place.place (pos 0))).1 (zero_cell ∙ cell))

pub returns-clause-value : goal.returns-clause-value
returns-clause-value c =
    let s = c.args.store.now in
    let a = array_of s c.args.leaf.now in
    let size = c.size-place-end.ensures.value ∙ ap (λ (d : DescView). size_of d.shape) c.desc.ensures in
    let many = tabulated-count a.kind a.shape (leaf_cell s c.args.leaf.now) in
    any_false (int_eq (pos 0)) a.cells c.loop-place.place (omega (arith, size, many, c.loop-place-test.false)) c.loop-place.invariant.none
