use Rattle.std.proofs.Common.{◌∙◌, ℤ, pos, int_lt, ap, arith}
use Rattle.apl_base.specs.Array.{size_of}
use Rattle.apl_base.proofs.Elements.{tabulated-count}
use Rattle.array_desc.specs.Desc.{DescView}
use Rattle.drag_along.specs.Meaning.{leaf_cell}
use Rattle.leaf_names.specs.Variables.{array_of}
use Rattle.value_fns.proofs.Encoded.{any_false}
use Rattle.value_fns.proofs.encodes.has_negative.Goals as goal

pub returns-clause-value : goal.returns-clause-value
returns-clause-value c =
    let s = c.args.store.now in
    let a = array_of s c.args.leaf.now in
    let size = c.size-place-end.ensures.value ∙ ap (λ (d : DescView). size_of d.shape) c.desc.ensures in
    let many = tabulated-count a.kind a.shape (leaf_cell s c.args.leaf.now) in
    any_false ((λ (z : ℤ). int_lt z (pos 0))) a.cells c.loop-place.place (omega (arith, size, many, c.loop-place-test.false)) c.loop-place.invariant.none
