use Rattle.std.proofs.Common.{◌≡◌, ◌+◌, ◌-◌, ℤ, pos, ◌+ℤ◌, ◌*ℤ◌, get_or, ap, subst, ◌∙◌, arith, rules}
use Rattle.std.specs.Prelude.{slice_set}
use Rattle.std.specs.Int.{int_wrap}
use Rattle.std.proofs.lemmas.Int.{to_z-of_z}
use mir.Val.{SFits, to_z, of_z}
use mir.Syntax.{w128}
use Rattle.array_desc.specs.Rows.{Carries}
use Rattle.array_desc.proofs.Walks.{cell_is}
use Rattle.apl_base.proofs.Sizes.{IsIndex-length}
use Rattle.array_desc.proofs.CarryLemmas.{carry_begins, carry_round, carry_stops, carry_ends, carry_below}
use Rattle.array_desc.proofs.rows.carried.Goals as goal

pub loop-axis-init : goal.loop-axis-init
loop-axis-init c =
    let f : SFits w128 c.args.start = search rules in
    let g : SFits w128 (to_z w128 (of_z w128 c.args.start)) = rw (to_z-of_z w128 c.args.start f) f in
    carry_begins c.args.strides.now c.args.lengths.now c.args.index.now _ g c.requires.axes c.requires.index

pub bounds-index-axis : goal.bounds-index-axis
bounds-index-axis c = let l = IsIndex-length c.args.lengths.now c.args.index.now c.requires.index in let i = c.loop-axis.auto.index in omega (arith, l)

pub overflow_add-i : goal.overflow_add-i
overflow_add-i c =
    let h = carry_below c.args.strides.now c.args.lengths.now c.args.index.now c.loop-axis.index c.loop-axis.axis _ _ c.loop-axis-test.true c.requires.index c.loop-axis.invariant in
    let t = c.type_inv.lengths (c.loop-axis.axis - 1) in
    omega (arith, h, t)

pub bounds-index-axis-then-i-lengths : goal.bounds-index-axis-then-i-lengths
bounds-index-axis-then-i-lengths c = let l = IsIndex-length c.args.lengths.now c.args.index.now c.requires.index in omega (arith, l)

pub bounds-index-axis-in-loop-axis : goal.bounds-index-axis-in-loop-axis
bounds-index-axis-in-loop-axis c = let l = IsIndex-length c.args.lengths.now c.args.index.now c.requires.index in omega (arith, l)

pub returns-then-i-lengths : goal.returns-then-i-lengths
returns-then-i-lengths c =
    let f : SFits w128 c.args.start = search rules in
    let s : SFits w128 (get_or c.args.strides.now (c.loop-axis.axis - 1) (pos 0)) = search rules in
    let P : ℤ → Type 0 = λ z. Carries c.args.strides.now c.args.lengths.now c.args.index.now (slice_set c.loop-axis.index (c.loop-axis.axis - 1) (get_or c.loop-axis.index (c.loop-axis.axis - 1) 0 + 1)) z (to_z w128 (of_z w128 c.wrapped_sum.result)) in
    let e = cell_is _ _ c.wrapped_sum.type_inv (c.wrapped_sum.ensures ∙ ap (λ z. int_wrap w128 (to_z w128 c.loop-axis.number-bits +ℤ z)) (to_z-of_z w128 _ s)) in
    subst P (to_z-of_z w128 c.args.start f) (carry_stops c.args.strides.now c.args.lengths.now c.args.index.now c.loop-axis.index c.loop-axis.axis _ _ _ c.loop-axis-test.true c.loop-axis.invariant.here c.requires.axes c.requires.index c.loop-axis.invariant c.if-i-lengths.true e)

pub loop-axis-preserved : goal.loop-axis-preserved
loop-axis-preserved c =
    let s : SFits w128 (get_or c.args.strides.now (c.loop-axis.axis - 1) (pos 0)) = search rules in
    let x = get_or c.loop-axis.index (c.loop-axis.axis - 1) 0 in
    let i : to_z w128 (of_z w128 c.from.result) ≡ pos x = cell_is _ _ c.from.type_inv c.from.ensures in
    let p : to_z w128 (of_z w128 c.wrapped_product.result) ≡ int_wrap w128 (get_or c.args.strides.now (c.loop-axis.axis - 1) (pos 0) *ℤ pos x) =
    cell_is _ _ c.wrapped_product.type_inv (c.wrapped_product.ensures
    ∙ ap (λ z. int_wrap w128 (z *ℤ to_z w128 (of_z w128 c.from.result))) (to_z-of_z w128 _ s)
    ∙ ap (λ z. int_wrap w128 (get_or c.args.strides.now (c.loop-axis.axis - 1) (pos 0) *ℤ z)) i) in
    let a = cell_is _ _ c.wrapped_difference-number.type_inv c.wrapped_difference-number.ensures in
    carry_round c.args.strides.now c.args.lengths.now c.args.index.now c.loop-axis.index c.loop-axis.axis _ _ _ _ c.loop-axis-test.true c.loop-axis.invariant.here c.requires.axes c.requires.index c.loop-axis.invariant (λ b. omega (arith, b, c.if-i-lengths.false)) p a

pub returns : goal.returns
returns c =
    let f : SFits w128 c.args.start = search rules in
    let P : ℤ → Type 0 = λ z. Carries c.args.strides.now c.args.lengths.now c.args.index.now c.loop-axis.index z (to_z w128 c.loop-axis.number-bits) in
    subst P (to_z-of_z w128 c.args.start f) (carry_ends c.args.strides.now c.args.lengths.now c.args.index.now c.loop-axis.index c.loop-axis.axis _ _ (omega arith) c.loop-axis.invariant)
