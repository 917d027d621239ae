use mir.Syntax.{w128}
use Rattle.std.proofs.Common.{◌∙◌, ℤ, pos, ◌+ℤ◌, ◌*ℤ◌, sym, ap, subst, arith}
use Rattle.std.proofs.lemmas.Int.{to_z-of_z}
use Rattle.apl_base.specs.Number.{IsNumber}
use Rattle.made_picks.specs.Picks.{IsReadable, cell_by}
use Rattle.made_picks.proofs.walks.read_listed.Goals as goal

pub less_origin-requires-clause-origin : goal.less_origin-requires-clause-origin
less_origin-requires-clause-origin c = rw (to_z-of_z w128 c.args.origin c.ranges.origin) c.requires.can.counted

pub less_origin-requires-clause-named : goal.less_origin-requires-clause-named
less_origin-requires-clause-named c =
    let value = to_z-of_z w128 c.args.value c.ranges.value in
    let origin = to_z-of_z w128 c.args.origin c.ranges.origin in
    let named = c.requires.can.named 0 (pos 0) (omega arith) in
    rw (value, origin) (c.requires.can.along, c.requires.can.few, named)

pub number_on-number-requires-clause-from : goal.number_on-number-requires-clause-from
number_on-number-requires-clause-from c = rw (to_z-of_z w128 c.args.at c.ranges.at) c.requires.can.number

pub number_on-number-requires-clause-number : goal.number_on-number-requires-clause-number
number_on-number-requires-clause-number c =
    let value = to_z-of_z w128 c.args.value c.ranges.value in
    let origin = to_z-of_z w128 c.args.origin c.ranges.origin in
    let at = to_z-of_z w128 c.args.at c.ranges.at in
    let stride = to_z-of_z w128 c.args.stride c.ranges.stride in
    let place = to_z-of_z w128 c.less_origin.result (record { sfits = c.less_origin.type_inv }) in
    let less = rw (value, origin) at c.less_origin.ensures in
    rw (at, stride, place) (subst (λ (z : ℤ). IsNumber (c.args.at +ℤ (c.args.stride *ℤ z))) (sym less) (c.requires.can.reached 0 (pos 0) (omega arith)).number)

pub read_number-requires : goal.read_number-requires
read_number-requires c =
    let value = to_z-of_z w128 c.args.value c.ranges.value in
    let origin = to_z-of_z w128 c.args.origin c.ranges.origin in
    let at = to_z-of_z w128 c.args.at c.ranges.at in
    let stride = to_z-of_z w128 c.args.stride c.ranges.stride in
    let place = to_z-of_z w128 c.less_origin.result (record { sfits = c.less_origin.type_inv }) in
    let number = to_z-of_z w128 c.number_on-number.result (record { sfits = c.number_on-number.type_inv }) in
    let less = rw (value, origin) at c.less_origin.ensures in
    let is = rw (at, stride, place) at c.number_on-number.ensures in
    rw number (subst (IsReadable c.args.store.now c.args.leaf.now) (sym (is ∙ ap (λ (z : ℤ). c.args.at +ℤ (c.args.stride *ℤ z)) less)) (c.requires.can.reached 0 (pos 0) (omega arith)))

pub returns-clause-value : goal.returns-clause-value
returns-clause-value c =
    let value = to_z-of_z w128 c.args.value c.ranges.value in
    let origin = to_z-of_z w128 c.args.origin c.ranges.origin in
    let at = to_z-of_z w128 c.args.at c.ranges.at in
    let stride = to_z-of_z w128 c.args.stride c.ranges.stride in
    let place = to_z-of_z w128 c.less_origin.result (record { sfits = c.less_origin.type_inv }) in
    let number = to_z-of_z w128 c.number_on-number.result (record { sfits = c.number_on-number.type_inv }) in
    let all = to_z-of_z w128 c.read_number.result (record { sfits = c.read_number.type_inv }) in
    let less = rw (value, origin) at c.less_origin.ensures in
    let is = rw (at, stride, place) at c.number_on-number.ensures in
    let read = rw number at c.read_number.ensures.value in
    all ∙ read ∙ ap (cell_by c.args.store.now c.args.leaf.now) (is ∙ ap (λ (z : ℤ). c.args.at +ℤ (c.args.stride *ℤ z)) less)
