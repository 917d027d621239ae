use Rattle.std.proofs.Common.{◌*ℤ◌, rules}
use Rattle.std.proofs.Math.IntN.{*ℤ_comm}
use mir.Val.{SFits}
use mir.Syntax.{w128}
use Rattle.beating.proofs.CombineLemmas.{base_is, right_rests, left_numbers, left_combines, right_numbers, right_combines}
use Rattle.beating.proofs.combining.product.Goals as goal

pub scaled-requires : goal.scaled-requires
scaled-requires c =
    let s : SFits w128 c.left.inside.base = search rules in
    left_numbers ◌*ℤ◌ *ℤ_comm c.args.left.now c.args.right.now _ c.requires (c.is_constant.ensures.0 c.if-is_constant.true)
    (base_is c.args.left.now c.left.inside.base _ _ s c.left.view_is)

pub scaled-requires-else-is_constant : goal.scaled-requires-else-is_constant
scaled-requires-else-is_constant c =
    let s : SFits w128 c.right.inside.base = search rules in
    right_numbers ◌*ℤ◌ *ℤ_comm c.args.left.now c.args.right.now _ c.requires
    (right_rests ◌*ℤ◌ c.args.left.now c.args.right.now _ c.requires c.is_constant.ensures c.if-is_constant.false)
    (base_is c.args.right.now c.right.inside.base _ _ s c.right.view_is)

pub returns-then-is_constant : goal.returns-then-is_constant
returns-then-is_constant c =
    let s : SFits w128 c.left.inside.base = search rules in
    left_combines ◌*ℤ◌ *ℤ_comm c.args.left.now c.args.right.now _ _ c.requires (c.is_constant.ensures.0 c.if-is_constant.true)
    (base_is c.args.left.now c.left.inside.base _ _ s c.left.view_is) c.scaled.ensures.lawful c.scaled.ensures.shape c.scaled.ensures.numbers

pub returns-else-is_constant : goal.returns-else-is_constant
returns-else-is_constant c =
    let s : SFits w128 c.right.inside.base = search rules in
    right_combines ◌*ℤ◌ *ℤ_comm c.args.left.now c.args.right.now _ _ c.requires
    (right_rests ◌*ℤ◌ c.args.left.now c.args.right.now _ c.requires c.is_constant.ensures c.if-is_constant.false)
    (base_is c.args.right.now c.right.inside.base _ _ s c.right.view_is)
    c.scaled-else-is_constant.ensures.lawful c.scaled-else-is_constant.ensures.shape c.scaled-else-is_constant.ensures.numbers
