use Rattle.std.proofs.Common.{◌+ℤ◌, rules}
use mir.Val.{SFits}
use mir.Syntax.{w128}
use Rattle.beating.proofs.CombineLemmas.{base_is, right_rests, left_numbers, left_combines, right_numbers, right_combines, sum_turned}
use Rattle.beating.proofs.combining.sum.Goals as goal

pub shifted-requires-clause-in_range : goal.shifted-requires-clause-in_range
shifted-requires-clause-in_range c =
    let s : SFits w128 c.left.inside.base = search rules in
    left_numbers ◌+ℤ◌ sum_turned c.args.left.now c.args.right.now _ c.requires (c.is_constant.ensures.0 c.if-is_constant.true)
    (base_is c.args.left.now c.left.inside.base _ _ s c.left.view_is)

pub shifted-requires-else-is_constant-clause-in_range :
    goal.shifted-requires-else-is_constant-clause-in_range
shifted-requires-else-is_constant-clause-in_range c =
    let s : SFits w128 c.right.inside.base = search rules in
    right_numbers ◌+ℤ◌ sum_turned c.args.left.now c.args.right.now _ c.requires
    (right_rests ◌+ℤ◌ c.args.left.now c.args.right.now _ c.requires c.is_constant.ensures c.if-is_constant.false)
    (base_is c.args.right.now c.right.inside.base _ _ s c.right.view_is)

pub returns-then-is_constant : goal.returns-then-is_constant
returns-then-is_constant c =
    let s : SFits w128 c.left.inside.base = search rules in
    left_combines ◌+ℤ◌ sum_turned c.args.left.now c.args.right.now _ _ c.requires (c.is_constant.ensures.0 c.if-is_constant.true)
    (base_is c.args.left.now c.left.inside.base _ _ s c.left.view_is) c.shifted.ensures.lawful c.shifted.ensures.shape c.shifted.ensures.numbers

pub returns-else-is_constant : goal.returns-else-is_constant
returns-else-is_constant c =
    let s : SFits w128 c.right.inside.base = search rules in
    right_combines ◌+ℤ◌ sum_turned c.args.left.now c.args.right.now _ _ c.requires
    (right_rests ◌+ℤ◌ c.args.left.now c.args.right.now _ c.requires c.is_constant.ensures c.if-is_constant.false)
    (base_is c.args.right.now c.right.inside.base _ _ s c.right.view_is)
    c.shifted-else-is_constant.ensures.lawful c.shifted-else-is_constant.ensures.shape c.shifted-else-is_constant.ensures.numbers
