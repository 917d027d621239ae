use Rattle.std.proofs.Common.{arith}
use Rattle.e_machine.proofs.ColumnLemmas.{right_lawful, left_lawful, two_placed}
use Rattle.e_machine.proofs.columns.two_in_place.Goals as goal

pub apply2_column-requires-clause-left : goal.apply2_column-requires-clause-left
apply2_column-requires-clause-left c =
    left_lawful c.args.left_kind c.args.cells.now _ _ c.args.start c.args.count c.split_at_mut-columns.ensures.back c.split_at_mut-right.ensures.back
    (omega (arith, c.split_at_mut-columns.ensures.back_len, c.split_at_mut-right.ensures.back_len, c.requires.last)) c.requires.left

pub apply2_column-requires-clause-right : goal.apply2_column-requires-clause-right
apply2_column-requires-clause-right c =
    right_lawful c.args.right_kind c.args.cells.now _ _ c.args.start c.args.count c.split_at_mut-columns.ensures.back c.split_at_mut-right.ensures.front
    c.split_at_mut-right.ensures.front_len c.requires.right

pub returns-clause-values : goal.returns-clause-values
returns-clause-values c =
    two_placed c.args.f c.args.left_kind c.args.right_kind c.args.cells.now _ _ _ _ _ c.args.start c.args.count _
    c.split_at_mut-columns.ensures.value c.split_at_mut-columns.ensures.front_len c.split_at_mut-columns.ensures.back c.split_at_mut-right.ensures.front c.split_at_mut-right.ensures.back
    c.split_at_mut-right.ensures.front_len c.apply2_column.auto.right c.apply2_column.ensures.values c.apply2_column.ensures.numbers
