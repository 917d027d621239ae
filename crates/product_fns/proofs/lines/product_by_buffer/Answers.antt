use Rattle.std.proofs.Common.{◌∙◌, arith}
use Rattle.product_fns.proofs.LineLemmas.{product_defined, product_undefined}
use Rattle.product_fns.proofs.lines.product_by_buffer.Goals as goal

pub returns-in-Some-clause-exact : goal.returns-in-Some-clause-exact
returns-in-Some-clause-exact c =
    product_undefined c.args.f c.args.g c.args.left_kind c.args.right_kind c.args.left.now c.args.right.now c.copy_from_slice.new.self c.apply2_column.new.right c.apply2_column.result c.in-Some.field-0 c.copy_from_slice.ensures.after
    (omega (arith, c.apply2_column.auto.right, c.copy_from_slice.ensures.len, c.requires.buffer)) c.in-Some.is c.apply2_column.ensures.values

pub returns-clause-exact : goal.returns-clause-exact
returns-clause-exact c =
    c.reduce_numbers.ensures.exact
    ∙ product_defined c.args.f c.args.g c.args.left_kind c.args.right_kind c.args.left.now c.args.right.now c.copy_from_slice.new.self c.apply2_column.new.right c.apply2_column.result c.copy_from_slice.ensures.after
    (omega (arith, c.apply2_column.auto.right, c.copy_from_slice.ensures.len, c.requires.buffer)) c.in_default.is c.apply2_column.ensures.values
