use Rattle.std.proofs.Common.{◌≡◌, ◌∙◌, ◌<◌, ◌≤◌, ◌*◌, ◌+◌, ◌-◌, ◌++◌, to_z-of_z, FitsSigned, ℤ, List, pos, get_or, length, drop, ap, arith, rules}
use Rattle.std.proofs.Math.Nat.{mul-le-mul_right}
use borrow.Rule.Slice.PartMut.{post_of, Post-is}
use Rattle.std.specs.Int.{w128}
use Rattle.value_fns.proofs.Encoding.{table_step, left_step, table_none, left_none, product_before}
use Rattle.value_fns.proofs.Mapped.{mid_on}
use Rattle.value_fns.proofs.digits.fill_table.Goals as goal

pub loop-place-init : goal.loop-place-init
loop-place-init c = record {
  within = omega arith;
  end = c.requires.size;
  table = table_none c.args.bases.now c.args.values.now c.args.into.now;
  left = left_none c.args.bases.now c.args.values.now;
  numbers = c.requires.values;
}

pub loop-place-preserved : goal.loop-place-preserved
loop-place-preserved c =
    let place = c.loop-place.place in
    let count = length c.args.values.now in
    let up : 0 < place = omega arith in
    let low : place ≤ length c.args.bases.now = c.loop-place.invariant.within in
    let product : (place - 1) * count + count ≡ place * count = product_before place count up in
    let base_fits : FitsSigned w128 (get_or c.args.bases.now (place - 1) (pos 0)) = search rules in
    let at = to_z-of_z {w = w128} {z = get_or c.args.bases.now (place - 1) (pos 0)} base_fits in
    let start = c.loop-place.end - count in
    let within : start ≤ length c.loop-place.into = omega (arith, c.loop-place.auto.into, c.requires.size, c.loop-place.invariant.end, mul-le-mul_right count low) in
    let cut : post_of start (c.loop-place.end - start) c.loop-place.into ≡ drop c.loop-place.end c.loop-place.into = Post-is start c.loop-place.end c.loop-place.into (omega arith) in
    record {
      within = omega arith;
      end = omega (arith, product, c.loop-place.invariant.end);
      table = table_step c.args.bases.now c.args.values.now c.loop-place.values c.fill_row.new.row (drop c.loop-place.end c.loop-place.into) _ place _ up low at c.loop-place.invariant.left c.fill_row.ensures.row c.loop-place.invariant.table
          (mid_on start (c.loop-place.end - start) c.loop-place.into c.fill_row.new.row within ∙ ap (λ (xs : List ℤ). c.fill_row.new.row ++ xs) cut);
      left = left_step c.args.bases.now c.args.values.now c.loop-place.values _ place _ up low at c.loop-place.invariant.left c.fill_row.ensures.left;
      numbers = c.fill_row.ensures.numbers;
    }
