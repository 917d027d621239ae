use Rattle.std.proofs.Common.{◌≡◌, ◌≤◌, ℕ, ℤ, pos, ◌-ℤ◌, List, [], ◌∷◌, length, get_or, unsigned_abs, Fits, to_z, of_z, w64, sym, ap, subst, ◌∙◌, arith, rules, length-append}
use Rattle.std.proofs.lemmas.Int.{ints}
use mir.Syntax.{w128}
use lib.Dec.{T}
use lib.Signed.{non_neg}
use Rattle.apl_base.proofs.Integers.{magnitude-is}
use Rattle.selection_choices.proofs.AxisLemmas.{IsAxisAt, axis_at, one_axis_more}
use Rattle.selection_choices.proofs.axes.axes_from.Goals as goal

pub overflow_sub-numbers : goal.overflow_sub-numbers
overflow_sub-numbers c =
    let a : IsAxisAt c.args.origin c.args.numbers.now c.loop-at.at = axis_at c.args.origin c.args.numbers.now c.loop-at.at c.requires.axes (omega (arith, c.requires.count, c.rank-rank.ensures.lawful.rank)) (omega (arith, c.loop-at-test.true, c.requires.count, c.rank-rank.ensures.value)) in
    let least = a.least in
    let most = a.most in
    omega (arith, ints)

pub overflow_cast-numbers : goal.overflow_cast-numbers
overflow_cast-numbers c =
    let number : ℤ = get_or c.args.numbers.now c.loop-at.at (pos 0) in
    let a : IsAxisAt c.args.origin c.args.numbers.now c.loop-at.at = axis_at c.args.origin c.args.numbers.now c.loop-at.at c.requires.axes (omega (arith, c.requires.count, c.rank-rank.ensures.lawful.rank)) (omega (arith, c.loop-at-test.true, c.requires.count, c.rank-rank.ensures.value)) in
    let least = a.least in
    let most = a.most in
    let whole = magnitude-is (get_or c.args.numbers.now c.loop-at.at (pos 0) -ℤ c.args.origin) least in
    let few : unsigned_abs (get_or c.args.numbers.now c.loop-at.at (pos 0) -ℤ c.args.origin) ≤ 8 = omega (arith, ints) in
    let same : to_z w128 (of_z w128 (to_z w128 (of_z w128 (get_or c.args.numbers.now c.loop-at.at (pos 0))) -ℤ to_z w128 (of_z w128 c.args.origin))) ≡ pos (unsigned_abs (get_or c.args.numbers.now c.loop-at.at (pos 0) -ℤ c.args.origin)) = omega (arith, ints) in
    subst (λ (z : ℤ). T (non_neg z) × Fits w64 (unsigned_abs z)) (sym same) (search rules, search rules)

pub loop-at-preserved : goal.loop-at-preserved
loop-at-preserved c =
    let number : ℤ = get_or c.args.numbers.now c.loop-at.at (pos 0) in
    let a : IsAxisAt c.args.origin c.args.numbers.now c.loop-at.at = axis_at c.args.origin c.args.numbers.now c.loop-at.at c.requires.axes (omega (arith, c.requires.count, c.rank-rank.ensures.lawful.rank)) (omega (arith, c.loop-at-test.true, c.requires.count, c.rank-rank.ensures.value)) in
    let least = a.least in
    let most = a.most in
    let value : to_z w128 (of_z w128 (to_z w128 (of_z w128 (get_or c.args.numbers.now c.loop-at.at (pos 0))) -ℤ to_z w128 (of_z w128 c.args.origin))) ≡ get_or c.args.numbers.now c.loop-at.at (pos 0) -ℤ to_z w128 (of_z w128 c.args.origin) = omega (arith, ints) in
    record {
      made =
          c.push_reserved.ensures.items
          ∙ one_axis_more (to_z w128 (of_z w128 c.args.origin)) c.args.numbers.now c.loop-at.at c.loop-at.axes.items _ (omega (arith, c.loop-at-test.true, c.requires.count, c.rank-rank.ensures.value)) c.loop-at.invariant.made (ap unsigned_abs value);
      count = omega (arith, ap (λ (ks : List ℕ). length ks) c.push_reserved.ensures.items, length-append c.loop-at.axes.items (unsigned_abs (to_z w128 (of_z w128 (to_z w128 (of_z w128 (get_or c.args.numbers.now c.loop-at.at (pos 0))) -ℤ to_z w128 (of_z w128 c.args.origin)))) ∷ []), c.loop-at.invariant.count);
      room = c.push_reserved.ensures.capacity ∙ c.loop-at.invariant.room;
    }
