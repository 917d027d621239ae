use Rattle.std.proofs.Common.{sym, length, get_or, pos, arith, rules, to_z-of_z, FitsSigned}
use Rattle.std.specs.Int.{w128}
use Rattle.std.specs.Ordering.{int_eq}
use Rattle.std.proofs.lemmas.Int.{ints}
use Rattle.std.proofs.lemmas.Bool.Decides.{Decides-int_eq}
use Rattle.std.proofs.lemmas.List.Sums.{position_or_len_is}
use Rattle.value_fns.proofs.searches.place_among.Goals as goal

pub returns-then-wanted-cell : goal.returns-then-wanted-cell
returns-then-wanted-cell c =
    let f : FitsSigned w128 c.args.wanted = c.ranges.wanted in
    let before = simp to_z-of_z at c.loop-place.invariant in
    sym (position_or_len_is (int_eq c.args.wanted) c.args.cells.now c.loop-place.place (pos 0) (omega arith) before (λ below. (Decides-int_eq c.args.wanted (get_or c.args.cells.now c.loop-place.place (pos 0))).1 (let g : FitsSigned w128 (get_or c.args.cells.now c.loop-place.place (pos 0)) = search rules in omega (arith, ints))))

pub returns : goal.returns
returns c =
    let f : FitsSigned w128 c.args.wanted = c.ranges.wanted in
    let before = simp to_z-of_z at c.loop-place.invariant in
    sym (position_or_len_is (int_eq c.args.wanted) c.args.cells.now (length c.args.cells.now) (pos 0) (omega arith) (λ k h. before k (omega arith)) (λ below. absurd (omega arith)))
