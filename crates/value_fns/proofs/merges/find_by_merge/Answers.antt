use Rattle.std.proofs.Common.{ℤ, pos, get_or, refl, arith, rules, FitsSigned}
use Rattle.std.specs.Int.{w128}
use Rattle.std.proofs.lemmas.Int.{ints, to_z-of_z}
use Rattle.apl_model.specs.Made.{counted_from}
use Rattle.value_fns.specs.Placed.{first_place}
use Rattle.value_fns.proofs.Merged.{stands_at, merged_none, merged_step, merged_all, behind_none, behind_step}
use Rattle.value_fns.proofs.merges.find_by_merge.Goals as goal

pub loop-pair-init : goal.loop-pair-init
loop-pair-init c = record {
  each = merged_none (λ (z : ℤ). counted_from (pos c.args.origin) (first_place c.args.cells.now z)) c.args.wanted.now c.args.order.now c.requires.order;
  behind = behind_none c.args.index.now c.args.order.now 0;
  within = omega arith;
  long = refl;
}

pub offset_bounds-wanted-pair : goal.offset_bounds-wanted-pair
offset_bounds-wanted-pair c =
    let st = stands_at c.args.wanted.now c.args.order.now c.loop-pair.pair-index (pos 0, 0) c.requires.order c.loop-pair-test.true in
    omega (arith, st.0, c.loop-pair.invariant.long)

pub bounds-wanted-pair : goal.bounds-wanted-pair
bounds-wanted-pair c =
    let st = stands_at c.args.wanted.now c.args.order.now c.loop-pair.pair-index (pos 0, 0) c.requires.order c.loop-pair-test.true in
    omega (arith, st.0, c.loop-pair.invariant.long)

pub loop-pair-preserved : goal.loop-pair-preserved
loop-pair-preserved c =
    let st = stands_at c.args.wanted.now c.args.order.now c.loop-pair.pair-index (pos 0, 0) c.requires.order c.loop-pair-test.true in
    let fits : FitsSigned w128 (get_or c.args.order.now c.loop-pair.pair-index (pos 0, 0)).0 = search rules in
    let cell = to_z-of_z w128 (get_or c.args.order.now c.loop-pair.pair-index (pos 0, 0)).0 fits in
    let place = rw cell at c.place_from-place.ensures in
    let parts = rw cell at c.first_not_below-from.ensures.parts in
    record {
      each = merged_step (λ (z : ℤ). counted_from (pos c.args.origin) (first_place c.args.cells.now z)) c.args.wanted.now c.args.order.now c.loop-pair.pair-index _ c.loop-pair.wanted _ c.loop-pair-test.true refl st c.loop-pair.invariant.long
          (omega (arith, ints, place)) c.loop-pair.invariant.each;
      behind = behind_step c.args.index.now c.first_not_below-from.result c.args.order.now c.loop-pair.pair-index _ c.first_not_below-from.ensures.within c.requires.rises c.loop-pair-test.true refl parts;
      within = c.first_not_below-from.ensures.within;
      long = search rules;
    }

pub returns : goal.returns
returns c =
    merged_all (λ (z : ℤ). counted_from (pos c.args.origin) (first_place c.args.cells.now z)) c.args.wanted.now c.args.order.now c.loop-pair.pair-index c.loop-pair.wanted (omega (arith, c.loop-pair-test.false)) c.loop-pair.invariant.long c.loop-pair.invariant.each
