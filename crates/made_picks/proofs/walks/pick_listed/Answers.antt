use mir.Syntax.{w128}
use Rattle.std.proofs.Common.{◌≡◌, ◌+◌, ◌∙◌, pos, get_or, [], ◌∷◌, ap, length, vec_len, arith, rules, length-append, to_z-of_z, FitsSigned}
use Rattle.array_store.proofs.CountingLemmas.{OnlyFetched-more}
use Rattle.made_picks.proofs.WalkLemmas.{listed_none, listed_more, listed_all, can_read_one}
use Rattle.made_picks.proofs.walks.pick_listed.Goals as goal

pub loop-value-init : goal.loop-value-init
loop-value-init c =
    (listed_none c.args.store.now c.args.leaf.now _ _ _ c.args.values.now c.args.cells.now.items c.counts-counts.ensures.store, omega (arith, c.requires.room), omega arith)

pub read_listed-requires : goal.read_listed-requires
read_listed-requires c =
    let value_fits : FitsSigned w128 (get_or c.args.values.now c.loop-value.value-index (pos 0)) = search rules in
    let value = to_z-of_z {w = w128} {z = get_or c.args.values.now c.loop-value.value-index (pos 0)} value_fits in
    let at = to_z-of_z {w = w128} {z = c.args.at} c.ranges.at in
    let stride = to_z-of_z {w = w128} {z = c.args.stride} c.ranges.stride in
    let origin = to_z-of_z {w = w128} {z = c.args.origin} c.ranges.origin in
    record { can = rw (value, at, stride, origin) (can_read_one c.args.store.now c.loop-value.store c.args.leaf.now c.args.at c.args.stride c.args.origin c.args.values.now c.loop-value.value-index c.loop-value.invariant.0.counted.only c.requires.can c.loop-value-test.true) }

pub push_cell-requires : goal.push_cell-requires
push_cell-requires c = omega (arith, c.loop-value.invariant.1, c.loop-value-test.true)

pub loop-value-preserved : goal.loop-value-preserved
loop-value-preserved c =
    let value_fits : FitsSigned w128 (get_or c.args.values.now c.loop-value.value-index (pos 0)) = search rules in
    let value = to_z-of_z {w = w128} {z = get_or c.args.values.now c.loop-value.value-index (pos 0)} value_fits in
    let at = to_z-of_z {w = w128} {z = c.args.at} c.ranges.at in
    let stride = to_z-of_z {w = w128} {z = c.args.stride} c.ranges.stride in
    let origin = to_z-of_z {w = w128} {z = c.args.origin} c.ranges.origin in
    let read = to_z-of_z {w = w128} {z = c.read_listed.result} (record { sfits = c.read_listed.type_inv }) in
    let is = rw (value, at, stride, origin) at c.read_listed.ensures.value in
    let pushed = rw read at c.push_cell.ensures.cells in
    let so_far = rw (at, stride, origin) at c.loop-value.invariant.0 in
    let before : length c.loop-value.cells.items ≡ vec_len c.loop-value.cells = search rules in
    let after : length c.push_cell.new.into.items ≡ vec_len c.push_cell.new.into = search rules in
    let long : length c.push_cell.new.into.items ≡ length c.loop-value.cells.items + 1 = ap length pushed ∙ length-append c.loop-value.cells.items (c.read_listed.result ∷ []) in (
      rw (at, stride, origin) (listed_more c.args.store.now c.loop-value.store c.read_listed.new.store c.args.leaf.now c.args.at c.args.stride c.args.origin c.args.values.now c.args.cells.now.items c.loop-value.cells.items _ c.loop-value.value-index c.read_listed.result so_far c.loop-value-test.true is pushed c.read_listed.ensures.counted c.read_listed.ensures.store),
      omega (arith, before, after, long, c.loop-value.invariant.1, c.loop-value-test.true, c.push_cell.ensures.capacity),
      omega (arith, c.loop-value.invariant.2, c.push_cell.ensures.capacity),
    )

pub returns-clause-cells : goal.returns-clause-cells
returns-clause-cells c =
    let at = to_z-of_z {w = w128} {z = c.args.at} c.ranges.at in
    let stride = to_z-of_z {w = w128} {z = c.args.stride} c.ranges.stride in
    let origin = to_z-of_z {w = w128} {z = c.args.origin} c.ranges.origin in
    let so_far = rw (at, stride, origin) at c.loop-value.invariant.0 in
    listed_all c.args.store.now c.loop-value.store c.args.leaf.now c.args.at c.args.stride c.args.origin c.args.values.now c.args.cells.now.items c.loop-value.cells.items c.loop-value.value-index so_far c.loop-value-test.false

pub returns-clause-capacity : goal.returns-clause-capacity
returns-clause-capacity c = c.loop-value.invariant.2

pub returns-clause-counted : goal.returns-clause-counted
returns-clause-counted c = OnlyFetched-more _ _ _ _ c.loop-value.auto.value-index-end c.loop-value.invariant.0.counted

pub returns-clause-store : goal.returns-clause-store
returns-clause-store c = c.loop-value.invariant.0.store
