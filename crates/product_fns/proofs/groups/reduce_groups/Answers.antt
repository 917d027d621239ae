use Rattle.std.proofs.Common.{◌≡◌, ◌+◌, ◌-◌, ◌*◌, ◌^◌, ◌≤◌, ℕ, length, take, refl, sym, ap, ◌∙◌, subst, arith}
use Rattle.std.proofs.lemmas.List.{length-take}
use borrow.Rule.Slice.PartMut.{put_mid}
use Rattle.apl_base.specs.Array.{size_of}
use Rattle.array_desc.specs.Desc.{DescView}
use Rattle.array_store.specs.Counting.{OnlyComputed, Computed}
use Rattle.drag_along.specs.Nodes.{leaf_shape}
use Rattle.made_leaf.proofs.BlockLemmas.{block_more}
use Rattle.product_fns.specs.Folding.{Rows, rows_of, IsReduced, IsUndefined, AreAllResults}
use Rattle.product_fns.proofs.GroupLemmas.{group_before, group_within, part-length, rows_same, group_undefined, results_more, computed_group, computed_failed}
use Rattle.product_fns.proofs.groups.reduce_groups.Goals as goal

pub overflow_mul-first : goal.overflow_mul-first
overflow_mul-first c =
    let within = group_within c.loop-i.i c.args.q c.args.n (length c.args.results.now) (size_of (leaf_shape c.args.leaf.now)) c.loop-i-test.true c.requires.whole c.requires.places in
    let small : size_of (leaf_shape c.args.leaf.now) ≤ 2 ^ 40 = subst (λ (d : DescView). size_of d.shape ≤ 2 ^ 40) c.desc.ensures c.size-size.ensures.lawful.shape.product in
    omega (arith, within, small)

pub reduce_group-requires-clause-places : goal.reduce_group-requires-clause-places
reduce_group-requires-clause-places c =
    let before : c.loop-i.i * c.args.q + c.args.q ≤ length c.loop-i.results = omega (arith, group_before c.loop-i.i c.args.q (length c.args.results.now) c.loop-i-test.true c.requires.whole, c.loop-i.auto.results) in
    let part = part-length (c.loop-i.i * c.args.q) c.args.q c.loop-i.results before in
    let within = group_within c.loop-i.i c.args.q c.args.n (length c.args.results.now) (size_of (leaf_shape c.args.leaf.now)) c.loop-i-test.true c.requires.whole c.requires.places in
    rw part within

pub returns-then-not-reduce_group-clause-value : goal.returns-then-not-reduce_group-clause-value
returns-then-not-reduce_group-clause-value c =
    let before = group_before c.loop-i.i c.args.q (length c.args.results.now) c.loop-i-test.true c.requires.whole in
    let fits : c.loop-i.i * c.args.q + c.args.q ≤ length c.loop-i.results = omega (arith, before, c.loop-i.auto.results) in
    let part = part-length (c.loop-i.i * c.args.q) c.args.q c.loop-i.results fits in
    let same = rows_same c.args.store.now c.loop-i.store c.args.f c.args.leaf.now c.args.n _ c.args.q c.loop-i.invariant.counted.all.only part in
    group_undefined (rows_of c.args.store.now c.args.f c.args.leaf.now c.args.n c.args.q) c.loop-i.i (length c.args.results.now) before
    (subst (λ (r : Rows). IsUndefined r (c.loop-i.i * c.args.q * c.args.n)) same c.if-not-reduce_group.ensures.value)

pub returns-then-not-reduce_group-clause-counted : goal.returns-then-not-reduce_group-clause-counted
returns-then-not-reduce_group-clause-counted c =
    let before = group_before c.loop-i.i c.args.q (length c.args.results.now) c.loop-i-test.true c.requires.whole in
    let fits : c.loop-i.i * c.args.q + c.args.q ≤ length c.loop-i.results = omega (arith, before, c.loop-i.auto.results) in
    let part = part-length (c.loop-i.i * c.args.q) c.args.q c.loop-i.results fits in
    computed_failed c.args.store.now c.loop-i.store c.reduce_group.new.store c.loop-i.i c.args.q (c.args.n - 1) c.args.n (length c.args.results.now) before c.loop-i.invariant.counted
    (subst (λ (m : ℕ). OnlyComputed c.loop-i.store c.reduce_group.new.store ((c.args.n - 1) * m) (c.args.n * m)) part c.reduce_group.ensures.counted)

pub loop-i-preserved : goal.loop-i-preserved
loop-i-preserved c =
    let q : ℕ = c.args.q in
    let at : ℕ = c.loop-i.i * q in
    let before = group_before c.loop-i.i q (length c.args.results.now) c.loop-i-test.true c.requires.whole in
    let fits : at + q ≤ length c.loop-i.results = omega (arith, before, c.loop-i.auto.results) in
    let part = part-length at q c.loop-i.results fits in
    let r : Rows = rows_of c.args.store.now c.args.f c.args.leaf.now c.args.n q in
    let same = rows_same c.args.store.now c.loop-i.store c.args.f c.args.leaf.now c.args.n _ q c.loop-i.invariant.counted.all.only part in
    let group : IsReduced r (at * c.args.n) c.reduce_group.new.results = subst (λ (x : Rows). IsReduced x (at * c.args.n) c.reduce_group.new.results) same c.if-not-reduce_group.ensures.value in
    let next : (c.loop-i.i + 1) * q ≡ at + q = omega arith in
    let long : length (take at c.loop-i.results) ≡ at = length-take at c.loop-i.results ∙ omega (arith, fits) in
    let cells = ap (λ (m : ℕ). take m (put_mid at (at + q - at) c.loop-i.results c.reduce_group.new.results)) next ∙ block_more c.loop-i.results c.reduce_group.new.results c.reduce_group.new.results at q refl group.many fits in
    record {
      results = subst (AreAllResults r) (sym cells) (results_more r c.loop-i.i (take at c.loop-i.results) c.reduce_group.new.results long c.loop-i.invariant.results group);
      long = c.reduce_group.auto.buffer ∙ c.loop-i.invariant.long;
      counted = computed_group c.args.store.now c.loop-i.store c.reduce_group.new.store c.loop-i.i q (c.args.n - 1) c.args.n c.loop-i.invariant.counted
          (subst (λ (m : ℕ). Computed c.loop-i.store c.reduce_group.new.store ((c.args.n - 1) * m) (c.args.n * m)) part (c.if-not-reduce_group.ensures.all refl));
      store = c.reduce_group.ensures.store;
    }
