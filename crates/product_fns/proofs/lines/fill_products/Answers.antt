use Rattle.std.proofs.Common.{rules, ◌+◌, ◌*◌, ◌≤◌, ◌%◌, length, ap, arith}
use Rattle.std.proofs.lemmas.Int.{to_z-of_z}
use mir.Val.{SFits}
use mir.Syntax.{w128}
use Rattle.product_fns.specs.Inner.{Lines, lines_of}
use Rattle.product_fns.proofs.GroupLemmas.{part-length}
use Rattle.product_fns.proofs.LineLemmas.{line_within, column_within, product_here, first_more, first_all, product_missing, applied_more, applied_failed}
use Rattle.product_fns.proofs.lines.fill_products.Goals as goal

pub offset_bounds-deref-i : goal.offset_bounds-deref-i
offset_bounds-deref-i c =
    let within = line_within c.loop-p.p c.args.q (length c.args.results.now) (length c.args.buffer.now) c.requires.row (omega (arith, c.loop-p-test.true, c.loop-p.auto.results)) c.requires.whole in
    omega (arith, within, c.requires.left, c.requires.few_left)

pub slice_bounds-row-end : goal.slice_bounds-row-end
slice_bounds-row-end c =
    let within = line_within c.loop-p.p c.args.q (length c.args.results.now) (length c.args.buffer.now) c.requires.row (omega (arith, c.loop-p-test.true, c.loop-p.auto.results)) c.requires.whole in
    omega (arith, within, c.requires.left, c.deref.ensures.len, ap length c.deref.ensures.value)

pub returns-in_default-clause-value : goal.returns-in_default-clause-value
returns-in_default-clause-value c =
    let l : Lines = lines_of c.args.f c.args.g c.args.left.now c.args.right.now (length c.args.buffer.now) c.args.q in
    let fits : c.loop-p.p % c.args.q * length c.args.buffer.now + length c.args.buffer.now ≤ length c.deref-in-loop-p.result.now = omega (arith, column_within c.loop-p.p c.args.q (length c.args.buffer.now) c.requires.row, c.requires.right, ap length c.deref-in-loop-p.ensures.value) in
    product_missing l c.loop-p.p (length c.args.results.now) c.product.result (omega (arith, c.loop-p-test.true, c.loop-p.auto.results)) c.in_default.is
    (product_here l c.loop-p.p _ c.deref.result.now c.deref-in-loop-p.result.now c.product.result (part-length (c.loop-p.p % c.args.q * length c.args.buffer.now) (length c.args.buffer.now) c.deref-in-loop-p.result.now fits) c.deref.ensures.value c.deref-in-loop-p.ensures.value c.product.ensures.exact)

pub returns-in_default-clause-counted : goal.returns-in_default-clause-counted
returns-in_default-clause-counted c =
    applied_failed c.args.store.now c.count_applied_many.new.self c.loop-p.p _ (length c.args.results.now) (omega (arith, c.loop-p-test.true, c.loop-p.auto.results))
    (applied_more c.args.store.now c.loop-p.store c.count_applied_many.new.self c.loop-p.p _ _ (omega (arith, c.saturating_sub.ensures)) c.loop-p.invariant.counted c.loop-p.invariant.store c.count_applied_many.ensures.counted)

pub loop-p-preserved : goal.loop-p-preserved
loop-p-preserved c =
    let l : Lines = lines_of c.args.f c.args.g c.args.left.now c.args.right.now (length c.args.buffer.now) c.args.q in
    let fits : c.loop-p.p % c.args.q * length c.args.buffer.now + length c.args.buffer.now ≤ length c.deref-in-loop-p.result.now = omega (arith, column_within c.loop-p.p c.args.q (length c.args.buffer.now) c.requires.row, c.requires.right, ap length c.deref-in-loop-p.ensures.value) in
    let here = product_here l c.loop-p.p _ c.deref.result.now c.deref-in-loop-p.result.now c.product.result (part-length (c.loop-p.p % c.args.q * length c.args.buffer.now) (length c.args.buffer.now) c.deref-in-loop-p.result.now fits) c.deref.ensures.value c.deref-in-loop-p.ensures.value c.product.ensures.exact in
    let small : SFits w128 c.in-Some.cell = search rules in
    record {
      results = first_more l c.loop-p.p c.loop-p.results c.in-Some.cell _ c.product.result (to_z-of_z w128 _ small) (omega (arith, c.loop-p-test.true, c.loop-p.auto.results)) c.in-Some.is c.product.ensures.number here c.loop-p.invariant.results;
      long = omega (arith, c.product.auto.buffer, c.loop-p.invariant.long);
      counted = applied_more c.args.store.now c.loop-p.store c.count_applied_many.new.self c.loop-p.p _ _ (omega (arith, c.saturating_sub.ensures)) c.loop-p.invariant.counted c.loop-p.invariant.store c.count_applied_many.ensures.counted;
      store = c.count_applied_many.ensures.store;
    }

pub returns-clause-value : goal.returns-clause-value
returns-clause-value c =
    first_all (lines_of c.args.f c.args.g c.args.left.now c.args.right.now (length c.args.buffer.now) c.args.q) c.loop-p.p c.loop-p.results (omega (arith, c.loop-p-test.false, c.loop-p.auto.results)) c.loop-p.invariant.results
