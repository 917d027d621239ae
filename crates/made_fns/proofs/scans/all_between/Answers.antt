use mir.Syntax.{w128}
use Rattle.std.proofs.Common.{◌+◌, ◌-◌, ◌++◌, ◌∙◌, ℤ, List, sym, ap, arith, rules}
use Rattle.std.proofs.lemmas.Int.{to_z-of_z}
use Rattle.e_machine.specs.Forced.{cells_from}
use Rattle.made_fns.specs.Answers.{elements_in, is_between}
use Rattle.made_fns.proofs.ScanLemmas.{block_many, block_behind, cells_all, test_more, test_fails, fetched_more}
use Rattle.made_fns.proofs.scans.all_between.Goals as goal

pub loop-done-preserved : goal.loop-done-preserved
loop-done-preserved c =
    let low = to_z-of_z w128 c.args.low c.ranges.low in
    let high = to_z-of_z w128 c.args.high c.ranges.high in
    let many = block_many c.min-more.result c.elements-count.result c.loop-done.done 64 c.loop-done.block (search rules) c.min-more.ensures in
    let now = block_behind c.args.store.now c.loop-done.store c.args.leaf.now c.loop-done.done c.min-more.result _ _ c.loop-done.invariant.1.only many c.read_block.ensures.cells in
    let passes = sym c.are_between.ensures ∙ c.if-not-are_between.false in
    let passes-here = rw (low, high) at passes in
    let before = rw (low, high) at c.loop-done.invariant.0 in (
      rw (low, high) (test_more (is_between c.args.low c.args.high) _ _ _ now before passes-here),
      fetched_more _ _ _ c.args.leaf.now _ _ _ c.loop-done.invariant.2 many c.loop-done.invariant.1 c.read_block.ensures.counted,
      c.read_block.ensures.store,
      omega (arith, c.min-more.ensures, c.loop-done.invariant.3),
    )

pub returns-then-not-are_between-clause-value : goal.returns-then-not-are_between-clause-value
returns-then-not-are_between-clause-value c =
    let low = to_z-of_z w128 c.args.low c.ranges.low in
    let high = to_z-of_z w128 c.args.high c.ranges.high in
    let many = block_many c.min-more.result c.elements-count.result c.loop-done.done 64 c.loop-done.block (search rules) c.min-more.ensures in
    let now = block_behind c.args.store.now c.loop-done.store c.args.leaf.now c.loop-done.done c.min-more.result _ _ c.loop-done.invariant.1.only many c.read_block.ensures.cells in
    let all = cells_all c.args.store.now c.args.leaf.now (c.loop-done.done + c.min-more.result) (omega (arith, c.min-more.ensures, c.loop-done.invariant.3, c.elements-count.ensures.value)) in
    let fails = sym c.are_between.ensures ∙ c.if-not-are_between.true in
    let fails-here = rw (low, high) at fails in
    sym (test_fails (is_between c.args.low c.args.high) _ _ _ _ (all ∙ ap (λ (xs : List ℤ). xs ++ cells_from c.args.store.now c.args.leaf.now (c.loop-done.done + c.min-more.result) (elements_in c.args.leaf.now - (c.loop-done.done + c.min-more.result))) now) fails-here)
