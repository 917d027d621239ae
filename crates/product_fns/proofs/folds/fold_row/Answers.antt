use Rattle.std.proofs.Common.{◌-◌, get_or, pos, rules}
use Rattle.std.proofs.lemmas.Int.{to_z-of_z}
use mir.Val.{SFits}
use mir.Syntax.{w128}
use Rattle.product_fns.proofs.FoldLemmas.{fold_starts, fold_more, fold_none, no_value}
use Rattle.product_fns.proofs.folds.fold_row.Goals as goal

pub loop-k-init : goal.loop-k-init
loop-k-init g c = fold_starts _ c.args.kind c.args.cells.now c.args.right c.requires.right

pub loop-k-preserved : goal.loop-k-preserved
loop-k-preserved g c =
    let read : SFits w128 (get_or c.args.cells.now (c.loop-k.k - 1) (pos 0)) = search rules in
    fold_more _ c.args.kind c.args.cells.now c.args.right c.loop-k.k c.loop-k.value c.in-Some.next _ c.value_of.result c.loop-k-test.true c.loop-k.invariant
    (to_z-of_z w128 _ read) c.value_of.ensures.exact c.in-Some.is c.value_of.ensures.lawful

pub returns-in_default-clause-exact : goal.returns-in_default-clause-exact
returns-in_default-clause-exact g c =
    let read : SFits w128 (get_or c.args.cells.now (c.loop-k.k - 1) (pos 0)) = search rules in
    let undefined = fold_none _ c.args.kind c.args.cells.now c.args.right c.loop-k.k c.loop-k.value _ c.value_of.result c.loop-k-test.true c.loop-k.invariant
    (to_z-of_z w128 _ read) c.value_of.ensures.exact (no_value c.value_of.result c.in_default.not-Some) in
    let e = undefined in cc
