use Rattle.std.proofs.Common.{◌-◌, length, sym, ◌∙◌, arith}
use Rattle.product_fns.proofs.PairLemmas.{combined_more, last_none, pair_none, combined_none, product_by}
use Rattle.product_fns.proofs.lines.product_at_once.Goals as goal

pub returns-in_default-clause-exact : goal.returns-in_default-clause-exact
returns-in_default-clause-exact g c = λ f g' combines pairs.
    sym (last_none _ (length c.args.right.now) (length c.args.right.now - 1) f (omega (arith, c.requires.some)) (sym c.pair_at.ensures.exact ∙ c.in_default.is))
    ∙ product_by f g' _ c.args.left_kind c.args.right_kind c.args.left.now c.args.right.now (length c.args.right.now) pairs

pub returns-in_default-pair_at-clause-exact : goal.returns-in_default-pair_at-clause-exact
returns-in_default-pair_at-clause-exact g c = λ f g' combines pairs.
    sym (pair_none _ _ (length c.args.right.now) c.loop-k.k c.loop-k.value c.loop-k-test.true c.loop-k.invariant (sym c.pair_at-in-loop-k.ensures.exact ∙ c.in_default-pair_at.is) f combines)
    ∙ product_by f g' _ c.args.left_kind c.args.right_kind c.args.left.now c.args.right.now (length c.args.right.now) pairs

pub returns-in_default-value_of-clause-exact : goal.returns-in_default-value_of-clause-exact
returns-in_default-value_of-clause-exact g c = λ f g' combines pairs.
    sym (combined_none _ _ (length c.args.right.now) c.loop-k.k c.loop-k.value c.in-Some-pair_at.first c.value_of.result c.loop-k-test.true c.loop-k.invariant
    (sym c.pair_at-in-loop-k.ensures.exact ∙ c.in-Some-pair_at.is) c.value_of.ensures.exact c.in_default-value_of.is f combines)
    ∙ product_by f g' _ c.args.left_kind c.args.right_kind c.args.left.now c.args.right.now (length c.args.right.now) pairs

pub loop-k-preserved : goal.loop-k-preserved
loop-k-preserved g c =
    combined_more _ _ (length c.args.right.now) c.loop-k.k c.loop-k.value c.in-Some-pair_at.first c.in-Some-value_of.next c.value_of.result c.loop-k-test.true c.loop-k.invariant
    (sym c.pair_at-in-loop-k.ensures.exact ∙ c.in-Some-pair_at.is) c.value_of.ensures.exact c.in-Some-value_of.is c.value_of.ensures.lawful
