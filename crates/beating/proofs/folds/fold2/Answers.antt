use Rattle.std.proofs.Common.{refl}
use Rattle.beating.proofs.FoldLemmas.{can_combine, pair_folds, pair_within}
use Rattle.beating.proofs.folds.fold2.Goals as goal

pub combined-requires : goal.combined-requires
combined-requires c = λ keeps.
    can_combine c.args.f c.args.left.now c.args.right.now c.in_ok-a.a.now c.in_ok-b.b.now _ _ c.range2.result
    c.in_ok-a.ensures.found c.in_ok-b.ensures.found c.in_ok-a.ensures.segment c.in_ok-b.ensures.segment
    c.requires.shapes c.requires.left_in_range c.requires.right_in_range (c.one_is_constant.ensures.0 c.if-not-one_is_constant.false)
    c.side_of.ensures.side c.side_of-else-not-one_is_constant.ensures.side c.range2.ensures.sound c.if-not-range2.false keeps

pub returns-clause-folded : goal.returns-clause-folded
returns-clause-folded c = λ place.
    pair_folds c.args.f place c.args.left.now c.args.right.now c.in_ok-a.a.now c.in_ok-b.b.now c.in_ok-combined.field-0 c.numbers.result
    c.in_ok-a.ensures.found c.in_ok-b.ensures.found c.in_ok-a.ensures.segment c.in_ok-b.ensures.segment
    c.requires.shapes (c.in_ok-combined.ensures.exact.0 refl) c.in_ok-combined.ensures.combines c.numbers.ensures

pub returns-clause-within : goal.returns-clause-within
returns-clause-within c =
    pair_within c.args.f c.args.left.now c.args.right.now c.in_ok-a.a.now c.in_ok-b.b.now c.in_ok-combined.field-0 _ _ c.range2.result c.numbers.result
    c.in_ok-a.ensures.found c.in_ok-b.ensures.found c.in_ok-a.ensures.segment c.in_ok-b.ensures.segment
    c.requires.shapes c.requires.left_in_range c.requires.right_in_range
    c.side_of.ensures.side c.side_of-else-not-one_is_constant.ensures.side c.range2.ensures.exact c.range2.ensures.sound c.if-not-range2.false
    (c.in_ok-combined.ensures.exact.0 refl) c.in_ok-combined.ensures.combines c.numbers.ensures
