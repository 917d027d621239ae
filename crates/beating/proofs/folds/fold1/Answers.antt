use Rattle.std.proofs.Common.{◌≡◌, rules}
use Rattle.apl_base.specs.declared.rows.Mon.TheVariants.{Minus}
use Rattle.beating.proofs.FoldLemmas.{minus_folds, minus_within, found_line}
use Rattle.beating.proofs.folds.fold1.Goals as goal

pub returns-clause-folded : goal.returns-clause-folded
returns-clause-folded c = λ place.
    let minus : c.args.f ≡ Minus = search rules in
    minus_folds c.args.f place c.args.s.now c.in_ok-desc.desc.now c.scaled.result c.numbers.result minus
    (found_line c.args.s.now c.in_ok-desc.desc.now c.in_ok-desc.ensures.found c.in_ok-desc.ensures.segment)
    c.scaled.ensures.lawful c.scaled.ensures.shape c.scaled.ensures.numbers c.numbers.ensures

pub returns-clause-within : goal.returns-clause-within
returns-clause-within c = λ inside.
    let minus : c.args.f ≡ Minus = search rules in
    minus_within c.args.f c.args.s.now c.in_ok-desc.desc.now c.scaled.result c.numbers.result minus c.in_ok-desc.ensures.found
    (found_line c.args.s.now c.in_ok-desc.desc.now c.in_ok-desc.ensures.found c.in_ok-desc.ensures.segment)
    c.scaled.ensures.shape c.scaled.ensures.numbers c.numbers.ensures inside
