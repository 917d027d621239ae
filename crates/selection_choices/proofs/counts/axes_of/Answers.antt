use Rattle.std.proofs.Common.{◌≡◌, ◌≤◌, length, refl, sym, subst, ◌∙◌, arith}
use Rattle.std.proofs.lemmas.Bool.{false≢true}
use Rattle.apl_base.specs.Array.{IsShape}
use Rattle.selection_choices.proofs.CountLemmas.{first_ones, under_scalar}
use Rattle.apl_base.proofs.ShapeLemmas.{ones_shape}
use Rattle.selection_choices.proofs.counts.axes_of.Goals as goal

pub unreachable-requires : goal.unreachable-requires
unreachable-requires c =
    let none : length c.args.shape.now ≡ 0 = omega (arith, c.rank.ensures.value, c.if-rank-gt0.false) in
    let few : c.args.count ≤ 8 = c.requires none in
    false≢true (c.in-Err.ensures.exact.1 (subst IsShape (sym (first_ones c.args.count _ few refl)) (ones_shape c.args.count few)))

pub returns-clause-axes : goal.returns-clause-axes
returns-clause-axes c =
    let none : length c.args.shape.now ≡ 0 = omega (arith, c.rank.ensures.value, c.if-rank-gt0.false) in
    c.in-Ok.ensures.ok ∙ first_ones c.args.count _ (c.requires none) refl ∙ sym (under_scalar c.args.count c.args.shape.now none)
