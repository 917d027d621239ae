use Rattle.std.proofs.Common.{◌≡◌, ◌∙◌, length, ap, arith}
use Rattle.array_desc.specs.Desc.{DescView}
use Rattle.made_picks.proofs.TakeLemmas.{whole_cells, extended_cells}
use Rattle.made_picks.proofs.takes.taken_desc.Goals as goal

pub returns-then-axes-eq0-clause-cells : goal.returns-then-axes-eq0-clause-cells
returns-then-axes-eq0-clause-cells c = λ s is index.
    let same = c.copy-desc.ensures.same ∙ c.desc-whole.ensures in
    let none : length c.copy-desc.result.shape ≡ 0 = omega (arith, c.if-axes-eq0.true, c.rank-axes.ensures.value, ap (λ (d : DescView). length d.shape) (c.whole.view_is), ap (λ (d : DescView). length d.shape) c.copy-desc.ensures.same) in
    extended_cells s c.args.b.now c.copy-desc.result c.extend-then-axes-eq0.new.self c.ones.result c.args.count is same none c.extend-then-axes-eq0.ensures.selects c.ones.ensures index

pub returns-else-axes-eq0-clause-cells : goal.returns-else-axes-eq0-clause-cells
returns-else-axes-eq0-clause-cells c = λ s is index. whole_cells s c.args.b.now c.copy-desc.result is (c.copy-desc.ensures.same ∙ c.desc-whole.ensures) index
