use Rattle.std.proofs.Common.{length, sym, ap, ◌∙◌}
use Rattle.array_desc.specs.Desc.{DescView}
use Rattle.drag_along.specs.Nodes.{leaf_shape}
use Rattle.product_fns.proofs.AnswerLemmas.{no_lengths, scalar_answered}
use Rattle.product_fns.proofs.reductions.reduce.Goals as goal

pub returns-then-rank-eq0-clause-answer : goal.returns-then-rank-eq0-clause-answer
returns-then-rank-eq0-clause-answer c =
    let shape = ap (λ (d : DescView). d.shape) (c.behind-b.view_is ∙ c.desc.ensures) in
    let none = no_lengths (leaf_shape c.args.b.now) (ap length (sym shape) ∙ sym c.rank-rank.ensures.value ∙ c.if-rank-eq0.true) in
    scalar_answered c.args.store.now c.reduce_scalar.new.store c.args.f c.args.axis c.args.b.now c.reduce_scalar.result none (c.reduce_scalar.ensures.answer c.args.f)
