use Rattle.std.proofs.Common.{length, ap, ◌∙◌, arith}
use Rattle.apl_base.specs.Array.{size_of}
use Rattle.array_desc.specs.Desc.{DescView}
use Rattle.drag_along.specs.Nodes.{leaf_kind}
use Rattle.selection_choices.proofs.LeftLemmas.{limit_refused, lists_numbers, kind_tested}
use Rattle.selection_choices.proofs.lefts.count_left.Goals as goal

pub returns-then-count-gt-MOST_AXES-clause-refused : goal.returns-then-count-gt-MOST_AXES-clause-refused
returns-then-count-gt-MOST_AXES-clause-refused c =
    limit_refused c.args.f c.args.left.now c.args.shape.now c.size-count.result c.requires.selects
    (c.size-count.ensures.value ∙ ap (λ (d : DescView). size_of d.shape) c.desc-desc.ensures)
    (omega (arith, c.if-rank-gt1.false, c.rank.ensures.value, ap (λ (d : DescView). length d.shape) (c.desc.view_is ∙ c.desc-desc.ensures)))
    (c.if-count-asked_for.false ∙ c.asked_for.ensures.value)
    (kind_tested c.eq.result c.kind.result (leaf_kind c.args.left.now) c.size-count.result c.kind.ensures c.eq.ensures c.else-eq.either)
    c.if-count-gt-MOST_AXES.true c.asked_for.ensures.lawful.rank

pub returns-clause-list : goal.returns-clause-list
returns-clause-list c store =
    lists_numbers c.args.left.now store c.size-count.result
    (c.size-count.ensures.value ∙ ap (λ (d : DescView). size_of d.shape) c.desc-desc.ensures)
    (omega (arith, c.if-rank-gt1.false, c.rank.ensures.value, ap (λ (d : DescView). length d.shape) (c.desc.view_is ∙ c.desc-desc.ensures)))
    (kind_tested c.eq.result c.kind.result (leaf_kind c.args.left.now) c.size-count.result c.kind.ensures c.eq.ensures c.else-eq.either)
