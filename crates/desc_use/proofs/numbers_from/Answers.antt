use Rattle.std.proofs.Common.{◌+◌, sym, subst, arith}
use Rattle.apl_base.specs.Number.{IsNumber}
use Rattle.apl_base.specs.Array.{index_at}
use Rattle.apl_base.proofs.Sizes.{IsIndex-index_at}
use Rattle.desc_use.proofs.WalkLemmas.{taken_round}
use Rattle.desc_use.proofs.numbers_from.Goals as goal

pub push_row-requires : goal.push_row-requires
push_row-requires c = λ j p.
    let w = c.loop-place.walk in
    let k = w.place + j in
    let b = IsIndex-index_at w.desc.shape k (omega (arith, p, c.next_row-row.ensures.within)) in
    subst IsNumber (sym (c.next_row-row.ensures.numbers j p)) (c.next_row-row.ensures.lawful.numbers (index_at w.desc.shape k) b)

pub loop-place-preserved : goal.loop-place-preserved
loop-place-preserved c =
    taken_round c.args.desc.now c.loop-place.walk c.next_row-row.new.self c.args.first c.loop-place.place c.size-size.result c.next_row-row.result.count _ _ c.loop-place.numbers.items c.push_row.new.numbers.items
    c.size-size.ensures.value c.loop-place.invariant c.next_row-row.ensures.numbers c.next_row-row.ensures.within c.next_row-row.ensures.moved c.in_ok-push_row.ensures
