use Rattle.std.proofs.Common.{◌≡◌, get_or, length, ap, ◌∙◌, arith}
use Rattle.array_desc.specs.Desc.{DescView}
use Rattle.beating.specs.declared.selections.Item.TheVariants as item
use Rattle.beating.specs.Passes.{part_of}
use Rattle.beating.proofs.PassLemmas.{pass_begins, pass_ends, next_rank, next_fits, next_lengths, next_round}
use Rattle.beating.proofs.subscripts.select_parts.Goals as goal
use Rattle.beating.proofs.subscripts.select_parts.Goals.{After-part_of-part}

pub loop-axis-init : goal.loop-axis-init
loop-axis-init c = pass_begins c.args.longer c.args.items.now c.args.desc.now c.requires.passable c.requires.lawful

pub len-requires : goal.len-requires
len-requires c =
    let rank = next_rank c.args.longer c.args.items.now c.args.desc.now c.loop-axis.desc c.loop-axis.axis c.requires.passable c.loop-axis.invariant.done c.loop-axis-test.true in
    let same = ap (λ (d : DescView). length d.shape) c.desc.view_is in
    omega (arith, rank, same)

-- what is applied is the item's part
part_is : (c : After-part_of-part) → c.part_of-part.result ≡ part_of c.args.longer (get_or c.args.items.now c.loop-axis.axis item.All) (get_or c.loop-axis.desc.shape c.loop-axis.axis 0)
part_is c =
    c.part_of-part.ensures ∙ ap (part_of c.args.longer (get_or c.args.items.now c.loop-axis.axis item.All)) (c.len.ensures.value ∙ ap (λ (d : DescView). get_or d.shape c.loop-axis.axis 0) c.desc.view_is)

pub select_part-requires-clause-axis : goal.select_part-requires-clause-axis
select_part-requires-clause-axis c =
    next_rank c.args.longer c.args.items.now c.args.desc.now c.loop-axis.desc c.loop-axis.axis c.requires.passable c.loop-axis.invariant.done c.loop-axis-test.true

pub select_part-requires-clause-places : goal.select_part-requires-clause-places
select_part-requires-clause-places c =
    let is = part_is (goal.at.select_part-requires-clause-places c).After-part_of-part in
    next_fits c.args.longer c.args.items.now c.args.desc.now c.loop-axis.desc c.loop-axis.axis c.part_of-part.result c.requires.passable c.loop-axis.invariant.done c.loop-axis-test.true is

pub select_part-requires-clause-lengths : goal.select_part-requires-clause-lengths
select_part-requires-clause-lengths c =
    let is = part_is (goal.at.select_part-requires-clause-lengths c).After-part_of-part in
    next_lengths c.args.longer c.args.items.now c.args.desc.now c.loop-axis.desc c.loop-axis.axis c.part_of-part.result c.requires.passable c.loop-axis.invariant.done c.loop-axis-test.true is

pub loop-axis-preserved : goal.loop-axis-preserved
loop-axis-preserved c =
    let is = part_is (goal.at.loop-axis-preserved c).After-part_of-part in
    next_round c.args.longer c.args.items.now c.args.desc.now c.loop-axis.desc c.select_part.new.desc c.loop-axis.axis c.part_of-part.result c.requires.passable c.loop-axis.invariant c.loop-axis-test.true is c.select_part.ensures.selects c.select_part.ensures.lawful

pub returns-clause-selects : goal.returns-clause-selects
returns-clause-selects c =
    pass_ends c.args.longer c.args.items.now c.args.desc.now c.loop-axis.desc c.loop-axis.axis c.requires.passable c.loop-axis.invariant (omega arith)
