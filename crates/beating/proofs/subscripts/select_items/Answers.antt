use Rattle.beating.proofs.SubscriptLemmas.{first_passable, second_passable, ones_left, subscripted}
use Rattle.beating.proofs.subscripts.select_items.Goals as goal

pub select_parts-requires-clause-passable : goal.select_parts-requires-clause-passable
select_parts-requires-clause-passable c = first_passable c.args.items.now c.args.desc.now.shape c.requires.items c.requires.lawful.shape

pub select_parts-requires-2-clause-passable : goal.select_parts-requires-2-clause-passable
select_parts-requires-2-clause-passable c =
    second_passable c.args.items.now c.args.desc.now c.select_parts.new.desc c.requires.items c.requires.lawful.shape c.requires.lengths c.select_parts.ensures.selects

pub remove_axes-requires-clause-ones : goal.remove_axes-requires-clause-ones
remove_axes-requires-clause-ones c =
    ones_left c.args.items.now c.args.desc.now c.select_parts.new.desc c.select_parts-2.new.desc c.requires.items c.select_parts.ensures.selects c.select_parts-2.ensures.selects

pub returns-clause-selects : goal.returns-clause-selects
returns-clause-selects c =
    subscripted c.args.items.now c.args.desc.now c.select_parts.new.desc c.select_parts-2.new.desc c.remove_axes.new.desc c.requires.items c.select_parts.ensures.selects c.select_parts-2.ensures.selects c.remove_axes.ensures.selects
