use Rattle.beating.proofs.CombineLemmas.{negative, negative_can, negative_combines}
use Rattle.beating.proofs.combining.difference.Goals as goal

pub scaled-requires : goal.scaled-requires
scaled-requires c = λ i q. negative _ (c.requires.right_lawful.numbers i q)

pub sum-requires : goal.sum-requires
sum-requires c =
    negative_can c.args.left.now c.args.right.now c.scaled.result c.requires
    c.scaled.ensures.lawful c.scaled.ensures.shape c.scaled.ensures.constant c.scaled.ensures.numbers

pub returns : goal.returns
returns c =
    negative_combines c.args.left.now c.args.right.now c.scaled.result c.sum-2.result
    c.scaled.ensures.shape c.scaled.ensures.numbers c.sum-2.ensures
