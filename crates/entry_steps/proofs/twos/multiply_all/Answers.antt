use Rattle.std.proofs.Common.{refl}
use Rattle.entry_steps.proofs.ChangeLemmas.{changed}
use Rattle.entry_steps.proofs.CountLemmas.{counts_outer}
use Rattle.entry_steps.proofs.twos.multiply_all.Goals as goal

pub returns : goal.returns
returns c =
    changed _ 2 _ _ _ (counts_outer c.args.f) _ refl
    (record { names = refl; turns = refl; begun = refl; traced = refl; costs = refl; origin = refl; limit = c.outer_product.ensures.limit })
    (c.outer_product.ensures.step c.args.machine.now.origin) c.outer_product.ensures.moves (c.outer_product.ensures.halted c.args.machine.now.origin)
