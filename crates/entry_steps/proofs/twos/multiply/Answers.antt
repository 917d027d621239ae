use Rattle.std.proofs.Common.{refl}
use Rattle.entry_steps.proofs.ChangeLemmas.{changed}
use Rattle.entry_steps.proofs.CountLemmas.{counts_inner}
use Rattle.entry_steps.proofs.twos.multiply.Goals as goal

pub returns : goal.returns
returns c =
    changed _ 2 _ _ _ (counts_inner c.args.f c.args.g) _ refl
    (record { names = refl; turns = refl; begun = refl; traced = refl; costs = refl; origin = refl; limit = c.inner_product.ensures.limit })
    (c.inner_product.ensures.step c.args.machine.now.origin) c.inner_product.ensures.moves (c.inner_product.ensures.halted c.args.machine.now.origin)
