use Rattle.std.proofs.Common.{refl}
use Rattle.entry_steps.proofs.ChangeLemmas.{changed, origin_word}
use Rattle.entry_steps.proofs.CountLemmas.{counts_dyadic}
use Rattle.entry_steps.proofs.twos.rearrange.Goals as goal

pub returns : goal.returns
returns c =
    changed _ 2 _ _ _ (counts_dyadic c.args.f) _ (origin_word c.args.machine.now.origin c.requires.lawful.origin)
    (record { names = refl; turns = refl; begun = refl; traced = refl; costs = refl; origin = refl; limit = c.select_two.ensures.limit })
    c.select_two.ensures.step c.select_two.ensures.moves c.select_two.ensures.halted
