use Rattle.std.proofs.Common.{refl}
use Rattle.entry_steps.proofs.ChangeLemmas.{changed, origin_word}
use Rattle.entry_steps.proofs.CountLemmas.{counts_dyadic}
use Rattle.entry_steps.proofs.twos.make.Goals as goal

pub returns : goal.returns
returns c =
    changed _ 2 _ _ _ (counts_dyadic c.args.f) _ (origin_word c.args.machine.now.origin c.requires.lawful.origin)
    (record { names = refl; turns = refl; begun = refl; traced = refl; costs = refl; origin = refl; limit = c.made_two.ensures.limit })
    c.made_two.ensures.step c.made_two.ensures.moves c.made_two.ensures.halted
