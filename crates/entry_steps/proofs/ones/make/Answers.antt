use Rattle.std.proofs.Common.{refl}
use Rattle.entry_steps.proofs.ChangeLemmas.{changed, origin_word}
use Rattle.entry_steps.proofs.CountLemmas.{counts_monadic}
use Rattle.entry_steps.proofs.ones.make.Goals as goal

pub returns : goal.returns
returns c =
    changed _ 1 _ _ _ (counts_monadic c.args.f) _ (origin_word c.args.machine.now.origin c.requires.lawful.origin)
    (record { names = refl; turns = refl; begun = refl; traced = refl; costs = refl; origin = refl; limit = c.made_one.ensures.limit })
    c.made_one.ensures.step c.made_one.ensures.moves c.made_one.ensures.halted
