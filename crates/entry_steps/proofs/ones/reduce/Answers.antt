use Rattle.std.proofs.Common.{refl}
use Rattle.entry_steps.proofs.ChangeLemmas.{changed, origin_word}
use Rattle.entry_steps.proofs.CountLemmas.{counts_reduction}
use Rattle.entry_steps.proofs.ones.reduce.Goals as goal

pub returns : goal.returns
returns c =
    changed _ 1 _ _ _ (counts_reduction c.args.f c.args.axis) _ (origin_word c.args.machine.now.origin c.requires.lawful.origin)
    (record { names = refl; turns = refl; begun = refl; traced = refl; costs = refl; origin = refl; limit = c.reduction.ensures.limit })
    c.reduction.ensures.step c.reduction.ensures.moves c.reduction.ensures.halted
