use Rattle.std.proofs.Common.{◌+◌, refl}
use Rattle.indexing_steps.specs.Operands.{positions_in}
use Rattle.entry_steps.proofs.ChangeLemmas.{changed, origin_word}
use Rattle.entry_steps.proofs.CountLemmas.{counts_index}
use Rattle.entry_steps.proofs.subscripts.index.Goals as goal

pub returns : goal.returns
returns c =
    changed _ (1 + positions_in c.args.mask.now) _ _ _ (counts_index c.args.mask.now) _ (origin_word c.args.machine.now.origin c.requires.lawful.origin)
    (record { names = refl; turns = refl; begun = refl; traced = refl; costs = refl; origin = refl; limit = c.subscript.ensures.limit })
    c.subscript.ensures.step c.subscript.ensures.moves c.subscript.ensures.halted
