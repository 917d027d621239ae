use Rattle.selection_choices.proofs.MakeLemmas.{widened_meaning}
use Rattle.selection_choices.proofs.choices.Choice.make.Goals as goal

pub returns-in-Widen-clause-meaning : goal.returns-in-Widen-clause-meaning
returns-in-Widen-clause-meaning c store lawful =
    widened_meaning c.args.self.now _ c.copy.result _ _ _ _ c.in-Widen.is c.copy.ensures (c.select-in-Widen.ensures.meaning store lawful) (c.select-in-Widen-2.ensures.meaning store (c.select-in-Widen.ensures.lawful store lawful))
