use Rattle.beating.specs.declared.selections.Selection.TheVariants as select
use Rattle.selection_choices.proofs.ReverseLemmas.{axes_flipped}
use Rattle.selection_choices.proofs.ones.flip.Goals as goal

pub returns : goal.returns
returns c = axes_flipped c.args.shape.now (select.Transpose c.falling.result) c.falling.ensures
