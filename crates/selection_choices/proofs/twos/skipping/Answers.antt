use Rattle.std.proofs.Common.{length, sym, ap, subst, ◌∙◌}
use Rattle.apl_model.specs.Made.{drop_from}
use Rattle.selection_choices.specs.declared.choices.Choice.{Choice}
use Rattle.selection_choices.specs.Choices.{Chooses}
use Rattle.selection_choices.proofs.CountLemmas.{drops_choose}
use Rattle.selection_choices.proofs.twos.skipping.Goals as goal

pub returns : goal.returns
returns c a lists =
    subst (λ (x : Choice). Chooses (drop_from a) c.args.shape.now x) (sym c.from_axes.ensures)
    (drops_choose c.args.counts.now c.args.shape.now c.axes_of-axes.result c.skip-by.result a lists c.axes_of-axes.ensures.axes c.axes_of-axes.ensures.lawful
    (c.requires.asked ∙ ap (λ ns. length ns) (sym c.axes_of-axes.ensures.axes)) c.skip-by.ensures)
