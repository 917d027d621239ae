use Rattle.std.proofs.Common.{length, sym, ap, subst, ◌∙◌}
use Rattle.apl_model.specs.Made.{take_or_pad}
use Rattle.selection_choices.specs.declared.choices.Choice.{Choice}
use Rattle.selection_choices.specs.Choices.{Chooses}
use Rattle.selection_choices.proofs.CountLemmas.{takes_choose}
use Rattle.selection_choices.proofs.twos.taking.Goals as goal

pub returns-clause-chooses : goal.returns-clause-chooses
returns-clause-chooses c a lists =
    subst (λ (x : Choice). Chooses (take_or_pad a) c.args.shape.now x) (sym c.from_axes.ensures)
    (takes_choose c.args.counts.now c.args.shape.now c.axes_of-axes.result c.in_ok-by.by a lists c.axes_of-axes.ensures.axes c.axes_of-axes.ensures.lawful
    (c.requires.asked ∙ ap (λ ns. length ns) (sym c.axes_of-axes.ensures.axes)) c.in_ok-by.ensures.takes c.in_ok-by.ensures.fits)
