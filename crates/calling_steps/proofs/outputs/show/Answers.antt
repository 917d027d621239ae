use Rattle.machine_state.proofs.KeepsLemmas.{keeps_then}
use Rattle.calling_steps.proofs.outputs.show.Goals as goal

pub show_newest-requires-clause-lawful : goal.show_newest-requires-clause-lawful
show_newest-requires-clause-lawful g c = (c.requires.lawful.0, c.compute_newest.ensures.keeps.lawful c.requires.lawful.0 c.requires.lawful.1)

pub returns-in-Ok-clause-keeps : goal.returns-in-Ok-clause-keeps
returns-in-Ok-clause-keeps g c = keeps_then c.args.machine.now c.compute_newest.new.machine c.show_newest.new.machine c.compute_newest.ensures.keeps c.show_newest.ensures.keeps
