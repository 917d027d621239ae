use Rattle.machine_state.proofs.KeepsLemmas.{keeps_then}
use Rattle.calling_steps.proofs.branching.branch.Goals as goal

pub branch_computed-requires-clause-lawful : goal.branch_computed-requires-clause-lawful
branch_computed-requires-clause-lawful c = (c.requires.lawful.0, c.compute_newest.ensures.keeps.lawful c.requires.lawful.0 c.requires.lawful.1)

pub returns-clause-keeps : goal.returns-clause-keeps
returns-clause-keeps c = keeps_then c.args.machine.now c.compute_newest.new.machine c.branch_computed.new.machine c.compute_newest.ensures.keeps c.branch_computed.ensures.keeps
