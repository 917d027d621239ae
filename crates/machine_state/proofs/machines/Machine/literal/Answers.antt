use Rattle.std.proofs.Common.{refl}
use Rattle.machine_state.proofs.KeepsLemmas.{keeps, reaches_so}
use Rattle.machine_state.proofs.machines.Machine.literal.Goals as goal

pub returns-clause-keeps : goal.returns-clause-keeps
returns-clause-keeps c = reaches_so c.push_literal.result _ _ (keeps _ _ refl refl) c.push_literal.ensures.moves
