use Rattle.std.proofs.Common.{refl}
use Rattle.machine_state.proofs.KeepsLemmas.{keeps, reaches_so}
use Rattle.machine_state.proofs.machines.Machine.dyadic_scalar.Goals as goal

pub returns-clause-keeps : goal.returns-clause-keeps
returns-clause-keeps c = reaches_so c.scalar_two.result _ _ (keeps _ _ refl refl) c.scalar_two.ensures.moves
