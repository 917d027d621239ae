use Rattle.std.proofs.Common.{refl}
use Rattle.machine_state.proofs.KeepsLemmas.{keeps, reaches_so}
use Rattle.machine_state.proofs.machines.Machine.monadic_scalar.Goals as goal

pub returns-clause-keeps : goal.returns-clause-keeps
returns-clause-keeps c = reaches_so c.scalar_one.result _ _ (keeps _ _ refl refl) c.scalar_one.ensures.moves
