use Rattle.std.proofs.Common.{inr, refl, sym, ◌∙◌}
use Rattle.alias_force.proofs.SafeLemmas.{safe_means}
use Rattle.machine_state.proofs.KeepsLemmas.{keeps}
use Rattle.machine_state.proofs.machines.Machine.unset.Goals as goal

pub returns-in-Ok-clause-halted : goal.returns-in-Ok-clause-halted
returns-in-Ok-clause-halted c =
    let arrays = safe_means c.settle_entries.new.store c.settle_entries.new.stack c.settle_entries.ensures.moves.lawful c.in-Ok.ensures.safe in
    inr (refl, refl, (arrays.0, sym c.settle_entries.ensures.means ∙ arrays.1))

pub returns-in-Ok-clause-keeps : goal.returns-in-Ok-clause-keeps
returns-in-Ok-clause-keeps c = keeps _ _ refl refl c.settle_entries.ensures.moves

pub returns-in-Err-clause-keeps : goal.returns-in-Err-clause-keeps
returns-in-Err-clause-keeps c = keeps _ _ refl refl c.settle_entries.ensures.moves
