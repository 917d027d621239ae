use Rattle.std.proofs.Common.{refl, ◌∙◌}
use Rattle.alias_force.proofs.SafeLemmas.{safe_means}
use Rattle.machine_state.specs.declared.machines.Machine.{Machine}
use Rattle.machine_state.proofs.KeepsLemmas.{keeps, keeps_then}
use Rattle.calling_steps.proofs.ReadyLemmas.{on_ok_so}
use Rattle.calling_steps.proofs.ready.compute_newest.Goals as goal

pub returns-in_err-settle_entries-clause-keeps : goal.returns-in_err-settle_entries-clause-keeps
returns-in_err-settle_entries-clause-keeps c = keeps _ _ refl refl c.settle_entries.ensures.moves

pub returns-clause-arrays : goal.returns-clause-arrays
returns-clause-arrays c =
    let arrays = safe_means c.settle_entries.new.store c.settle_entries.new.stack c.settle_entries.ensures.moves.lawful c.in_ok-settle_entries.ensures.safe in
    on_ok_so c.compute_entry.result _ (arrays.0, c.compute_entry.ensures.means ∙ arrays.1)

pub returns-clause-keeps : goal.returns-clause-keeps
returns-clause-keeps c =
    let settled : Machine = record c.args.machine.now { store = c.settle_entries.new.store; stack = c.settle_entries.new.stack } in
    keeps_then c.args.machine.now settled _ (keeps c.args.machine.now settled refl refl c.settle_entries.ensures.moves) (keeps settled _ refl refl c.compute_entry.ensures.moves)
