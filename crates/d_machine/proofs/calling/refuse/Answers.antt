use Rattle.std.proofs.Common.{inl, inr, refl, sym, ◌∙◌, arith}
use Rattle.alias_force.proofs.SafeLemmas.{safe_means}
use Rattle.machine_state.proofs.KeepsLemmas.{keeps}
use Rattle.d_machine.proofs.CallingLemmas.{on_error_always}
use Rattle.d_machine.proofs.calling.refuse.Goals as goal

pub returns-in-Err-clause-keeps : goal.returns-in-Err-clause-keeps
returns-in-Err-clause-keeps c = on_error_always c.in-Err.halt _ (keeps _ _ refl refl c.settle_entries.ensures.moves)

pub returns-in-Ok-clause-halted : goal.returns-in-Ok-clause-halted
returns-in-Ok-clause-halted c =
    let arrays = safe_means c.settle_entries.new.store c.settle_entries.new.stack c.settle_entries.ensures.moves.lawful c.in-Ok.ensures.safe in
    inr (record { same = refl; arrays = arrays.0; are = sym c.settle_entries.ensures.means ∙ arrays.1; why = inr (refl, omega (arith, c.if-depth-lt-MOST_CALLS.true, c.depth.ensures.depth)) })

pub returns-in-Ok-clause-keeps : goal.returns-in-Ok-clause-keeps
returns-in-Ok-clause-keeps c = keeps _ _ refl refl c.settle_entries.ensures.moves

pub returns-in-Ok-2-clause-halted : goal.returns-in-Ok-2-clause-halted
returns-in-Ok-2-clause-halted c =
    let arrays = safe_means c.settle_entries.new.store c.settle_entries.new.stack c.settle_entries.ensures.moves.lawful c.in-Ok.ensures.safe in
    inr (record { same = refl; arrays = arrays.0; are = sym c.settle_entries.ensures.means ∙ arrays.1; why = inl (refl, omega (arith, c.if-depth-lt-MOST_CALLS.false, c.depth.ensures.depth)) })

pub returns-in-Ok-2-clause-keeps : goal.returns-in-Ok-2-clause-keeps
returns-in-Ok-2-clause-keeps c = keeps _ _ refl refl c.settle_entries.ensures.moves
