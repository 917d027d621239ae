use Rattle.std.proofs.Common.{refl}
use Rattle.std.specs.Prelude.{◌-◌, length}
use Rattle.std.proofs.lemmas.Result.{IfOk-weaker}
use Rattle.machine_state.specs.declared.machines.Machine.{Machine}
use Rattle.machine_state.specs.Steps.{pending}
use Rattle.machine_state.proofs.KeepsLemmas.{keeps}
use Rattle.calling_steps.proofs.PassLemmas.{arrays_stop, taken}
use Rattle.value_stack.proofs.NewestLemmas.{safe_at}
use Rattle.calling_steps.proofs.passing.take_newest.Goals as goal

pub returns-in-Err-clause-stopped : goal.returns-in-Err-clause-stopped
returns-in-Err-clause-stopped c = arrays_stop c.args.machine.now.store.limit (pending c.args.machine.now) c.requires.arrays.0 _ c.requires.arrays.1 c.in-Err.ensures.halted

pub take_leaf-requires-clause-safe : goal.take_leaf-requires-clause-safe
take_leaf-requires-clause-safe c = λ s g. safe_at c.settle_entries.new.stack (length c.settle_entries.new.stack - 1) s c.in-Ok.ensures.safe g

pub returns-in-Ok-clause-takes : goal.returns-in-Ok-clause-takes
returns-in-Ok-clause-takes c =
    let m = c.args.machine.now in
    let settled : Machine = record m { store = c.settle_entries.new.store; stack = c.settle_entries.new.stack } in
    let without : Machine = record m { store = c.take_leaf.new.store; stack = c.take_leaf.new.stack } in
    IfOk-weaker c.take_leaf.result _ _ (λ leaf take.
    taken m settled without leaf c.requires.arrays.0 c.requires.arrays.1 (keeps m settled refl refl c.settle_entries.ensures.moves) c.settle_entries.ensures.means refl refl take) c.take_leaf.ensures.takes
