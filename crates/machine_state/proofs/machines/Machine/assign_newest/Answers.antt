use Rattle.std.proofs.Common.{refl}
use Rattle.std.specs.Prelude.{length, ◌-◌}
use Rattle.std.proofs.lemmas.Result.{IfOk-weaker}
use Rattle.array_store.specs.Follows.{both}
use Rattle.drag_along.specs.Nodes.{named_by_leaf}
use Rattle.machine_state.specs.declared.machines.Machine.{Machine}
use Rattle.machine_state.proofs.KeepsLemmas.{keeps}
use Rattle.machine_state.proofs.GivesLemmas.{taken_in_hand, assigned}
use Rattle.value_stack.proofs.NewestLemmas.{safe_at}
use Rattle.machine_state.proofs.machines.Machine.assign_newest.Goals as goal

pub take_leaf-requires-clause-safe : goal.take_leaf-requires-clause-safe
take_leaf-requires-clause-safe c s g = safe_at c.args.self.now.stack (length c.args.self.now.stack - 1) s c.requires.safe g

pub push_in_hand-requires-clause-lawful : goal.push_in_hand-requires-clause-lawful
push_in_hand-requires-clause-lawful c =
    (c.requires.lawful.0, c.requires.lawful.1, taken_in_hand c.args.self.now _ c.in_ok-leaf.leaf refl refl c.in_ok-leaf.ensures.takes c.requires.lawful.0 c.requires.lawful.2)

pub give_leaf-requires-clause-lawful : goal.give_leaf-requires-clause-lawful
give_leaf-requires-clause-lawful c =
    let taken : Machine = record c.args.self.now { store = c.take_leaf.new.store; stack = c.take_leaf.new.stack } in (
      c.requires.lawful.0,
      (keeps taken c.push_in_hand.new.self c.push_in_hand.ensures.run.names c.push_in_hand.ensures.run.origin c.in_ok-push_in_hand.ensures.puts.moves).lawful (both (named_by_leaf c.in_ok-leaf.leaf) c.requires.lawful.0)
          (taken_in_hand c.args.self.now taken c.in_ok-leaf.leaf refl refl c.in_ok-leaf.ensures.takes c.requires.lawful.0 c.requires.lawful.2),
    )

pub returns-clause-assigns : goal.returns-clause-assigns
returns-clause-assigns c =
    let taken : Machine = record c.args.self.now { store = c.take_leaf.new.store; stack = c.take_leaf.new.stack } in
    IfOk-weaker c.give_leaf.result _ _ (λ _ gives.
    assigned c.args.self.now taken c.push_in_hand.new.self c.give_leaf.new.self c.args.name.now c.in_ok-leaf.leaf refl refl c.in_ok-leaf.ensures.takes
    c.push_in_hand.ensures.run.names c.push_in_hand.ensures.run.origin c.in_ok-push_in_hand.ensures.puts gives c.requires.lawful.0 c.requires.lawful.2 c.requires.safe) c.give_leaf.ensures.gives
