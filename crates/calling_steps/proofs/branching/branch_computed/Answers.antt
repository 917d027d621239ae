use Rattle.std.proofs.Common.{refl, ◌∙◌}
use Rattle.machine_state.specs.declared.machines.Machine.{Machine}
use Rattle.machine_state.proofs.KeepsLemmas.{keeps, keeps_then}
use Rattle.calling_steps.proofs.ReadyLemmas.{counted_keeps, counted_moves, holds_entries, newest_leaf_lawful, newest_means}
use Rattle.calling_steps.proofs.OutputLemmas.{branched}
use Rattle.calling_steps.proofs.BranchLemmas.{branch_halts}
use Rattle.calling_steps.proofs.branching.branch_computed.Goals as goal

pub flow_by-requires : goal.flow_by-requires
flow_by-requires c =
    record { lawful = newest_leaf_lawful c.args.machine.now.store c.args.machine.now.stack c.newest_leaf-leaf.result.now c.newest_leaf-leaf.ensures c.requires.lawful.1.desk.entries }

pub returns-in-Err-clause-keeps : goal.returns-in-Err-clause-keeps
returns-in-Err-clause-keeps c = (counted_keeps c.args.machine.now c.flow_by.new.store c.flow_by.ensures.counted c.requires.lawful).0

pub returns-in-Err-clause-halted : goal.returns-in-Err-clause-halted
returns-in-Err-clause-halted c =
    let m = c.args.machine.now in
    let newest = newest_means m.store m.stack c.newest_leaf-leaf.result.now c.requires.arrays.0 c.newest_leaf-leaf.ensures c.requires.arrays.1 in
    branch_halts c.args.place m.store.limit _ newest.0 _ _ newest.1 c.in-Err.ensures.refused

pub drop_newest-requires-clause-lawful : goal.drop_newest-requires-clause-lawful
drop_newest-requires-clause-lawful c =
    (counted_moves c.args.machine.now.store c.flow_by.new.store c.args.machine.now.stack c.flow_by.ensures.counted c.requires.lawful.1.desk.entries (holds_entries c.args.machine.now c.requires.lawful)).0.lawful

pub returns-in-Ok-clause-branches : goal.returns-in-Ok-clause-branches
returns-in-Ok-clause-branches c =
    let m = c.args.machine.now in
    let read : Machine = record m { store = c.flow_by.new.store } in
    let dropped : Machine = record m { store = c.drop_newest.new.store; stack = c.drop_newest.new.stack } in
    let newest = newest_means m.store m.stack c.newest_leaf-leaf.result.now c.requires.arrays.0 c.newest_leaf-leaf.ensures c.requires.arrays.1 in
    let same = (counted_keeps m c.flow_by.new.store c.flow_by.ensures.counted c.requires.lawful).1 in
    branched c.args.place c.in-Ok.to _ read dropped newest.0 _ newest.1 (same ∙ newest.1) c.in-Ok.ensures.leads c.requires.operand c.drop_newest.ensures.dropped

pub returns-in-Ok-clause-keeps : goal.returns-in-Ok-clause-keeps
returns-in-Ok-clause-keeps c =
    let m = c.args.machine.now in
    let read : Machine = record m { store = c.flow_by.new.store } in
    keeps_then m read _ (counted_keeps m c.flow_by.new.store c.flow_by.ensures.counted c.requires.lawful).0 (keeps read _ refl refl c.drop_newest.ensures.moves)
