use Rattle.std.proofs.Common.{inr, ◌∙◌}
use Rattle.leaf_names.specs.Variables.{array_of}
use Rattle.calling_steps.proofs.ReadyLemmas.{counted_keeps, newest_means}
use Rattle.calling_steps.proofs.outputs.show_newest.Goals as goal

pub returns-in-Ok-clause-shows : goal.returns-in-Ok-clause-shows
returns-in-Ok-clause-shows g c =
    let m = c.args.machine.now in
    let newest = newest_means m.store m.stack c.newest_leaf-leaf.result.now c.requires.arrays.0 c.newest_leaf-leaf.ensures c.requires.arrays.1 in
    let same = (counted_keeps m c.write_leaf.new.store c.write_leaf.ensures.counted.only c.requires.lawful).1 in
    record { older = newest.0; array = array_of m.store c.newest_leaf-leaf.result.now; were = newest.1; are = same ∙ newest.1; text = c.in-Ok.ensures.ok }

pub returns-in-Ok-clause-keeps : goal.returns-in-Ok-clause-keeps
returns-in-Ok-clause-keeps g c = (counted_keeps c.args.machine.now c.write_leaf.new.store c.write_leaf.ensures.counted.only c.requires.lawful).0

pub returns-in-Err-OutFault-clause-keeps : goal.returns-in-Err-OutFault-clause-keeps
returns-in-Err-OutFault-clause-keeps g c = (counted_keeps c.args.machine.now c.write_leaf.new.store c.write_leaf.ensures.counted.only c.requires.lawful).0

pub returns-in-Err-OutFault-clause-halted : goal.returns-in-Err-OutFault-clause-halted
returns-in-Err-OutFault-clause-halted g c =
    let m = c.args.machine.now in
    let newest = newest_means m.store m.stack c.newest_leaf-leaf.result.now c.requires.arrays.0 c.newest_leaf-leaf.ensures c.requires.arrays.1 in
    record { older = newest.0; array = array_of m.store c.newest_leaf-leaf.result.now; were = newest.1; front = c.in-Err-OutFault.ensures.err }

pub returns-in-Err-NoMemory-clause-keeps : goal.returns-in-Err-NoMemory-clause-keeps
returns-in-Err-NoMemory-clause-keeps g c = (counted_keeps c.args.machine.now c.write_leaf.new.store c.write_leaf.ensures.counted.only c.requires.lawful).0

pub returns-in-Err-NoMemory-clause-halted : goal.returns-in-Err-NoMemory-clause-halted
returns-in-Err-NoMemory-clause-halted g c =
    let m = c.args.machine.now in
    let newest = newest_means m.store m.stack c.newest_leaf-leaf.result.now c.requires.arrays.0 c.newest_leaf-leaf.ensures c.requires.arrays.1 in
    inr (record { older = newest.0; array = array_of m.store c.newest_leaf-leaf.result.now; were = newest.1; front = c.in-Err-NoMemory.ensures.err })
