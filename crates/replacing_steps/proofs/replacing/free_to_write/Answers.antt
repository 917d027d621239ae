use Rattle.std.proofs.Common.{refl}
use Rattle.replacing_steps.proofs.FreeLemmas.{freed_keeps, freed_fewer, is_set}
use Rattle.replacing_steps.proofs.replacing.free_to_write.Goals as goal

pub returns-in-Ok-clause-fewer : goal.returns-in-Ok-clause-fewer
returns-in-Ok-clause-fewer c =
    let set = is_set c.args.machine.now.names c.args.name.now c.requires.bound in
    let exact = rw c.replace.ensures.value at c.in-Ok.ensures.exact in
    freed_fewer c.args.machine.now.store c.before_write-freed.new.store c.args.machine.now.names c.before_write-freed.new.holder.names c.args.machine.now.stack c.before_write-freed.new.stack c.args.name.now set.leaf c.in-Ok.owner (exact set.leaf set.bound)

pub returns-in-Ok-clause-keeps : goal.returns-in-Ok-clause-keeps
returns-in-Ok-clause-keeps c =
    let desk = rw c.replace.ensures.value at c.before_write-freed.ensures.desk in
    let variables = rw c.replace.ensures.value at c.before_write-freed.ensures.variables in
    freed_keeps c.args.machine.now _ refl desk variables c.before_write-freed.ensures.follows.limit

pub returns-in-Err-WsFull-clause-keeps : goal.returns-in-Err-WsFull-clause-keeps
returns-in-Err-WsFull-clause-keeps c =
    let desk = rw c.replace.ensures.value at c.before_write-freed.ensures.desk in
    let variables = rw c.replace.ensures.value at c.before_write-freed.ensures.variables in
    freed_keeps c.args.machine.now _ refl desk variables c.before_write-freed.ensures.follows.limit

pub returns-in-Err-NoMemory-clause-keeps : goal.returns-in-Err-NoMemory-clause-keeps
returns-in-Err-NoMemory-clause-keeps c =
    let desk = rw c.replace.ensures.value at c.before_write-freed.ensures.desk in
    let variables = rw c.replace.ensures.value at c.before_write-freed.ensures.variables in
    freed_keeps c.args.machine.now _ refl desk variables c.before_write-freed.ensures.follows.limit
