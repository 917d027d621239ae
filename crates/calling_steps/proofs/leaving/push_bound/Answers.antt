use Rattle.std.proofs.Common.{arith}
use Rattle.drag_along.specs.Lawful.{IsLawfulLeaf}
use Rattle.leaf_names.proofs.EachLemmas.{look_up-each}
use Rattle.name_table.proofs.CountedLemmas.{named_at_most}
use Rattle.value_stack.proofs.NewestLemmas.{few_named}
use Rattle.calling_steps.proofs.leaving.push_bound.Goals as goal

pub push_held-requires-clause-leaf : goal.push_held-requires-clause-leaf
push_held-requires-clause-leaf c =
    look_up-each (IsLawfulLeaf c.args.machine.now.store) c.args.machine.now.names c.requires.bound.0 c.requires.lawful.2.desk.lawful c.args.leaf.now c.requires.bound.1

pub push_held-requires-clause-holders : goal.push_held-requires-clause-holders
push_held-requires-clause-holders c = λ key named.
    let few = c.requires.lawful in
    omega (
      arith,
      few.2.desk.held key,
      few.1 key,
      few_named c.args.machine.now.stack key c.len-count.ensures.segments,
      c.len-count.ensures.value,
      c.len-count.type_inv,
      named_at_most c.args.machine.now.names key c.depth-depth.ensures.names,
      c.depth-depth.ensures.names.deep,
    )
