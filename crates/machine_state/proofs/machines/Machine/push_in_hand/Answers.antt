use Rattle.std.proofs.Common.{arith}
use Rattle.name_table.proofs.CountedLemmas.{named_at_most}
use Rattle.value_stack.proofs.NewestLemmas.{few_named}
use Rattle.drag_along.proofs.OneLeafLemmas.{leaf_once}
use Rattle.machine_state.proofs.machines.Machine.push_in_hand.Goals as goal

pub push_held-requires-clause-holders : goal.push_held-requires-clause-holders
push_held-requires-clause-holders c = λ key named.
    let few = c.requires.lawful in
    omega (
      arith,
      few.2.desk.held key,
      few.1 key,
      leaf_once c.args.leaf.now key,
      few_named c.args.self.now.stack key c.len-count.ensures.segments,
      c.len-count.ensures.value,
      c.len-count.type_inv,
      named_at_most c.args.self.now.names key c.depth-depth.ensures.names,
      c.depth-depth.ensures.names.deep,
    )
