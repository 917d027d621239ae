use Rattle.std.proofs.Common.{arith, sym, refl}
use Rattle.drag_along.specs.Lawful.{IsLawfulLeaf}
use Rattle.leaf_names.proofs.EachLemmas.{look_up-each}
use Rattle.name_table.proofs.CountedLemmas.{named_at_most}
use Rattle.machine_state.proofs.KeepsLemmas.{keeps}
use Rattle.machine_state.proofs.NameLemmas.{name_step, name_halts}
use Rattle.value_stack.proofs.NewestLemmas.{few_named}
use Rattle.machine_state.proofs.machines.Machine.name.Goals as goal

pub push_held-requires-clause-leaf : goal.push_held-requires-clause-leaf
push_held-requires-clause-leaf c =
    look_up-each (IsLawfulLeaf c.args.self.now.store) c.args.self.now.names c.args.name.now c.requires.lawful.2.desk.lawful _ (sym c.in-Some.ensures)

pub push_held-requires-clause-holders : goal.push_held-requires-clause-holders
push_held-requires-clause-holders c = λ key named.
    let few = c.requires.lawful in
    omega (
      arith,
      few.2.desk.held key,
      few.1 key,
      few_named c.args.self.now.stack key c.len-count.ensures.segments,
      c.len-count.ensures.value,
      c.len-count.type_inv,
      named_at_most c.args.self.now.names key c.depth-depth.ensures.names,
      c.depth-depth.ensures.names.deep,
    )

pub returns-in_ok-push_held-in-Some-clause-step : goal.returns-in_ok-push_held-in-Some-clause-step
returns-in_ok-push_held-in-Some-clause-step c =
    name_step c.args.self.now (record c.args.self.now { stack = c.push_held.new.stack; store = c.push_held.new.store }) c.args.name.now c.args.place _ (sym c.in-Some.ensures) c.in_ok-push_held-in-Some.ensures.puts

pub returns-in_ok-push_held-in-Some-clause-keeps : goal.returns-in_ok-push_held-in-Some-clause-keeps
returns-in_ok-push_held-in-Some-clause-keeps c = keeps c.args.self.now (record c.args.self.now { stack = c.push_held.new.stack; store = c.push_held.new.store }) refl refl c.in_ok-push_held-in-Some.ensures.puts.moves

pub returns-in-None-clause-halted : goal.returns-in-None-clause-halted
returns-in-None-clause-halted c = name_halts c.args.self.now c.args.name.now c.args.place c.unset.result (sym c.in-None.ensures) c.unset.ensures.halted
