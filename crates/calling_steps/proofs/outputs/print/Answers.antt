use Rattle.std.proofs.Common.{refl, arith}
use Rattle.machine_state.specs.declared.machines.Machine.{Machine}
use Rattle.machine_state.proofs.KeepsLemmas.{keeps, keeps_then}
use Rattle.calling_steps.proofs.ReadyLemmas.{holds_entries}
use Rattle.calling_steps.proofs.OutputLemmas.{printed}
use Rattle.machine_state.specs.Steps.{pending}
use Rattle.calling_steps.proofs.outputs.print.Goals as goal

pub drop_newest-requires : goal.drop_newest-requires
drop_newest-requires g c = record {
  operand = omega (arith, c.requires.operand, c.show.ensures.count);
  lawful = (c.show.ensures.keeps.lawful c.requires.lawful.0 c.requires.lawful.1).desk.entries;
  held = holds_entries c.show.new.machine (c.requires.lawful.0, c.show.ensures.keeps.lawful c.requires.lawful.0 c.requires.lawful.1);
}

pub returns-clause-prints : goal.returns-clause-prints
returns-clause-prints g c =
    let dropped : Machine = record c.show.new.machine { store = c.drop_newest.new.store; stack = c.drop_newest.new.stack } in
    printed (pending c.args.machine.now) c.show.new.machine dropped _ _ (omega (arith, c.requires.operand, c.show.ensures.count)) c.drop_newest.ensures.dropped c.in_ok-show.ensures.shows

pub returns-clause-keeps : goal.returns-clause-keeps
returns-clause-keeps g c =
    let dropped : Machine = record c.show.new.machine { store = c.drop_newest.new.store; stack = c.drop_newest.new.stack } in
    keeps_then c.args.machine.now c.show.new.machine dropped c.show.ensures.keeps (keeps c.show.new.machine dropped refl refl c.drop_newest.ensures.moves)
