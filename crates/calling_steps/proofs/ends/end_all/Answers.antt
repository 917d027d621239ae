use Rattle.std.proofs.Common.{arith, refl}
use Rattle.machine_state.specs.declared.machines.Machine.{Machine}
use Rattle.calling_steps.proofs.ReadyLemmas.{holds_entries}
use Rattle.calling_steps.proofs.LeaveLemmas.{entry_gone_too, frame_gone_too, frame_is_there, go_beside, no_entry_gone}
use Rattle.calling_steps.proofs.ends.end_all.Goals as goal

pub unwind_one-requires : goal.unwind_one-requires
unwind_one-requires c = record {
  frame = frame_is_there c.args.machine.now c.loop.machine c.loop.counter _ c.loop-test.true c.loop.invariant;
  lawful = (c.requires.lawful.0, c.loop.invariant.unwinds.lawful c.requires.lawful.0 c.requires.lawful.1);
}

pub loop-preserved : goal.loop-preserved
loop-preserved c = frame_gone_too c.args.machine.now c.loop.machine c.unwind_one.new.machine c.loop.counter _ c.loop-test.true c.loop.invariant c.unwind_one.ensures.unwinds c.unwind_one.ensures.run

pub loop-2-init : goal.loop-2-init
loop-2-init c = no_entry_gone c.args.machine.now c.loop.machine c.loop.counter _ _ c.loop-test.false c.loop.invariant c.len-end.ensures.value

pub drop_newest-requires : goal.drop_newest-requires
drop_newest-requires c = record {
  operand = omega (arith, c.loop-2.invariant.all, c.loop-2-test.true);
  lawful = (go_beside c.args.machine.now c.loop-2.machine _ _ c.loop-2.invariant).1.desk.entries;
  held = holds_entries c.loop-2.machine (go_beside c.args.machine.now c.loop-2.machine _ _ c.loop-2.invariant);
}

pub loop-2-preserved : goal.loop-2-preserved
loop-2-preserved c =
    let dropped : Machine = record c.loop-2.machine { store = c.drop_newest.new.store; stack = c.drop_newest.new.stack } in
    entry_gone_too c.args.machine.now c.loop-2.machine dropped c.loop-2.counter _ c.loop-2-test.true refl c.drop_newest.ensures.counts (record { turns = refl; begun = refl; traced = refl; costs = refl; origin = refl; limit = c.drop_newest.ensures.moves.follows.limit }) c.loop-2.invariant c.drop_newest.ensures.moves c.drop_newest.ensures.dropped
