use Rattle.calling_steps.proofs.LeaveLemmas.{left}
use Rattle.calling_steps.proofs.leaving.leave.Goals as goal

pub unwind_one-requires-clause-lawful : goal.unwind_one-requires-clause-lawful
unwind_one-requires-clause-lawful c = (c.requires.lawful.0, c.in_ok-given.ensures.puts.keeps.lawful c.requires.lawful.0 c.requires.lawful.2)

pub returns-clause-leaves : goal.returns-clause-leaves
returns-clause-leaves c =
    left c.args.machine.now c.push_result.new.machine c.unwind_one.new.machine c.args.header.now.result c.push_result.ensures.run.names c.in_ok-given.ensures.puts c.unwind_one.ensures.unwinds
