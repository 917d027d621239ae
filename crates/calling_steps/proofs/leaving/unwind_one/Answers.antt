use Rattle.calling_steps.proofs.LeaveLemmas.{unwound}
use Rattle.calling_steps.proofs.leaving.unwind_one.Goals as goal

pub returns-clause-unwinds : goal.returns-clause-unwinds
returns-clause-unwinds c =
    unwound c.args.machine.now c.unwind.new.store c.unwind.new.self c.unwind.ensures.unwound c.unwind.ensures.means c.unwind.ensures.leaves c.requires.lawful
