use Rattle.std.proofs.Common.{rules}
use Rattle.command_steps.proofs.Erasures.{erased_one}
use Rattle.command_steps.proofs.commands.erase.Goals as goal

pub loop-name-preserved : goal.loop-name-preserved
loop-name-preserved c =
    erased_one c.args.machine.now c.loop-name.machine _ c.args.names.now c.loop-name.name-index c.name-item.result (search rules) (search rules) c.loop-name.invariant (search rules)
    c.erase.ensures.erased c.erase.ensures.means c.erase.ensures.leaves
