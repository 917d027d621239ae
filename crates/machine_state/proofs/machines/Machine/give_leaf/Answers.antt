use Rattle.std.proofs.Common.{refl}
use Rattle.machine_state.proofs.GivesLemmas.{gives}
use Rattle.machine_state.proofs.machines.Machine.give_leaf.Goals as goal

pub returns-in-Ok-clause-gives : goal.returns-in-Ok-clause-gives
returns-in-Ok-clause-gives c =
    gives _ _ c.args.name.now c.args.leaf refl refl c.in-Ok.ensures.means c.in-Ok.ensures.lawful c.in-Ok.ensures.fills c.in-Ok.ensures.follows
