use Rattle.std.proofs.Common.{take, []}
use Rattle.apl_model.specs.declared.scripts.Command.TheVariants.{Erase}
use Rattle.command_steps.specs.Obeyed.{Obeys}
use Rattle.command_steps.proofs.commands.erase.Given as goal

abbrev pub invariant-loop-name : goal.invariant-loop-name
invariant-loop-name l = Obeys [] (Erase (take l.name-index l.fn.names)) l.fn.machine l.machine
