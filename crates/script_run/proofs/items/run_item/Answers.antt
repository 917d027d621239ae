use Rattle.script_run.proofs.OutlineLemmas.{has-command, item-of-command, item-of-line}
use Rattle.script_run.proofs.items.run_item.Goals as goal

pub run_command-requires-clause-command : goal.run_command-requires-clause-command
run_command-requires-clause-command g c = has-command _ _ _ _ _ c.in-Command.is c.requires.item

pub returns-in-Statement : goal.returns-in-Statement
returns-in-Statement g c = item-of-line _ _ _ _ _ _ _ _ c.in-Statement.is c.run_line.ensures

pub returns-in-Command : goal.returns-in-Command
returns-in-Command g c = item-of-command _ _ _ _ _ _ _ _ _ c.in-Command.is (c.run_command.ensures _ _)
