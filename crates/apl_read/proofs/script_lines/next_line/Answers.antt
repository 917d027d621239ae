-- A line ends at the first LF, or with what is left.
use Rattle.apl_read.proofs.LineLemmas.{cut-at, cut-last}
use Rattle.apl_read.proofs.script_lines.next_line.Goals as goal

pub returns-in-Some-clause-first : goal.returns-in-Some-clause-first
returns-in-Some-clause-first c = cut-at c.args.rest.now c.in-Some.at c.requires c.in-Some.ensures

pub returns-in-None-clause-first : goal.returns-in-None-clause-first
returns-in-None-clause-first c = cut-last c.args.rest.now c.requires c.in-None.ensures
