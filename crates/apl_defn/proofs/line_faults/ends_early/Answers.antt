use Rattle.std.proofs.Common.{ap}
use Rattle.apl_tree.proofs.Runs.{past_last-last}
use Rattle.apl_defn.specs.declared.line_faults.LineFault.TheVariants as fault
use Rattle.apl_defn.proofs.line_faults.ends_early.Goals as goal

pub returns-in-Some : goal.returns-in-Some
returns-in-Some c = ap fault.Stopped (past_last-last c.args.tokens.now c.in-Some.token.now c.in-Some.ensures.value)
