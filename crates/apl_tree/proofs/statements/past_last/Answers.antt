use Rattle.apl_tree.proofs.Runs.{past_last-last}
use Rattle.apl_tree.proofs.statements.past_last.Goals as goal

pub returns-in-Some : goal.returns-in-Some
returns-in-Some c = past_last-last c.args.tokens.now c.in-Some.token.now c.in-Some.ensures.value
