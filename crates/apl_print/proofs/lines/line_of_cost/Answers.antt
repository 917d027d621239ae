use Rattle.std.proofs.Common.{arith}
use Rattle.apl_print.proofs.LineTexts.{cost_bytes}
use Rattle.apl_print.proofs.lines.line_of_cost.Goals as goal

pub returns : goal.returns
returns c = cost_bytes c.args.cost.now _ (omega arith) (omega arith) (omega arith) c.in_ok-text.ensures.ok
