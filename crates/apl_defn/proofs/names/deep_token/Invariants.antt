use Rattle.apl_defn.proofs.DepthLemmas.{IsShallow}
use Rattle.apl_defn.proofs.names.deep_token.Given as goal

abbrev pub invariant-loop-token : goal.invariant-loop-token
invariant-loop-token l = IsShallow l.line.tokens l.token-index l.depth
