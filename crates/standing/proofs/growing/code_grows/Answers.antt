use Rattle.standing.proofs.GrowingLemmas.{code_grows, functions_grow}
use Rattle.standing.proofs.growing.code_grows.Goals as goal

pub returns : goal.returns
returns c = record { code = code_grows; functions = functions_grow }
