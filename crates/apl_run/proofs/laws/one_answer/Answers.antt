use Rattle.apl_run.proofs.AnswerLemmas.{one_answer}
use Rattle.apl_run.proofs.laws.one_answer.Goals as goal

pub returns : goal.returns
returns c = one_answer
