use Rattle.apl_read.proofs.FirstRefusal.{first_refusal}
use Rattle.apl_read.proofs.laws.first_reading_refusal.Goals as goal

pub returns : goal.returns
returns c = first_refusal
