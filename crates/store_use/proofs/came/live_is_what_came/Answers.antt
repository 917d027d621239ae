use Rattle.store_use.proofs.Charges.{live_of_came}
use Rattle.store_use.proofs.came.live_is_what_came.Goals as goal

pub returns : goal.returns
returns c = live_of_came
