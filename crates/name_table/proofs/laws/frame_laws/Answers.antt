use Rattle.name_table.proofs.CallLemmas.{call_frame_is_filled}
use Rattle.name_table.proofs.laws.frame_laws.Goals as goal

pub returns : goal.returns
returns g c = call_frame_is_filled _
