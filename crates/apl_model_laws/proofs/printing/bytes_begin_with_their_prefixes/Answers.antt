use Rattle.apl_model_laws.proofs.Behind.{bytes_begin_with_their_prefixes}
use Rattle.apl_model_laws.proofs.printing.bytes_begin_with_their_prefixes.Goals as goal

pub returns : goal.returns
returns c = bytes_begin_with_their_prefixes
