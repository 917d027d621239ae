use Rattle.name_table.proofs.CountedLemmas.{named_at_most}
use Rattle.name_table.proofs.laws.count_laws.Goals as goal

pub returns : goal.returns
returns c = named_at_most
