use Rattle.apl_cost.proofs.Selecting.{takes_have_lengths, drops_have_lengths, transposes_have_lengths, reversals_have_lengths, subscripts_have_lengths}
use Rattle.apl_cost.proofs.laws.selections_have_lengths.Goals as goal

pub returns-clause-takes : goal.returns-clause-takes
returns-clause-takes c = takes_have_lengths

pub returns-clause-drops : goal.returns-clause-drops
returns-clause-drops c = drops_have_lengths

pub returns-clause-transposes : goal.returns-clause-transposes
returns-clause-transposes c = transposes_have_lengths

pub returns-clause-reversals : goal.returns-clause-reversals
returns-clause-reversals c = reversals_have_lengths

pub returns-clause-subscripts : goal.returns-clause-subscripts
returns-clause-subscripts c = subscripts_have_lengths
