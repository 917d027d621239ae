use Rattle.standing.proofs.StandLemmas.{one_is_joined, two_are_joined, unfit_ends}
use Rattle.standing.proofs.laws.joins_stand.Goals as goal

pub returns : goal.returns
returns c = record { one = one_is_joined; two = two_are_joined; unfit = unfit_ends }
