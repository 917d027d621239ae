use Rattle.made_tests.proofs.CallLemmas.{made_lawful, two_places}
use Rattle.made_tests.proofs.calls.gather_two.Goals as goal

pub gather-requires-clause-positions : goal.gather-requires-clause-positions
gather-requires-clause-positions c = two_places _ _ _ c.requires.first c.requires.second

pub returns : goal.returns
returns c = made_lawful _ _ _ _ _ c.gather.ensures.made
