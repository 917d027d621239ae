use Rattle.made_tests.proofs.CallLemmas.{made_lawful, one_place}
use Rattle.made_tests.proofs.calls.gather_one.Goals as goal

pub gather-requires-clause-positions : goal.gather-requires-clause-positions
gather-requires-clause-positions c = one_place _ _ c.requires.place

pub returns : goal.returns
returns c = made_lawful _ _ _ _ _ c.gather.ensures.made
