use Rattle.forcing_tests.proofs.leaves.holds_and_copies.Goals as goal

pub force_beside-requires-clause-lawful : goal.force_beside-requires-clause-lawful
force_beside-requires-clause-lawful c = c.in_ok-s.ensures.lawful

pub force_beside-requires-clause-other : goal.force_beside-requires-clause-other
force_beside-requires-clause-other c = c.in_ok-s.ensures.lawful

pub force_beside-requires-clause-held : goal.force_beside-requires-clause-held
force_beside-requires-clause-held c = c.in_ok-s.ensures.held

pub own_beside-requires-clause-lawful : goal.own_beside-requires-clause-lawful
own_beside-requires-clause-lawful c = c.in_ok-held.ensures.answer

pub own_beside-requires-clause-other : goal.own_beside-requires-clause-other
own_beside-requires-clause-other c = c.in_ok-held.ensures.other

pub own_beside-requires-clause-held : goal.own_beside-requires-clause-held
own_beside-requires-clause-held c = c.in_ok-held.ensures.held

pub listed-requires : goal.listed-requires
listed-requires c = c.in_ok-copy.ensures.answer
