use Rattle.made_tests.proofs.calls.counted.Goals as goal

pub returns-in-Ok : goal.returns-in-Ok
returns-in-Ok c = (c.in-Ok.ensures.interval.stands c.iota.new.store).lawful
