use Rattle.names_use.proofs.SoundLemmas.{nothing_sound}
use Rattle.names_use.proofs.uses.nothing.Goals as goal

pub returns : goal.returns
returns c = nothing_sound c.args.limit c.new-2.result c.new.result c.new-2.ensures c.new.ensures
