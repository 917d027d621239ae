use Rattle.std.proofs.Common.{refl}
use Rattle.drag_along.specs.Meaning.{entry}
use Rattle.drag_along.proofs.examples.meaning_examples.Goals as goal

pub returns : goal.returns
unfolding entry
returns c = record { array = refl; both = refl; left = refl }
