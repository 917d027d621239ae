use Rattle.drag_along.proofs.KeptLemmas.{follows_keeps, leaf_kept, segment_kept}
use Rattle.drag_along.proofs.LeafLemmas.{leaf_cells_lawful}
use Rattle.drag_along.proofs.laws.store_laws.Goals as goal

pub returns : goal.returns
returns c = record { follows = follows_keeps; leaf = leaf_kept; cells = leaf_cells_lawful; segment = segment_kept }
