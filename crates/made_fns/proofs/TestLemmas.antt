-- What a leaf that was answered is.
use Rattle.std.proofs.Common.{ℕ, Ok}
use Rattle.array_store.specs.Stores.{StoreView}
use Rattle.drag_along.specs.declared.leaves.Leaf.{Leaf}
use Rattle.drag_along.specs.Lawful.{IsLawfulLeaf}
use Rattle.apl_model.specs.Whole.{Answer}
use Rattle.made_leaf.specs.Made.{Fetched, IsAnswered}
use Rattle.made_leaf.proofs.MadeLemmas.{made_is_only_made, made_stands}

-- it is lawful over the store as it now is
pub answered_lawful : (old new : StoreView) (most : ℕ) (answer : Answer) (leaf : Leaf) → IsAnswered (Fetched old most) new answer leaf → IsLawfulLeaf new leaf
answered_lawful old new most answer leaf made =
    let only = made_is_only_made old new most answer (Ok leaf) made in
    (made_stands old new only.0 leaf only.1).lawful
