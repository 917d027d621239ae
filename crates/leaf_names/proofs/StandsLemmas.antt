-- A leaf that stands for an array.
use Rattle.std.proofs.Common.{◌≡◌, ℕ, List, sym, ap, ◌∙◌}
use Rattle.apl_base.specs.Array.{Array}
use Rattle.array_store.specs.Stores.{StoreView}
use Rattle.drag_along.specs.declared.leaves.Leaf.{Leaf}
use Rattle.drag_along.specs.Nodes.{named_by_leaf}
use Rattle.drag_along.specs.Meaning.{leaf_array}
use Rattle.drag_along.specs.Lawful.{SameData}
use Rattle.drag_along.specs.Views.{StandsForArray}
use Rattle.drag_along.proofs.KeptLemmas.{leaf_kept}
use Rattle.leaf_names.specs.Variables.{array_of}
use Rattle.leaf_names.proofs.KeptLemmas.{array_kept}

-- it is of that array
pub array_is : (store : StoreView) (leaf : Leaf) (a : Array) → StandsForArray store leaf a → array_of store leaf ≡ a
array_is store leaf a stands = ap (λ (ns : List ℕ). leaf_array store ns leaf) stands.shape.same ∙ stands.array

-- and does so over the same data
pub stands_kept : (old new : StoreView) (leaf : Leaf) (a : Array) → SameData old new (named_by_leaf leaf) → StandsForArray old leaf a → StandsForArray new leaf a
stands_kept old new leaf a same s = record {
  lawful = (leaf_kept old new leaf same s.lawful).0;
  shape = s.shape;
  kind = s.kind;
  array =
      ap (λ (ns : List ℕ). leaf_array new ns leaf) (sym s.shape.same)
      ∙ array_kept old new leaf same s.lawful
      ∙ ap (λ (ns : List ℕ). leaf_array old ns leaf) s.shape.same
      ∙ s.array;
}
