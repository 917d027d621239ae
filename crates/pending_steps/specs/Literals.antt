-- The leaves of literals.
use Rattle.std.specs.Prelude.{◌≡◌, ℤ, List, [], ◌∷◌}
use Rattle.apl_base.specs.declared.cells.Kind.{Kind}
use Rattle.apl_base.specs.Array.{Array}
use Rattle.array_store.specs.Stores.{StoreView}
use Rattle.drag_along.specs.declared.leaves.Leaf.{Leaf}
use Rattle.drag_along.specs.Nodes.{named_by_leaf}
use Rattle.drag_along.specs.Views.{StandsForArray}
use Rattle.apl_model.specs.Evaluation.{literal_shape}
use Rattle.std.specs.Prelude.{ℕ}

-- the array of these cells of a literal
abbrev pub literal_of : Kind → List ℤ → Array
literal_of kind cells = record { kind = kind; shape = literal_shape cells; cells = cells }

-- a leaf that is not stored stands for one cell, over every store
pub record IsLiteralLeaf (kind : Kind) (cell : ℤ) (leaf : Leaf) : Type 0 where
  pub stands : (store : StoreView) → StandsForArray store leaf (literal_of kind (cell ∷ []))
  pub names : (key : ℕ) → named_by_leaf leaf key ≡ 0
