-- What the worked examples are written in: a store with two vectors, and pending expressions over them.
use Rattle.std.specs.Prelude.{ℕ, ℤ, pos, List, [], ◌∷◌, Some}
use Rattle.apl_base.specs.declared.cells.Kind.TheVariants.{Num}
use Rattle.apl_base.specs.declared.cells.Interval.TheVariants.{Span}
use Rattle.apl_base.specs.declared.faults.Place.{Place}
use Rattle.apl_base.specs.declared.rows.Dya.TheVariants.{Add, Div}
use Rattle.array_store.specs.Stores.{StoreView, new_owner}
use Rattle.drag_along.specs.declared.leaves.Leaf.TheVariants.{Stored, Gen}
use Rattle.drag_along.specs.Segments.{SegmentView, leaf_segment, joined2}

-- a store of the vectors a and b
abbrev pub two_vectors : List ℤ → List ℤ → StoreView
two_vectors a b = record {
  owners = Some (new_owner a Num) ∷ Some (new_owner b Num) ∷ [];
  live = 4;
  limit = 9;
  counts = record { fetched = 0; made = 0; applied = 0 };
}

-- the vector of two elements at a key
abbrev pub vector : ℕ → SegmentView
vector key = leaf_segment (Stored key (record { base = pos 0; strides = pos 1 ∷ []; shape = 2 ∷ [] }) Num) (Span (pos 0) (pos 9))

-- a number, twice
abbrev pub twice : ℤ → SegmentView
twice n = leaf_segment (Gen (record { base = n; strides = pos 0 ∷ []; shape = 2 ∷ [] }) Num) (Span n n)

abbrev pub column : ℕ → Place
column n = record { line = 1; column = n }

-- `(A÷2)+1÷B`, with the columns of its functions
abbrev pub halves_and_parts : SegmentView
halves_and_parts = joined2 Add (column 6) (joined2 Div (column 3) (vector 0) (twice (pos 2))) (joined2 Div (column 8) (twice (pos 1)) (vector 1))
