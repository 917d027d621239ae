-- What a reduction answers.
use Rattle.std.specs.Prelude.{◌≡◌, ℕ, ◌-◌, ◌*◌, ◌<◌, pos, ◌-ℤ◌, unsigned_abs, List, length, remove, slice_index, Result, Ok, Err}
use Rattle.apl_base.specs.declared.faults.ErrorKind.TheVariants as error
use Rattle.apl_base.specs.declared.rows.Dya.{Dya}
use Rattle.apl_base.specs.Array.{size_of}
use Rattle.array_store.specs.Stores.{StoreView}
use Rattle.array_store.specs.Counting.{OnlyComputed}
use Rattle.drag_along.specs.declared.leaves.Leaf.{Leaf}
use Rattle.drag_along.specs.Nodes.{leaf_shape}
use Rattle.apl_model.specs.declared.functions.Axis.{Axis}
use Rattle.apl_model.specs.declared.functions.Axis.TheVariants.{Last, First, Numbered}
use Rattle.apl_model.specs.Made.{on_axis}
use Rattle.apl_model.specs.Whole.{Answer}
use Rattle.apl_model.specs.Product.{reduce, reduced_along}
use Rattle.made_leaf.specs.declared.faults.MadeFault.{MadeFault}
use Rattle.made_leaf.specs.Made.{IsMadeAsking}
use Rattle.leaf_names.specs.Variables.{array_of}

-- `f/B` along an axis, of the array that a leaf stands for; an axis [K] counts from 1
abbrev pub reduce_of : StoreView → Dya → Axis → Leaf → Answer
reduce_of store f axis b = reduce (pos 1) f axis (array_of store b)

-- the number of the axis among r, counted from 0
abbrev pub axis_number : Axis → ℕ → ℕ
axis_number Last r = r - 1
axis_number First r = 0
axis_number (Numbered k) r = unsigned_abs (k -ℤ pos 1)

-- the lengths without it
abbrev pub reduced_shape : Axis → List ℕ → List ℕ
reduced_shape axis ns = remove ns (axis_number axis (length ns))

-- for each element of the result the function is applied once less than the axis is long
abbrev pub reduce_applications : Axis → List ℕ → ℕ
reduce_applications axis ns = size_of (reduced_shape axis ns) * (slice_index ns (axis_number axis (length ns)) - 1)

-- along an axis that is counted from 0
abbrev pub along_applications : ℕ → List ℕ → ℕ
along_applications axis ns = size_of (remove ns axis) * (slice_index ns axis - 1)

-- ---- room

-- an array, or a DOMAIN ERROR: no error comes before room is asked for
abbrev pub Asks : Answer → Type 0
Asks (Ok a) = Unit {0}
Asks (Err error.Domain) = Unit {0}
Asks (Err e) = ⊥

-- then it is asked for as many elements as a shape has
abbrev pub AsksForShape : Answer → List ℕ → ℕ → Type 0
AsksForShape answer ns n = Asks answer × (n ≡ size_of ns)

-- functions were applied and cells fetched, at most so many
abbrev pub Applied : StoreView → ℕ → ℕ → StoreView → Type 0
Applied old functions cells new = OnlyComputed old new functions cells

-- this is the number of the axis
pub record IsAxisOf (axis : Axis) (rank number : ℕ) : Type 0 where
  pub within : number < rank
  pub is : number ≡ axis_number axis rank
  pub makes : (make : ℕ → Answer) → on_axis (pos 1) axis rank make ≡ make number

-- what a reduction along an axis answers, counted from 0
abbrev pub IsReducedAlong : StoreView → StoreView → Dya → ℕ → Leaf → Result Leaf MadeFault → Type 0
IsReducedAlong old new f axis b result =
    let answer : Answer = reduced_along f axis (array_of old b) in
    IsMadeAsking (Applied old (along_applications axis (leaf_shape b)) (size_of (leaf_shape b)))
    (AsksForShape answer (remove (leaf_shape b) axis)) old new answer result
