-- The laws of this crate's definitions, each of which a public function's contract states.
use Rattle.std.specs.Prelude.{◌≡◌, ℕ, Result, Ok, Err}
use Rattle.apl_base.specs.Array.{Array, IsArray}
use Rattle.array_desc.specs.Desc.{IsDesc}
use Rattle.array_store.specs.Stores.{StoreView, IsStore}
use Rattle.array_store.specs.Counting.{OnlyCounted}
use Rattle.array_store.specs.Follows.{LeafCounts, Follows, Holds, none}
use Rattle.drag_along.specs.declared.leaves.Leaf.{Leaf}
use Rattle.drag_along.specs.Nodes.{leaf_desc}
use Rattle.drag_along.specs.Segments.{SegmentView, named_by}
use Rattle.drag_along.specs.Meaning.{entry}
use Rattle.drag_along.specs.Lawful.{IsLawfulLeaf, IsLawful, SameData}
use Rattle.drag_along.specs.Views.{StandsForArray}
use Rattle.e_machine.specs.Forced.{IsNewLeaf, named_by_answer}
use Rattle.apl_model.specs.Whole.{Answer}
use Rattle.made_leaf.specs.declared.faults.MadeFault.{MadeFault}
use Rattle.leaf_names.specs.Variables.{array_of}
use Rattle.made_leaf.specs.Made.{IsMadeBy, Fetched}

-- whatever is answered, nothing was done with the store but to count and to make the owner of the leaf
abbrev pub OnlyMade : StoreView → StoreView → Result Leaf MadeFault → Type 0
OnlyMade old new (Ok leaf) = (a : Array) × IsNewLeaf (OnlyCounted old) new a leaf
OnlyMade old new (Err why) = OnlyCounted old new

-- so it is with functions that only fetch
abbrev pub MadeIsOnlyMade : Type 0
MadeIsOnlyMade =
    (old new : StoreView) (most : ℕ) (answer : Answer) (result : Result Leaf MadeFault)
    → IsMadeBy (Fetched old most) old new answer result → OnlyMade old new result

-- a leaf that was made stands for its array
abbrev pub MadeStands : Type 0
MadeStands =
    (old new : StoreView) (a : Array) (leaf : Leaf) → IsNewLeaf (OnlyCounted old) new a leaf
    → StandsForArray new leaf a

-- holders follow leaves
abbrev pub MadeFollows : Type 0
MadeFollows =
    (old new : StoreView) (result : Result Leaf MadeFault) → OnlyMade old new result
    → Follows old new none (named_by_answer result)

-- leaves whose owners are held keep their data, and are held
abbrev pub OthersKept : Type 0
OthersKept =
    (old new : StoreView) (result : Result Leaf MadeFault) (leaves : LeafCounts) → OnlyMade old new result
    → Holds old leaves → SameData old new leaves × Holds new leaves

-- an argument stays lawful and stands for the same array
abbrev pub ArgumentKept : Type 0
ArgumentKept =
    (old new : StoreView) (result : Result Leaf MadeFault) (leaf : Leaf) → OnlyMade old new result
    → IsLawfulLeaf old leaf
    → IsLawfulLeaf new leaf × (array_of new leaf ≡ array_of old leaf)

-- a pending expression whose leaves are held stays lawful, and means the same
abbrev pub PendingKept : Type 0
PendingKept =
    (old new : StoreView) (result : Result Leaf MadeFault) (segment : SegmentView) → OnlyMade old new result
    → Holds old (named_by segment) → IsLawful old segment
    → IsLawful new segment × (entry new segment ≡ entry old segment)

-- ---- arguments

-- a lawful leaf stands for a lawful array
abbrev pub LeavesAreArrays : Type 0
LeavesAreArrays =
    (store : StoreView) (leaf : Leaf) → IsStore store → IsDesc (leaf_desc leaf) → IsLawfulLeaf store leaf
    → IsArray (array_of store leaf)
