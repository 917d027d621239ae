-- The laws of stacks, each of which a public function's contract states.
use Rattle.std.specs.Prelude.{◌≡◌, ℕ, ◌+◌, ◌<◌, ℤ, List, [], ◌∷◌, ◌++◌, length, drop, None, Some, slice_get}
use Rattle.array_store.specs.Stores.{StoreView, holders_of, cells_of, with_cell}
use Rattle.array_store.specs.Follows.{LeafCounts, Follows, Holds, both}
use Rattle.drag_along.specs.Segments.{SegmentView, named_by}
use Rattle.drag_along.specs.Lawful.{IsLawful, SameData}
use Rattle.value_stack.specs.Stacks.{named_on, entries, Reads, IsLeastOrNone, IsLawfulStack, IsHeldBy, IsReplaced}

-- the leaves of one part, and those of the other
abbrev pub NamedOnBoth : Type 0
NamedOnBoth =
    (older younger : List SegmentView) (key : ℕ)
    → named_on (older ++ younger) key ≡ named_on older key + named_on younger key

-- where no entry from a position on reads an owner, no leaf of these entries names it
abbrev pub UnreadIsUnnamed : Type 0
UnreadIsUnnamed =
    (stack : List SegmentView) (key from : ℕ) → IsLeastOrNone (Reads key) stack from None
    → named_on (drop from stack) key ≡ 0

-- an entry of a lawful stack is lawful
abbrev pub EntryIsLawful : Type 0
EntryIsLawful =
    (store : StoreView) (stack : List SegmentView) (at : ℕ) (segment : SegmentView) → IsLawfulStack store stack
    → slice_get stack at ≡ Some segment → IsLawful store segment

-- over the same data of the owners that its leaves name a stack is lawful, and means the same
abbrev pub StackKept : Type 0
StackKept =
    (old new : StoreView) (stack : List SegmentView) → SameData old new (named_on stack) → IsLawfulStack old stack
    → IsLawfulStack new stack × (entries new stack ≡ entries old stack)

-- entries go and others come between older and younger ones, while leaves in hand go and come and others stay
-- beside: where the holders follow, and those that came are lawful, all of the stack is, and the entries that
-- stayed mean what they meant
abbrev pub Replaced : Type 0
Replaced =
    (old new : StoreView) (older gone came younger : List SegmentView) (before after beside : LeafCounts)
    → IsLawfulStack old ((older ++ gone) ++ younger)
    → IsHeldBy old ((older ++ gone) ++ younger) (both before beside)
    → Follows old new (both (named_on gone) before) (both (named_on came) after)
    → IsLawfulStack new came
    → IsReplaced old new older came younger (both after beside)

-- so an entry that is pushed leaves all others as they were
abbrev pub PushedStack : Type 0
PushedStack =
    (old new : StoreView) (stack : List SegmentView) (pushed : SegmentView) (before after beside : LeafCounts)
    → IsLawfulStack old stack → IsHeldBy old stack (both before beside)
    → Follows old new before (both (named_by pushed) after) → IsLawful new pushed
    → IsReplaced old new stack (pushed ∷ []) [] (both after beside)

-- and a cell that is written in an owner which no entry reads changes no meaning
abbrev pub UnreadWritten : Type 0
UnreadWritten =
    (store : StoreView) (stack : List SegmentView) (key place : ℕ) (cell : ℤ) → 0 < holders_of store key
    → place < length (cells_of store key) → Holds store (named_on stack)
    → IsLeastOrNone (Reads key) stack 0 None → IsLawfulStack store stack
    → IsLawfulStack (with_cell store key place cell) stack
    × (entries (with_cell store key place cell) stack ≡ entries store stack)
