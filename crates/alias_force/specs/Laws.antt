-- The laws of what a machine holds, each of which a public function's contract states.
use Rattle.std.specs.Prelude.{◌≡◌, ℕ, ℤ, List, [], map, None}
use Rattle.std.specs.List.{filter}
use Rattle.apl_base.specs.declared.cells.Kind.{Kind}
use Rattle.apl_base.specs.Array.{Array}
use Rattle.array_desc.specs.Desc.{DescView}
use Rattle.array_store.specs.Stores.{StoreView}
use Rattle.array_store.specs.Follows.{LeafCounts, Follows, both}
use Rattle.drag_along.specs.declared.leaves.Leaf.{Leaf}
use Rattle.drag_along.specs.declared.leaves.Leaf.TheVariants.{Stored}
use Rattle.drag_along.specs.Segments.{SegmentView}
use Rattle.drag_along.specs.Meaning.{Means}
use Rattle.value_stack.specs.Stacks.{named_on, entries, MayFail, Reads, IsLeastOrNone, IsLawfulStack}
use Rattle.apl_model.specs.Environment.{Environment}
use Rattle.leaf_names.specs.Variables.{variables_of}
use Rattle.alias_force.specs.Desk.{IsLawfulDesk}
use Rattle.alias_force.specs.Moving.{may_fail}
use Rattle.alias_force.specs.Writing.{reads}

-- where entries and leaves in hand go and come, and holders follow them, the desk stays lawful with all other leaves in
-- hand, and the names stand for the same variables
abbrev pub DeskFollows : Type 0
DeskFollows =
    (old new : StoreView) (names : Environment Leaf) (before after : List SegmentView) (gone came hand : LeafCounts)
    → IsLawfulDesk old names before (both gone hand)
    → Follows old new (both (named_on before) gone) (both (named_on after) came)
    → IsLawfulStack new after
    → IsLawfulDesk new names after (both came hand) × ((origin : ℤ) → variables_of new origin names ≡ variables_of old origin names)

-- where no entry may fail, each means an array
abbrev pub SafeMeans : Type 0
SafeMeans =
    (store : StoreView) (stack : List SegmentView) → IsLawfulStack store stack → IsLeastOrNone MayFail stack 0 None
    → (arrays : List Array) × (entries store stack ≡ map (λ a. Means a) arrays)

-- and none is to be settled
abbrev pub SafeIsSettled : Type 0
SafeIsSettled = (stack : List SegmentView) → IsLeastOrNone MayFail stack 0 None → filter may_fail stack ≡ []

-- where no entry reads an owner, none is to be moved for a leaf of it
abbrev pub UnreadIsClear : Type 0
UnreadIsClear =
    (stack : List SegmentView) (owner : ℕ) (desc : DescView) (kind : Kind) → IsLeastOrNone (Reads owner) stack 0 None
    → filter (reads (Stored owner desc kind)) stack ≡ []
