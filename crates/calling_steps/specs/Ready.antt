-- Steps that are done one after the other: the newest entry computed in its place, leaves in hand, and variables that change.
use Rattle.std.specs.Prelude.{◌≡◌, ℕ, ◌-◌, Bool, List, [], ◌∷◌, ◌++◌, map, length, Option, Some, is_some, slice_get}
use Rattle.std.specs.Option.{option_to_list}
use Rattle.apl_base.specs.Array.{Array}
use Rattle.array_store.specs.Follows.{LeafCounts, both}
use Rattle.drag_along.specs.declared.leaves.Leaf.{Leaf}
use Rattle.drag_along.specs.Nodes.{functions_in, named_by_leaf}
use Rattle.drag_along.specs.Segments.{SegmentView, IsSegment}
use Rattle.drag_along.specs.Meaning.{Means}
use Rattle.drag_along.specs.Views.{only_leaf, StandsForArray}
use Rattle.apl_model.specs.Environment.{Environment, without_frame}
use Rattle.apl_model.specs.Frames.{result_in}
use Rattle.leaf_names.specs.Variables.{array_of}
use Rattle.name_table.specs.Laws.{with_argument}
use Rattle.machine_state.specs.declared.machines.Machine.{Machine}
use Rattle.machine_state.specs.StandsFor.{IsLawfulMachine, variables}
use Rattle.machine_state.specs.Steps.{pending, Keeps}

-- all entries mean arrays
abbrev pub AreArrays : Machine → Type 0
AreArrays m = (arrays : List Array) × (pending m ≡ map (λ a. Means a) arrays)

-- the newest entry has no function pending
abbrev pub IsComputed : List SegmentView → Type 0
IsComputed stack = (s : SegmentView) → slice_get stack (length stack - 1) ≡ Some s → functions_in s.nodes ≡ 0

-- the newest entry is this leaf
pub record IsNewest (stack : List SegmentView) (leaf : Leaf) : Type 0 where
  pub older : List SegmentView
  pub newest : SegmentView
  pub are : stack ≡ older ++ newest ∷ []
  pub segment : IsSegment newest
  pub only : only_leaf newest.nodes ≡ Some leaf

-- the newest entry went, and a leaf is in hand that stands for its array
pub record TakesInHand (old new : Machine) (leaf : Leaf) : Type 0 where
  pub older : List Array
  pub array : Array
  pub were : pending old ≡ map (λ a. Means a) (older ++ array ∷ [])
  pub are : pending new ≡ map (λ a. Means a) older
  pub stands : StandsForArray new.store leaf array
  pub lawful : (hand : LeafCounts) → IsLawfulMachine old hand → IsLawfulMachine new (both (named_by_leaf leaf) hand)
  pub variables : (hand : LeafCounts) → IsLawfulMachine old hand → variables new ≡ variables old
  pub limit : new.store.limit ≡ old.store.limit

-- the newest entry went, where one was asked for, and its array was given to the name, where there is one
pub record Passes (old new : Machine) (asked : Bool) (name : Option (List ℕ)) : Type 0 where
  pub older : List Array
  pub value : Option Array
  pub given : is_some value ≡ asked
  pub were : pending old ≡ map (λ a. Means a) (older ++ option_to_list value)
  pub are : pending new ≡ map (λ a. Means a) older
  pub lawful : (hand : LeafCounts) → IsLawfulMachine old hand → IsLawfulMachine new hand
  pub variables : (hand : LeafCounts) → IsLawfulMachine old hand → variables new ≡ with_argument name value (variables old)
  pub limit : new.store.limit ≡ old.store.limit

-- the variables became these, and the entries mean what they meant
pub record Changes (old new : Machine) (to : Environment Array → Environment Array) : Type 0 where
  pub lawful : (hand : LeafCounts) → IsLawfulMachine old hand → IsLawfulMachine new hand
  pub variables : (hand : LeafCounts) → IsLawfulMachine old hand → variables new ≡ to (variables old)
  pub pending : (hand : LeafCounts) → IsLawfulMachine old hand → pending new ≡ pending old
  pub limit : new.store.limit ≡ old.store.limit

-- a leaf that was in hand was given to the name, or let go where there is none
pub record GivesTo (old new : Machine) (name : Option (List ℕ)) (leaf : Leaf) : Type 0 where
  pub lawful : (hand : LeafCounts) → IsLawfulMachine old (both (named_by_leaf leaf) hand) → IsLawfulMachine new hand
  pub variables : (hand : LeafCounts) → IsLawfulMachine old (both (named_by_leaf leaf) hand)
      → variables new ≡ with_argument name (Some (array_of old.store leaf)) (variables old)
  pub pending : (hand : LeafCounts) → IsLawfulMachine old (both (named_by_leaf leaf) hand) → pending new ≡ pending old
  pub limit : new.store.limit ≡ old.store.limit

-- the value of the name, where there is one, came as the newest entry
pub record PutsResult (old new : Machine) (name : Option (List ℕ)) : Type 0 where
  pub keeps : Keeps old new
  pub puts : pending new ≡ pending old ++ map (λ a. Means a) (option_to_list (result_in (variables old) name))

-- the innermost frame went, and all else means what it meant
pub record UnwindsOne (old new : Machine) : Type 0 where
  pub changes : Changes old new without_frame
  pub names : new.names ≡ without_frame old.names
  pub stack : new.stack ≡ old.stack
  pub counts : new.store.counts ≡ old.store.counts
