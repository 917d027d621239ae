-- What is read along one axis.
use Rattle.std.specs.Prelude.{ℕ, ◌+◌, ◌^◌, ◌<◌, ◌≤◌, ℤ, pos, ◌+ℤ◌, ◌-ℤ◌, ◌*ℤ◌, ◌≤ℤ◌, ◌<ℤ◌, List, [], ◌∷◌, ◌++◌, length, map, replicate, Option, Some, None, All}
use Rattle.apl_base.specs.Array.{Array}
use Rattle.apl_base.specs.Number.{IsNumber}
use Rattle.apl_base.specs.Selection.{upward}
use Rattle.array_store.specs.Places.{PlacesWithin}
use Rattle.array_store.specs.Stores.{StoreView}
use Rattle.drag_along.specs.declared.leaves.Leaf.{Leaf}
use Rattle.apl_model_laws.specs.Lawful.{IsOrigin}
use Rattle.made_picks.specs.declared.tracks.Track.{Track}
use Rattle.made_picks.specs.declared.tracks.Track.TheVariants.{Line, Listed}
use Rattle.made_picks.specs.Picks.{IsReadable}

-- so many numbers that lie a step apart
abbrev pub stepped : ℤ → ℤ → ℕ → List (Option ℤ)
stepped from step count = map (λ j. Some (from +ℤ (step *ℤ pos j))) (upward 0 count)

-- the numbers on the axis that a track reads, in order
abbrev pub places_on : Track → List (Option ℤ)
places_on (Line before from step count after) = replicate before None ++ stepped from step count ++ replicate after None
places_on (Listed values origin) = map (λ v. Some (v -ℤ origin)) values.items

-- a number of the language counted from an origin names a place of an axis of length n
abbrev pub Names : ℤ → ℕ → ℤ → Type 0
Names origin n v = (origin ≤ℤ v) × (v <ℤ (origin +ℤ pos n))

-- each number that a track reads is one of an axis of length n
abbrev pub FitsAxis : ℕ → Track → Type 0
FitsAxis n (Line before from step count after) = PlacesWithin n from step count × (before + count + after ≤ 2 ^ 40)
FitsAxis n (Listed values origin) = All (Names origin n) values.items × (length values.items ≤ 2 ^ 40) × IsOrigin origin

-- and so for each axis of these lengths
abbrev pub FitAxes : List ℕ → List Track → Type 0
FitAxes [] [] = Unit {0}
FitAxes (n ∷ ns) (t ∷ ts) = FitsAxis n t × FitAxes ns ts
FitAxes [] (t ∷ ts) = ⊥
FitAxes (n ∷ ns) [] = ⊥

-- what a position names on an axis of length n: each number less the origin, or the whole axis
abbrev pub named_on : ℤ → ℕ → Option Array → List (Option ℤ)
named_on origin n None = map (λ i. Some (pos i)) (upward 0 n)
named_on origin n (Some p) = map (λ v. Some (v -ℤ origin)) p.cells

-- and so for each axis
abbrev pub named_along : ℤ → List ℕ → List (Option Array) → List (List (Option ℤ))
named_along origin (n ∷ ns) (p ∷ ps) = named_on origin n p ∷ named_along origin ns ps
named_along origin ns ps = []

-- ---- what is read along one axis

-- the numbers that a track reads, with this stride behind this number, are those of a leaf
pub record CanPick (store : StoreView) (leaf : Leaf) (at stride : ℤ) (track : Track) : Type 0 where
  pub along : ℕ
  pub few : along ≤ 2 ^ 40
  pub fits : FitsAxis along track
  pub number : IsNumber at
  pub reached : (i : ℕ) → i < along → IsReadable store leaf (at +ℤ (stride *ℤ pos i))

-- the numbers that a list of values names, counted from an origin, are those of a leaf
pub record CanRead (store : StoreView) (leaf : Leaf) (at stride origin : ℤ) (values : List ℤ) : Type 0 where
  pub along : ℕ
  pub few : along ≤ 2 ^ 40
  pub counted : IsOrigin origin
  pub number : IsNumber at
  pub named : All (Names origin along) values
  pub reached : All (λ v. IsReadable store leaf (at +ℤ (stride *ℤ (v -ℤ origin)))) values
