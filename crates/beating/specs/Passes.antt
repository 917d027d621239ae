-- How a subscript is applied to a descriptor: first the items that make no axis longer, where one place is a run of
-- one; then the runs that make one longer; then the axes of which one place is kept go away.
use Rattle.std.specs.Prelude.{◌≡◌, ℕ, Bool, true, false, pos, List, [], ◌∷◌, length, nat_lt, if◌then◌else◌}
use Rattle.apl_base.specs.Array.{IsShape}
use Rattle.apl_base.specs.Selection.{Position, whole, one, run_place}
use Rattle.array_desc.specs.Desc.{RunFits}
use Rattle.array_desc.specs.Steps.{paired}
use Rattle.beating.specs.declared.selections.Item.{Item}
use Rattle.beating.specs.declared.selections.Item.TheVariants as item

-- what of an item is applied to an axis of n elements, in the pass that makes axes longer or in the one that doesn't:
-- a run, or all of the axis
abbrev pub part_of : Bool → Item → ℕ → Item
part_of longer item.All n = item.All
part_of longer (item.At i) n = if longer then item.All else item.Run i (pos 0) 1
part_of true (item.Run from step count) n = if nat_lt n count then item.Run from step count else item.All
part_of false (item.Run from step count) n = if nat_lt n count then item.All else item.Run from step count

-- the length that such a part leaves, the place that it reads, and whether its places are on the axis
abbrev pub part_length : Item → ℕ → ℕ
part_length (item.Run from step count) n = count
part_length item.All n = n
part_length (item.At i) n = n

abbrev pub part_place : Item → ℕ → ℕ
part_place (item.Run from step count) i = run_place from step i
part_place item.All i = i
part_place (item.At p) i = i

abbrev pub PartFits : Item → ℕ → Type 0
PartFits (item.Run from step count) n = RunFits n from step count
PartFits item.All n = Unit {0}
PartFits (item.At i) n = Unit {0}

-- the parts of a pass, and whether each fits its axis
abbrev pub parts_of : Bool → List Item → List ℕ → List Item
parts_of longer items ns = paired (part_of longer) items ns

abbrev pub PartsFit : List Item → List ℕ → Type 0
PartsFit [] [] = Unit {0}
PartsFit (part ∷ parts) (n ∷ ns) = PartFits part n × PartsFit parts ns
PartsFit [] (n ∷ ns) = ⊥
PartsFit (part ∷ parts) [] = ⊥

-- a pass may be made over lengths that make a shape, and leaves such
pub record Passable (longer : Bool) (items : List Item) (ns : List ℕ) : Type 0 where
  pub count : length items ≡ length ns
  pub fit : PartsFit (parts_of longer items ns) ns
  pub before : IsShape ns
  pub after : IsShape (paired part_length (parts_of longer items ns) ns)

-- an axis of which one place is kept goes away
abbrev pub end_of : Item → Position
end_of (item.At i) = one 0
end_of item.All = whole
end_of (item.Run from step count) = whole

-- it has length 1
abbrev pub OneLeft : List Item → List ℕ → Type 0
OneLeft [] [] = Unit {0}
OneLeft (item.At i ∷ items) (n ∷ ns) = (n ≡ 1) × OneLeft items ns
OneLeft (item.All ∷ items) (n ∷ ns) = OneLeft items ns
OneLeft (item.Run from step count ∷ items) (n ∷ ns) = OneLeft items ns
OneLeft [] (n ∷ ns) = ⊥
OneLeft (i ∷ items) [] = ⊥
