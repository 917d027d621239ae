-- Lemmas on leaves.
use Rattle.std.proofs.Common.{◌≡◌, ℕ, ◌<◌, ◌≤ℤ◌, ◌<ℤ◌, ℤ, pos, negsuc, List, length, refl, subst, arith}
use Rattle.std.specs.Prelude.{unsigned_abs}
use Rattle.std.proofs.lemmas.Int.{ints}
use Rattle.std.proofs.lemmas.List.Elements.{All-get_or}
use Rattle.apl_base.specs.declared.cells.Kind.{Kind}
use Rattle.apl_base.specs.declared.cells.Kind.TheVariants.{Num, Char}
use Rattle.apl_base.specs.declared.cells.Interval.{Interval}
use Rattle.apl_base.specs.declared.cells.Interval.TheVariants.{Empty, Span}
use Rattle.apl_base.specs.Array.{IsIndex}
use Rattle.apl_base.specs.Number.{IsCell}
use Rattle.apl_base.specs.Interval.{InInterval}
use Rattle.apl_base.proofs.Sizes.{IsIndex-positive}
use Rattle.apl_base.proofs.Elements.{tabulated-each}
use Rattle.array_desc.specs.Desc.{DescView, IsDesc, number, IsRangeOf}
use Rattle.array_store.specs.Stores.{StoreView, IsStore, owner_of, holders_of, cells_of, cell_of, kind_of}
use Rattle.array_store.proofs.StoreLemmas.{owner_found}
use Rattle.drag_along.specs.declared.leaves.Leaf.{Leaf}
use Rattle.drag_along.specs.declared.leaves.Leaf.TheVariants.{Stored, Gen}
use Rattle.drag_along.specs.Nodes.{leaf_desc, leaf_kind, leaf_shape}
use Rattle.drag_along.specs.Segments.{leaf_segment}
use Rattle.drag_along.specs.Meaning.{Means, leaf_cell, leaf_array, entry}
use Rattle.drag_along.specs.Lawful.{IsLawfulLeaf, LeafWithin, IsLawful}

-- the numbers of a descriptor lie in its range
pub range_within : (d : DescView) (r : Interval) → IsRangeOf d r → (i : List ℕ) → IsIndex d.shape i → InInterval r (number d i)
range_within d Empty none i h = absurd (omega (arith, IsIndex-positive d.shape i h, none))
range_within d (Span lo hi) spans i h = (spans.from i h, spans.to i h)

pub IsLawful-leaf : (s : StoreView) (leaf : Leaf) (range : Interval) → IsLawfulLeaf s leaf → LeafWithin s leaf range → IsLawful s (leaf_segment leaf range)
unfolding entry
IsLawful-leaf s leaf range lawful within = record {
  leaves = (lawful, tt);
  sound = λ _. tabulated-each (InInterval range) (leaf_kind leaf) (leaf_shape leaf) (leaf_cell s leaf) within;
}

pub entry-leaf : (s : StoreView) (leaf : Leaf) (range : Interval) → entry s (leaf_segment leaf range) ≡ Means (leaf_array s (leaf_shape leaf) leaf)
unfolding entry
entry-leaf s leaf range = refl

-- ---- the cells of a lawful leaf are cells of its kind

owner_cell : (s : StoreView) (owner place : ℕ) → IsStore s → 0 < holders_of s owner → place < length (cells_of s owner) → IsCell (kind_of s owner) (cell_of s owner place)
owner_cell s owner place store live below =
    All-get_or (IsCell (kind_of s owner)) (cells_of s owner) place (pos 0) below (store.owners owner (owner_of s owner) (owner_found s owner live)).lawful

stored_cell : (s : StoreView) (owner : ℕ) (kind : Kind) (z : ℤ) → IsStore s → 0 < holders_of s owner → kind_of s owner ≡ kind → pos 0 ≤ℤ z → z <ℤ pos (length (cells_of s owner)) → IsCell kind (cell_of s owner (unsigned_abs z))
stored_cell s owner kind (pos n) store live e low high =
    subst (λ (k : Kind). IsCell k (cell_of s owner n)) e (owner_cell s owner n store live (omega (arith, ints, high)))
stored_cell s owner kind (negsuc n) store live e low high = absurd (omega (arith, ints, low))

pub leaf_cells_lawful : (s : StoreView) (leaf : Leaf) (i : List ℕ) → IsStore s → IsDesc (leaf_desc leaf) → IsLawfulLeaf s leaf → IsIndex (leaf_shape leaf) i → IsCell (leaf_kind leaf) (leaf_cell s leaf i)
leaf_cells_lawful s (Stored owner desc kind) i store d lies index =
    stored_cell s owner kind (number desc i) store lies.live lies.kind (lies.low i index) (lies.high i index)
leaf_cells_lawful s (Gen desc Num) i store d lawful index = d.numbers i index
leaf_cells_lawful s (Gen desc Char) i store d lawful index = lawful i index
