-- The text of the array that a leaf stands for.
use Rattle.std.proofs.Common.{◌≡◌, ℕ, ◌<◌, ◌≤◌, ℤ, List, [], length, replicate, refl, sym, ap, ◌∙◌, subst}
use Rattle.apl_base.specs.declared.cells.Kind.{Kind}
use Rattle.apl_base.specs.Array.{size_of, index_at}
use Rattle.apl_base.proofs.Upward.{map-upward-same}
use Rattle.array_store.specs.Stores.{StoreView}
use Rattle.array_store.specs.Counting.{OnlyCounted}
use Rattle.drag_along.specs.declared.leaves.Leaf.{Leaf}
use Rattle.drag_along.specs.declared.leaves.Leaf.TheVariants.{Stored, Gen}
use Rattle.drag_along.specs.Nodes.{leaf_kind, leaf_shape}
use Rattle.drag_along.specs.Meaning.{leaf_array, leaf_cell}
use Rattle.e_machine.specs.Forced.{cells_from}
use Rattle.apl_model.specs.Printed.{array_text}
use Rattle.apl_print.specs.declared.grids.Grid.{Grid}
use Rattle.apl_print.specs.Layout.{elements_text, grid_of, start, text_of_none, widened}
use Rattle.apl_print.proofs.ArrayTexts.{grid_has, text_empty, text_of_line, text_of_table}
use Rattle.e_machine.proofs.ColumnLemmas.{length-cells_from}

-- the grid of a leaf's kind and lengths
pub grid_is : (leaf : Leaf) (grid : Grid) (kind : Kind) (lengths : List ℕ) → grid ≡ grid_of kind lengths → kind ≡ leaf_kind leaf → lengths ≡ leaf_shape leaf → grid ≡ grid_of (leaf_kind leaf) (leaf_shape leaf)
grid_is leaf grid kind lengths g k l = g ∙ ap (λ (k : Kind). grid_of k lengths) k ∙ ap (grid_of (leaf_kind leaf)) l

pub grid_wide : (leaf : Leaf) (grid : Grid) → grid ≡ grid_of (leaf_kind leaf) (leaf_shape leaf) → 0 < size_of (leaf_shape leaf) → (0 < grid.rows) × (0 < grid.columns)
grid_wide leaf grid g some = subst (λ (g : Grid). (0 < g.rows) × (0 < g.columns)) (sym g) (grid_has (leaf_kind leaf) (leaf_shape leaf) some)

-- the cells of a leaf over a store that only counted
cell-counted : (a b : StoreView) (leaf : Leaf) (i : List ℕ) → OnlyCounted a b → leaf_cell b leaf i ≡ leaf_cell a leaf i
cell-counted a b (Stored owner desc kind) i only = ap (λ (s : StoreView). leaf_cell s (Stored owner desc kind) i) only
cell-counted a b (Gen desc kind) i only = refl

cells-counted : (a b : StoreView) (leaf : Leaf) (count : ℕ) → OnlyCounted a b → cells_from b leaf 0 count ≡ cells_from a leaf 0 count
cells-counted a b leaf count only =
    map-upward-same (λ p. leaf_cell b leaf (index_at (leaf_shape leaf) p)) (λ p. leaf_cell a leaf (index_at (leaf_shape leaf) p)) 0 count
    (λ p low high. cell-counted a b leaf (index_at (leaf_shape leaf) p) only)

pub leaf_text_none : (s : StoreView) (leaf : Leaf) (lengths text : List ℕ) → lengths ≡ leaf_shape leaf → text ≡ text_of_none lengths → size_of (leaf_shape leaf) ≡ 0 → text ≡ array_text (leaf_array s (leaf_shape leaf) leaf)
leaf_text_none s leaf lengths text l e none =
    e ∙ ap text_of_none l ∙ sym (text_empty (leaf_kind leaf) (leaf_shape leaf) (cells_from s leaf 0 (size_of (leaf_shape leaf))) (length-cells_from s leaf 0 (size_of (leaf_shape leaf))) none)

pub leaf_text_line : (s : StoreView) (leaf : Leaf) (grid : Grid) (ws : List ℕ) → grid ≡ grid_of (leaf_kind leaf) (leaf_shape leaf) → ws ≡ [] → 0 < size_of (leaf_shape leaf) → length (leaf_shape leaf) < 2 →
    elements_text grid ws start (cells_from s leaf 0 (size_of (leaf_shape leaf))) ≡ array_text (leaf_array s (leaf_shape leaf) leaf)
leaf_text_line s leaf grid ws g none some few =
    let cells : List ℤ = cells_from s leaf 0 (size_of (leaf_shape leaf)) in
    ap (λ (g : Grid). elements_text g ws start cells) g
    ∙ ap (λ ws. elements_text (grid_of (leaf_kind leaf) (leaf_shape leaf)) ws start cells) none
    ∙ sym (text_of_line (leaf_kind leaf) (leaf_shape leaf) cells (length-cells_from s leaf 0 (size_of (leaf_shape leaf))) some few)

pub leaf_text_table : (s t : StoreView) (leaf : Leaf) (grid : Grid) (ws : List ℕ) → grid ≡ grid_of (leaf_kind leaf) (leaf_shape leaf) → OnlyCounted s t →
    ws ≡ widened grid 0 (replicate grid.columns 0) (cells_from s leaf 0 (size_of (leaf_shape leaf))) → 0 < size_of (leaf_shape leaf) → 2 ≤ length (leaf_shape leaf) →
    elements_text grid ws start (cells_from t leaf 0 (size_of (leaf_shape leaf))) ≡ array_text (leaf_array s (leaf_shape leaf) leaf)
leaf_text_table s t leaf grid ws g only w some many =
    let cells : List ℤ = cells_from s leaf 0 (size_of (leaf_shape leaf)) in
    ap (elements_text grid ws start) (cells-counted s t leaf (size_of (leaf_shape leaf)) only)
    ∙ ap (λ ws. elements_text grid ws start cells) w
    ∙ ap (λ (g : Grid). elements_text g (widened g 0 (replicate g.columns 0) cells) start cells) g
    ∙ sym (text_of_table (leaf_kind leaf) (leaf_shape leaf) cells (length-cells_from s leaf 0 (size_of (leaf_shape leaf))) some many)
