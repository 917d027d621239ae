-- Leaves that read all cells of an owner.
use Rattle.std.proofs.Common.{◌≡◌, ℕ, ℤ, pos, List, length, get_or, refl, sym, ap, ◌∙◌, subst, arith}
use Rattle.std.specs.Prelude.{unsigned_abs, slice_set}
use Rattle.std.proofs.lemmas.Int.{ints}
use Rattle.std.proofs.lemmas.List.{length-set}
use Rattle.std.proofs.Math.ListN.{set}
use Rattle.apl_base.specs.declared.cells.Kind.{Kind}
use Rattle.apl_base.specs.Array.{Array, IsIndex, size_of, index_at}
use Rattle.apl_base.specs.Interval.{hull}
use Rattle.apl_base.proofs.Sizes.{IsIndex-index_at, place_at-below, place_at-index_at}
use Rattle.apl_base.proofs.Upward.{list_by_places}
use Rattle.array_desc.specs.Desc.{DescView, IsWhole, number}
use Rattle.array_store.specs.Stores.{OwnerView, StoreView, owner_of, cells_of, kind_of, interval_of, with_cell}
use Rattle.array_store.proofs.StoreLemmas.{owner_found, owner_of-found, owner_at-with_cell}
use Rattle.drag_along.specs.declared.leaves.Leaf.{Leaf}
use Rattle.drag_along.specs.declared.leaves.Leaf.TheVariants.{Stored}
use Rattle.drag_along.specs.Meaning.{leaf_cell, leaf_array}
use Rattle.drag_along.specs.Lawful.{LiesIn}
use Rattle.drag_along.specs.Views.{IsWholeView, FillsShape, owner_array, StandsForArray}

-- it has at each place of the shape the cell there
whole_cells : (s : StoreView) (key : ℕ) (shape : List ℕ) (desc : DescView) (kind : Kind) → length (cells_of s key) ≡ size_of shape → IsWhole shape desc → (leaf_array s shape (Stored key desc kind)).cells ≡ cells_of s key
whole_cells s key shape desc kind count whole =
    list_by_places (λ p. leaf_cell s (Stored key desc kind) (index_at shape p)) (cells_of s key) (size_of shape) (pos 0) count (λ p below.
    let here : number desc (index_at shape p) ≡ pos p =
    whole.places (index_at shape p) (IsIndex-index_at shape p below) ∙ ap pos (place_at-index_at shape p below) in
    ap (λ (z : ℤ). get_or (cells_of s key) (unsigned_abs z) (pos 0)) here)

-- its places lie inside the owner
whole_lawful : (s : StoreView) (key : ℕ) (shape : List ℕ) (desc : DescView) → FillsShape s key shape → IsWhole shape desc → LiesIn s key desc (kind_of s key)
whole_lawful s key shape desc fills whole =
    let index_of : (i : List ℕ) → IsIndex desc.shape i → IsIndex shape i = λ i h. subst (λ (ns : List ℕ). IsIndex ns i) whole.shape h in
    record {
      live = fills.live;
      kind = refl;
      low = λ i h. omega (arith, ints, whole.places i (index_of i h));
      high = λ i h. omega (arith, ints, whole.places i (index_of i h), place_at-below shape i (index_of i h), fills.count);
    }

pub whole_view_stands : (s : StoreView) (key : ℕ) (shape : List ℕ) (leaf : Leaf) → FillsShape s key shape → IsWholeView key shape (kind_of s key) leaf → StandsForArray s leaf (owner_array s key shape)
whole_view_stands s key shape leaf fills view =
    subst (λ (l : Leaf). StandsForArray s l (owner_array s key shape)) (sym view.is) (record {
      lawful = whole_lawful s key shape view.desc fills view.whole;
      shape = record { desc = view.whole.lawful; same = view.whole.shape };
      kind = refl;
      array = ap (λ (cs : List ℤ). let b : Array = record { kind = kind_of s key; shape = shape; cells = cs } in b) (whole_cells s key shape view.desc (kind_of s key) fills.count view.whole);
    })

-- ---- after a cell was written

pub written_view_stands : (s : StoreView) (key : ℕ) (shape : List ℕ) (leaf : Leaf) (place : ℕ) (c : ℤ) → FillsShape s key shape → IsWholeView key shape (kind_of s key) leaf → StandsForArray (with_cell s key place c) leaf (record (owner_array s key shape) { cells = slice_set (cells_of s key) place c })
written_view_stands s key shape leaf place c fills view =
    let t : StoreView = with_cell s key place c in
    let o : OwnerView = record (owner_of s key) { cells = set (cells_of s key) place c; interval = hull (interval_of s key) c } in
    let found : owner_of t key ≡ o = owner_of-found t key o (owner_at-with_cell s key place c (owner_of s key) (owner_found s key fills.live)) in
    let kind : kind_of t key ≡ kind_of s key = ap (λ (x : OwnerView). x.kind) found in
    let cells : cells_of t key ≡ set (cells_of s key) place c = ap (λ (x : OwnerView). x.cells) found in
    let now : FillsShape t key shape = record {
      live = omega (arith, ap (λ (x : OwnerView). x.holders) found, fills.live);
      count = ap length cells ∙ length-set (cells_of s key) place c ∙ fills.count;
    } in
    let array : owner_array t key shape ≡ record (owner_array s key shape) { cells = set (cells_of s key) place c } =
    ap (λ (k : Kind). let b : Array = record { kind = k; shape = shape; cells = cells_of t key } in b) kind
    ∙ ap (λ (cs : List ℤ). let b : Array = record { kind = kind_of s key; shape = shape; cells = cs } in b) cells in
    subst (StandsForArray t leaf) array
    (whole_view_stands t key shape leaf now (subst (λ (k : Kind). IsWholeView key shape k leaf) (sym kind) view))
