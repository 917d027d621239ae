-- A leaf that reads all cells of an owner that was just made of them.
use Rattle.std.proofs.Common.{◌≡◌, ℕ, ◌+◌, ℤ, List, [], ◌∷◌, ◌++◌, length, sym, ap, ◌∙◌, subst, arith}
use Rattle.apl_base.specs.declared.cells.Kind.{Kind}
use Rattle.apl_base.specs.Array.{Array, size_of}
use Rattle.apl_base.specs.Selection.{upward}
use Rattle.apl_base.proofs.Upward.{upward-append}
use Rattle.array_store.specs.Stores.{OwnerView, StoreView, Makes, new_owner, owner_of, cells_of, kind_of}
use Rattle.array_store.proofs.StoreLemmas.{owner_of-found}
use Rattle.drag_along.specs.declared.leaves.Leaf.{Leaf}
use Rattle.drag_along.specs.Views.{IsWholeView, FillsShape, owner_array, StandsForArray}
use Rattle.drag_along.proofs.ViewLemmas.{whole_view_stands}

-- one number more
pub upward-push : (a n : ℕ) → upward a (n + 1) ≡ upward a n ++ (a + n) ∷ []
upward-push a n = upward-append a n 1

-- it stands for the array of these cells
pub stands-made : (old new : StoreView) (key : ℕ) (cells : List ℤ) (shape : List ℕ) (kind : Kind) (leaf : Leaf) → Makes old new key (new_owner cells kind) → length cells ≡ size_of shape → IsWholeView key shape kind leaf → StandsForArray new leaf (record { kind = kind; shape = shape; cells = cells })
stands-made old new key cells shape kind leaf makes count view =
    let found : owner_of new key ≡ new_owner cells kind = owner_of-found new key (new_owner cells kind) makes.made in
    let are : cells_of new key ≡ cells = ap (λ (o : OwnerView). o.cells) found in
    let of_kind : kind_of new key ≡ kind = ap (λ (o : OwnerView). o.kind) found in
    let fills : FillsShape new key shape = record {
      live = omega (arith, ap (λ (o : OwnerView). o.holders) found);
      count = ap length are ∙ count;
    } in
    let array : owner_array new key shape ≡ record { kind = kind; shape = shape; cells = cells } =
    ap (λ (k : Kind). let a : Array = record { kind = k; shape = shape; cells = cells_of new key } in a) of_kind
    ∙ ap (λ (cs : List ℤ). let a : Array = record { kind = kind; shape = shape; cells = cs } in a) are in
    subst (StandsForArray new leaf) array
    (whole_view_stands new key shape leaf fills (subst (λ (k : Kind). IsWholeView key shape k leaf) (sym of_kind) view))
