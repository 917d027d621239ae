-- A vector that is subscripted by one item.
use Rattle.std.proofs.Common.{◌≡◌, ℕ, ◌<◌, ℤ, ◌-ℤ◌, false, List, [], ◌∷◌, length, map, slice_index, sym, ap, ◌∙◌, arith}
use Rattle.std.specs.Prelude.{unsigned_abs}
use Rattle.apl_base.specs.Selection.{subscript_shape, subscript_index}
use Rattle.beating.specs.declared.runs.Run.{Run}
use Rattle.beating.specs.declared.selections.Item.{Item}
use Rattle.beating.specs.Runs.{run_value}
use Rattle.beating.specs.Selecting.{position_of}
use Rattle.beating.specs.Positions.{IsItemOf}

-- the one length of a vector
one_axis : (ns : List ℕ) (n : ℕ) → length ns ≡ 1 → n ≡ slice_index ns 0 → ns ≡ n ∷ []
one_axis [] n one is = absurd (omega (arith, one))
one_axis (m ∷ []) n one is = let e : n ≡ m = is in ap (λ (k : ℕ). k ∷ []) (sym e)
one_axis (m ∷ k ∷ ns) n one is = absurd (omega (arith, one))

pub shape_of_item : (o : ℤ) (n : ℕ) (r : Run) (item : Item) (items : List Item) (ns : List ℕ) → length ns ≡ 1 → n ≡ slice_index ns 0 → items ≡ item ∷ [] → IsItemOf o n r false item → subscript_shape (map position_of items) ns ≡ r.n ∷ []
shape_of_item o n r item items ns one is of_one item_is =
    ap (λ (is : List Item). subscript_shape (map position_of is) ns) of_one
    ∙ ap (subscript_shape (position_of item ∷ [])) (one_axis ns n one is) ∙ item_is.shape

pub place_of_item : (o : ℤ) (n : ℕ) (r : Run) (item : Item) (items : List Item) → items ≡ item ∷ [] → IsItemOf o n r false item → (j : ℕ) → j < r.n → subscript_index (map position_of items) (j ∷ []) ≡ unsigned_abs (run_value r j -ℤ o) ∷ []
place_of_item o n r item items of_one item_is j below =
    ap (λ (is : List Item). subscript_index (map position_of is) (j ∷ [])) of_one ∙ item_is.places j below
