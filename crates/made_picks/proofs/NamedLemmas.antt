-- What positions name, by the tracks of the axes.
use Rattle.std.proofs.Common.{◌≡◌, ℕ, ◌<◌, true, ℤ, pos, ◌+ℤ◌, ◌-ℤ◌, ◌*ℤ◌, List, [], ◌∷◌, ◌++◌, length, map, take, drop, replicate, Option, Some, None, sym, ap, ◌∙◌, arith}
use Rattle.std.specs.Prelude.{unsigned_abs, int_le, int_lt}
use Rattle.std.specs.List.{AllByRecursion, flat_map}
use Rattle.std.proofs.Math.Seq.{take-append_seam, drop-append_seam}
use Rattle.std.proofs.lemmas.Int.{ints}
use Rattle.std.proofs.lemmas.List.Folds.{flat_map-map}
use Rattle.apl_base.specs.Array.{Array, IsIndex, size_of, cell_at, place_at}
use Rattle.apl_base.specs.Elements.{indices}
use Rattle.apl_base.specs.Selection.{upward}
use Rattle.apl_base.proofs.Booleans.{both_parts, list_all-each}
use Rattle.apl_base.proofs.Elements.{tabulated-back, tabulated-cells, indices-each}
use Rattle.apl_base.proofs.Integers.{magnitude-is, magnitude-below}
use Rattle.apl_base.proofs.Lists.{all_place}
use Rattle.apl_base.proofs.Sizes.{IsIndex-length, place_at-below}
use Rattle.array_desc.specs.Desc.{dot}
use Rattle.apl_model.specs.Subscript.{is_place, in_axis, in_axes, positions_shape, place_of, positions_index}
use Rattle.made_picks.specs.Picks.{picked, lengths_on, read_or}
use Rattle.made_picks.specs.Tracks.{Names, named_along}
use Rattle.made_picks.proofs.JoinedLists.{flat_map-same, flat_map-upward, map-each, map-rows, map-joined}

-- a position has as many cells as its shape has elements
abbrev pub IsFilled : Option Array → Type 0
IsFilled None = Unit {0}
IsFilled (Some p) = length p.cells ≡ size_of p.shape

-- the cells of an array are those at its indices
pub cells_at : (a : Array) → length a.cells ≡ size_of a.shape → a.cells ≡ map (cell_at a) (indices a.shape)
cells_at a h = sym (ap (λ (x : Array). x.cells) (tabulated-back a h)) ∙ tabulated-cells a.kind a.shape (cell_at a)

-- ---- one number of a position

pub place-named : (o : ℤ) (n : ℕ) (v : ℤ) → is_place o n v ≡ true → Names o n v
place-named o n v h =
    let parts = both_parts (int_le o v) (int_lt v (o +ℤ pos n)) h in
    let low : int_le o v ≡ true = parts.0 in
    let high : int_lt v (o +ℤ pos n) ≡ true = parts.1 in
    (omega (arith, ints, low), omega (arith, ints, high))

-- the place on the axis
pub named-below : (o : ℤ) (n : ℕ) (v : ℤ) → Names o n v → unsigned_abs (v -ℤ o) < n
named-below o n v h = magnitude-below (v -ℤ o) n (omega (arith, ints, h.0)) (omega (arith, ints, h.1))

pub named-is : (o : ℤ) (n : ℕ) (v : ℤ) → Names o n v → pos (unsigned_abs (v -ℤ o)) ≡ v -ℤ o
named-is o n v h = magnitude-is (v -ℤ o) (omega (arith, ints, h.0))

-- the number of a position at an index of it
pub cell-named : (o : ℤ) (n : ℕ) (a : Array) (is : List ℕ) → length a.cells ≡ size_of a.shape → in_axis o n (Some a) ≡ true → IsIndex a.shape is → Names o n (cell_at a is)
cell-named o n a is many h index =
    let below = place_at-below a.shape is index in
    place-named o n (cell_at a is)
    (all_place (λ (v : ℤ). is_place o n v ≡ true) a.cells (place_at a.shape is) (pos 0) (list_all-each (is_place o n) a.cells h) (omega (arith, below, many)))

-- ---- all positions

-- a position that is left out, before others
picked-whole : (cell : ℤ → ℤ) (blank o : ℤ) (n : ℕ) (ns : List ℕ) (ps : List (Option Array)) (s : ℤ) (ss : List ℤ) (at : ℤ) (f : List ℕ → ℤ)
    → ((i : ℕ) → i < n → picked cell blank ss (named_along o ns ps) (at +ℤ (s *ℤ pos i)) ≡ map (λ is. f (i ∷ positions_index o ns ps is)) (indices (positions_shape ns ps)))
    → picked cell blank (s ∷ ss) (named_along o (n ∷ ns) (None ∷ ps)) at ≡ map (λ is. f (positions_index o (n ∷ ns) (None ∷ ps) is)) (indices (positions_shape (n ∷ ns) (None ∷ ps)))
picked-whole cell blank o n ns ps s ss at f each =
    let put : Option ℤ → List ℤ = read_or (replicate (size_of (lengths_on (named_along o ns ps))) blank) (λ z. picked cell blank ss (named_along o ns ps) (at +ℤ (s *ℤ z))) in
    flat_map-map put (λ i. Some (pos i)) (upward 0 n)
    ∙ flat_map-upward (λ i. put (Some (pos i))) (λ i. map (λ is. f (i ∷ positions_index o ns ps is)) (indices (positions_shape ns ps))) n each
    ∙ sym (map-rows n (positions_shape ns ps) (λ is. f (positions_index o (n ∷ ns) (None ∷ ps) is)))

-- one that has elements, before others
picked-some : (cell : ℤ → ℤ) (blank o : ℤ) (n : ℕ) (ns : List ℕ) (a : Array) (ps : List (Option Array)) (s : ℤ) (ss : List ℤ) (at : ℤ) (f : List ℕ → ℤ)
    → length a.cells ≡ size_of a.shape → in_axis o n (Some a) ≡ true
    → ((i : ℕ) → i < n → picked cell blank ss (named_along o ns ps) (at +ℤ (s *ℤ pos i)) ≡ map (λ is. f (i ∷ positions_index o ns ps is)) (indices (positions_shape ns ps)))
    → picked cell blank (s ∷ ss) (named_along o (n ∷ ns) (Some a ∷ ps)) at ≡ map (λ is. f (positions_index o (n ∷ ns) (Some a ∷ ps) is)) (indices (positions_shape (n ∷ ns) (Some a ∷ ps)))
picked-some cell blank o n ns a ps s ss at f many within each =
    let go : ℤ → List ℤ = λ z. picked cell blank ss (named_along o ns ps) (at +ℤ (s *ℤ z)) in
    let put : Option ℤ → List ℤ = read_or (replicate (size_of (lengths_on (named_along o ns ps))) blank) go in
    let g : List ℕ → ℤ = λ is. f (positions_index o (n ∷ ns) (Some a ∷ ps) is) in
    flat_map-map put (λ v. Some (v -ℤ o)) a.cells
    ∙ ap (flat_map (λ v. go (v -ℤ o))) (cells_at a many)
    ∙ flat_map-map (λ v. go (v -ℤ o)) (cell_at a) (indices a.shape)
    ∙ flat_map-same (IsIndex a.shape) (λ is. go (cell_at a is -ℤ o)) (λ is. map (λ js. g (is ++ js)) (indices (positions_shape ns ps))) (indices a.shape) (indices-each a.shape) (λ is index. by is index)
    ∙ sym (map-joined a.shape (positions_shape ns ps) g)
  where
    by : (is : List ℕ) → IsIndex a.shape is → picked cell blank ss (named_along o ns ps) (at +ℤ (s *ℤ (cell_at a is -ℤ o)))
        ≡ map (λ js. f (positions_index o (n ∷ ns) (Some a ∷ ps) (is ++ js))) (indices (positions_shape ns ps))
    by is index =
        let named = cell-named o n a is many within index in
        let long : length is ≡ length a.shape = IsIndex-length a.shape is index in
        ap (λ (z : ℤ). picked cell blank ss (named_along o ns ps) (at +ℤ (s *ℤ z))) (sym (named-is o n (cell_at a is) named))
        ∙ each (unsigned_abs (cell_at a is -ℤ o)) (named-below o n (cell_at a is) named)
        ∙ map-each (λ js. f (unsigned_abs (cell_at a is -ℤ o) ∷ positions_index o ns ps js)) (λ js. f (positions_index o (n ∷ ns) (Some a ∷ ps) (is ++ js))) (indices (positions_shape ns ps))
        (λ js.
        let first : take (length a.shape) (is ++ js) ≡ is = ap (λ (k : ℕ). take k (is ++ js)) (sym long) ∙ take-append_seam is js in
        let rest : drop (length a.shape) (is ++ js) ≡ js = ap (λ (k : ℕ). drop k (is ++ js)) (sym long) ∙ drop-append_seam is js in
        sym (ap (λ (x : List ℕ). f (place_of o (Some a) x ++ positions_index o ns ps (drop (length a.shape) (is ++ js)))) first
        ∙ ap (λ (x : List ℕ). f (place_of o (Some a) is ++ positions_index o ns ps x)) rest))

-- what the tracks pick is what is read, where the numbers of the indices have these cells
pub picked-named : (cell : ℤ → ℤ) (blank o : ℤ) (ns : List ℕ) (ps : List (Option Array)) (ss : List ℤ) (at : ℤ) (f : List ℕ → ℤ) → length ss ≡ length ns → length ns ≡ length ps
    → AllByRecursion IsFilled ps → in_axes o ns ps ≡ true
    → ((is : List ℕ) → IsIndex ns is → cell (at +ℤ dot ss is) ≡ f is)
    → picked cell blank ss (named_along o ns ps) at ≡ map (λ is. f (positions_index o ns ps is)) (indices (positions_shape ns ps))
picked-named cell blank o [] [] [] at f p q filled within same =
    let e : at ≡ at +ℤ dot [] [] = omega (arith, ints) in
    let here : cell at ≡ f [] = ap cell e ∙ same [] tt in
    ap (λ (z : ℤ). z ∷ []) here
picked-named cell blank o [] ps (s ∷ ss) at f p q filled within same = absurd (omega (arith, p))
picked-named cell blank o [] (x ∷ ps) [] at f p q filled within same = absurd (omega (arith, q))
picked-named cell blank o (n ∷ ns) ps [] at f p q filled within same = absurd (omega (arith, p))
picked-named cell blank o (n ∷ ns) [] (s ∷ ss) at f p q filled within same = absurd (omega (arith, q))
picked-named cell blank o (n ∷ ns) (x ∷ ps) (s ∷ ss) at f p q filled within same =
    let parts = both_parts (in_axis o n x) (in_axes o ns ps) within in
    by x filled.0 parts.0 (λ i below. picked-named cell blank o ns ps ss (at +ℤ (s *ℤ pos i)) (λ is. f (i ∷ is)) (omega (arith, p)) (omega (arith, q)) filled.1 parts.1 (λ is index.
    let g : (at +ℤ (s *ℤ pos i)) +ℤ dot ss is ≡ at +ℤ ((s *ℤ pos i) +ℤ dot ss is) = omega (arith, ints) in
    ap cell g ∙ same (i ∷ is) (below, index)))
  where
    by : (y : Option Array) → IsFilled y → in_axis o n y ≡ true
        → ((i : ℕ) → i < n → picked cell blank ss (named_along o ns ps) (at +ℤ (s *ℤ pos i)) ≡ map (λ is. f (i ∷ positions_index o ns ps is)) (indices (positions_shape ns ps)))
        → picked cell blank (s ∷ ss) (named_along o (n ∷ ns) (y ∷ ps)) at ≡ map (λ is. f (positions_index o (n ∷ ns) (y ∷ ps) is)) (indices (positions_shape (n ∷ ns) (y ∷ ps)))
    by None filled within each = picked-whole cell blank o n ns ps s ss at f each
    by (Some a) filled within each = picked-some cell blank o n ns a ps s ss at f filled within each
