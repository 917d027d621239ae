-- Inner products by the lines of both arguments.
use Rattle.std.proofs.Common.{◌≡◌, ℕ, zero, suc, ◌+◌, ◌-◌, ◌*◌, ◌/◌, ◌%◌, ◌<◌, ◌≤◌, ◌==◌, Bool, true, false, not, ◌&&◌, ℤ, pos, List, [], ◌∷◌, ◌++◌, length, map, take, drop, get_or, All, Option, None, Ok, Err, refl, sym, ap, ◌∙◌, subst, arith, inl, inr}
use Rattle.std.specs.Prelude.{nat_le, if◌then◌else◌, MatchBool}
use Rattle.std.specs.Option.{option_and_then}
use Rattle.std.proofs.Math.Nat.{mul-le-mul_left}
use Rattle.std.proofs.Math.Seq.{take-suc, take-length}
use Rattle.std.proofs.lemmas.Bool.{cases_lt, eq-eqb}
use Rattle.std.proofs.lemmas.Nat.{div-mul-add}
use Rattle.apl_base.specs.declared.cells.Kind.{Kind}
use Rattle.apl_base.specs.declared.cells.Kind.TheVariants.{Num}
use Rattle.apl_base.specs.declared.cells.Elem.{Elem}
use Rattle.apl_base.specs.declared.faults.ErrorKind.TheVariants as error
use Rattle.apl_base.specs.declared.rows.Dya.{Dya}
use Rattle.apl_base.specs.Array.{Array, IsShape, IsIndex, size_of, place_at, index_at}
use Rattle.apl_base.specs.Elements.{element, numbers, all_defined, indices}
use Rattle.apl_base.specs.Number.{IsCell}
use Rattle.apl_base.specs.Scalar.{scalar2}
use Rattle.apl_base.specs.Selection.{upward}
use Rattle.apl_base.proofs.Sizes.{size_of-append, IsIndex-index_at, place_at-index_at, index_at-place_at, place_at-below}
use Rattle.apl_base.proofs.Elements.{map-indices}
use Rattle.apl_base.proofs.Upward.{map-upward-same, length-map-upward, get_or-map-places}
use Rattle.apl_model.specs.Whole.{Answer, rank, is_extendable, first, is_shape, within_limit, or_domain, error_if, error_or}
use Rattle.apl_model.specs.Product.{reduced, elem_at, left_axes, right_axes, left_length, right_length, inner_length, left_at, right_at, inner_at, inner}
use Rattle.apl_model_laws.proofs.Arrays.{shapes_are_tested}
use Rattle.scalar_table.specs.Columns.{cell_in, element_in}
use Rattle.product_fns.specs.Inner.{Lines, pair_at, product_at, AreLines, IsRepeated, AreAllProducts, HasUndefinedProduct, IsLengthFault, HasLength, AreInnerResults, HasUndefinedInner, inner_value, inner_shape}
use Rattle.product_fns.specs.Reduction.{Asks}
use Rattle.product_fns.proofs.AnswerLemmas.{asks_within}
use Rattle.product_fns.proofs.PlaceLemmas.{mod-mul-add, positive_right}
use Rattle.product_fns.proofs.ReducedLemmas.{undefined-all, defined-cells, cells-back}
use Rattle.apl_model_laws.proofs.Refusals.{passes_if, passes_limit}

-- ---- places

-- an index of the lengths of both arguments, by its parts
record Parts (ls rs is : List ℕ) : Type 0 where
  pub left : IsIndex ls (take (length ls) is)
  pub right : IsIndex rs (drop (length ls) is)
  pub place : place_at (ls ++ rs) is ≡ place_at ls (take (length ls) is) * size_of rs + place_at rs (drop (length ls) is)

parts_of_index : (ls rs is : List ℕ) → IsIndex (ls ++ rs) is → Parts ls rs is
parts_of_index [] rs is h = record { left = tt; right = h; place = omega arith }
parts_of_index (n ∷ ls) rs [] h = absurd h
parts_of_index (n ∷ ls) rs (i ∷ is) h =
    let rest : Parts ls rs is = parts_of_index ls rs is h.1 in
    let size : i * size_of (ls ++ rs) ≡ i * (size_of ls * size_of rs) = ap (λ (m : ℕ). i * m) (size_of-append ls rs) in
    record { left = (h.0, rest.left); right = rest.right; place = omega (arith, size, rest.place) }

-- the last number of an index
place-end : (ls is : List ℕ) (n k : ℕ) → IsIndex ls is → place_at (ls ++ n ∷ []) (is ++ k ∷ []) ≡ place_at ls is * n + k
place-end [] [] n k h = omega arith
place-end [] (i ∷ is) n k h = absurd h
place-end (m ∷ ls) [] n k h = absurd h
place-end (m ∷ ls) (i ∷ is) n k h =
    let size : i * size_of (ls ++ n ∷ []) ≡ i * (size_of ls * (n * 1)) = ap (λ (s : ℕ). i * s) (size_of-append ls (n ∷ [])) in
    omega (arith, size, place-end ls is n k h.1)

-- lengths are those before the last one, and this
ends_with : (ns : List ℕ) → 0 < length ns → take (length ns - 1) ns ++ get_or ns (length ns - 1) 0 ∷ [] ≡ ns
ends_with ns h =
    let next : suc (length ns - 1) ≡ length ns = omega arith in
    sym (take-suc ns (length ns - 1) 0 (omega arith)) ∙ ap (λ (k : ℕ). take k ns) next ∙ take-length ns

-- and the first one, and those behind it
begins_with : (ns : List ℕ) → 0 < length ns → get_or ns 0 0 ∷ drop 1 ns ≡ ns
begins_with [] h = absurd (omega arith)
begins_with (n ∷ ns) h = refl

-- what does not extend has an axis
has_axis : (ns : List ℕ) → (size_of ns == 1) && nat_le (length ns) 1 ≡ false → 0 < length ns
has_axis [] h = absurd cc
has_axis (n ∷ ns) h = omega arith

-- the row of a place that stands before the end of m rows of n
div_below : (p n m : ℕ) → p < m * n → p / n < m
div_below p n m h = elim (cases_lt (p / n) m) [
  | inl less ↦ less
  | inr most ↦
      let some : 0 < n = positive_right m n (omega (arith, h)) in
      let parts : n * (p / n) + p % n ≡ p = omega arith in
      absurd (omega (arith, mul-le-mul_left n most, h, parts))
]

pub transpose_within : (p n q many : ℕ) → many ≡ n * q → p < many → p % n * q + p / n < many
transpose_within p n q many is h =
    let below : p < q * n = omega (arith, h, is) in
    let some : 0 < n = positive_right q n (omega (arith, below)) in
    let row : p / n < q = div_below p n q below in
    let next : p % n + 1 ≤ n = omega arith in
    omega (arith, mul-le-mul_left q next, row, is)

-- ---- lines

at_default : (xs : List ℤ) (j : ℕ) (d : ℤ) → j < length xs → get_or xs j (pos 0) ≡ get_or xs j d
at_default [] j d h = absurd (omega arith)
at_default (x ∷ xs) zero d h = refl
at_default (x ∷ xs) (suc j) d h = at_default xs j d (omega arith)

left_axes-extends : (a : Array) → is_extendable a ≡ true → left_axes a ≡ []
left_axes-extends a h = ap (λ (t : Bool). if t then [] else take (rank a - 1) a.shape) h

left_axes-stay : (a : Array) → is_extendable a ≡ false → left_axes a ≡ take (rank a - 1) a.shape
left_axes-stay a h = ap (λ (t : Bool). if t then [] else take (rank a - 1) a.shape) h

right_axes-extends : (b : Array) → is_extendable b ≡ true → right_axes b ≡ []
right_axes-extends b h = ap (λ (t : Bool). if t then [] else drop 1 b.shape) h

right_axes-stay : (b : Array) → is_extendable b ≡ false → right_axes b ≡ drop 1 b.shape
right_axes-stay b h = ap (λ (t : Bool). if t then [] else drop 1 b.shape) h

-- one element, repeated
repeated_lines : (a : Array) (at : List ℕ → ℕ → Elem) (n : ℕ) (kind : Kind) (cells : List ℤ) → ((is : List ℕ) (k : ℕ) → at is k ≡ element a.kind (first a)) → IsRepeated a n kind cells → AreLines at [] n kind cells
repeated_lines a at n kind cells each lines = record {
  many = lines.many ∙ omega arith;
  each = λ i k one below.
      let none : i ≡ 0 = omega (arith, one) in
      let place : i * n + k ≡ k = ap (λ (m : ℕ). m * n + k) none ∙ omega arith in
      each (index_at [] i) k
      ∙ ap (λ (z : ℤ). element a.kind z) (sym (lines.each k below))
      ∙ ap (λ (w : Kind). element_in w cells k) (sym lines.is)
      ∙ ap (λ (p : ℕ). element_in kind cells p) (sym place);
  lawful = lines.lawful;
}

pub left_repeated : (a : Array) (n : ℕ) (kind : Kind) (cells : List ℤ) → is_extendable a ≡ true → IsRepeated a n kind cells → AreLines (left_at a) (left_axes a) n kind cells
left_repeated a n kind cells h lines =
    subst (λ (ns : List ℕ). AreLines (left_at a) ns n kind cells) (sym (left_axes-extends a h))
    (repeated_lines a (left_at a) n kind cells (λ is k. ap (λ (t : Bool). if t then element a.kind (first a) else elem_at a (is ++ k ∷ [])) h) lines)

pub right_repeated : (b : Array) (n : ℕ) (kind : Kind) (cells : List ℤ) → is_extendable b ≡ true → IsRepeated b n kind cells → AreLines (right_at b) (right_axes b) n kind cells
right_repeated b n kind cells h lines =
    subst (λ (ns : List ℕ). AreLines (right_at b) ns n kind cells) (sym (right_axes-extends b h))
    (repeated_lines b (right_at b) n kind cells (λ is k. ap (λ (t : Bool). if t then element b.kind (first b) else elem_at b (k ∷ is)) h) lines)

-- the cells of the left argument
pub left_stored : (a : Array) (n : ℕ) (kind : Kind) (cells : List ℤ) → is_extendable a ≡ false → n ≡ left_length a → kind ≡ a.kind → cells ≡ a.cells → length a.cells ≡ size_of a.shape → All (IsCell a.kind) a.cells → AreLines (left_at a) (left_axes a) n kind cells
left_stored a n kind cells h is kind_is cells_is count lawful =
    let ls : List ℕ = take (rank a - 1) a.shape in
    let some : 0 < length a.shape = has_axis a.shape h in
    let whole : a.shape ≡ ls ++ n ∷ [] = sym (ends_with a.shape some) ∙ ap (λ (m : ℕ). ls ++ m ∷ []) (sym is) in
    let lines : AreLines (left_at a) ls n a.kind a.cells = record {
      many = count ∙ ap size_of whole ∙ size_of-append ls (n ∷ []) ∙ omega arith;
      each = λ i k row below.
          ap (λ (t : Bool). if t then element a.kind (first a) else elem_at a (index_at ls i ++ k ∷ [])) h
          ∙ ap (λ (p : ℕ). element_in a.kind a.cells p)
          (ap (λ (ns : List ℕ). place_at ns (index_at ls i ++ k ∷ [])) whole ∙ place-end ls (index_at ls i) n k (IsIndex-index_at ls i row) ∙ ap (λ (p : ℕ). p * n + k) (place_at-index_at ls i row));
      lawful = lawful;
    } in
    subst (λ (ns : List ℕ). AreLines (left_at a) ns n kind cells) (sym (left_axes-stay a h))
    (subst (λ (w : Kind). AreLines (left_at a) ls n w cells) (sym kind_is) (subst (λ (zs : List ℤ). AreLines (left_at a) ls n a.kind zs) (sym cells_is) lines))

-- the right argument has n rows of q
pub right_many : (b : Array) (n q : ℕ) → is_extendable b ≡ false → n ≡ right_length b → q ≡ size_of (right_axes b) → size_of b.shape ≡ n * q
right_many b n q h is columns =
    sym (ap size_of (begins_with b.shape (has_axis b.shape h))) ∙ ap (λ (m : ℕ). m * size_of (drop 1 b.shape)) (sym is) ∙ ap (λ (m : ℕ). n * m) (sym (columns ∙ ap size_of (right_axes-stay b h)))

-- the cells of the right argument, column by column
pub right_stored : (b : Array) (n q : ℕ) (kind : Kind) (cells lines : List ℤ) → is_extendable b ≡ false → n ≡ right_length b → q ≡ size_of (right_axes b) → kind ≡ b.kind → cells ≡ b.cells → length b.cells ≡ size_of b.shape → All (IsCell b.kind) b.cells →
    length lines ≡ length cells → ((p : ℕ) → p < length cells → cell_in lines p ≡ cell_in cells (p % n * q + p / n)) → AreLines (right_at b) (right_axes b) n kind lines
right_stored b n q kind cells lines h is columns kind_is cells_is count lawful long transposed =
    let rs : List ℕ = drop 1 b.shape in
    let some : 0 < length b.shape = has_axis b.shape h in
    let whole : b.shape ≡ n ∷ rs = sym (begins_with b.shape some) ∙ ap (λ (m : ℕ). m ∷ rs) (sym is) in
    let row : q ≡ size_of rs = columns ∙ ap size_of (right_axes-stay b h) in
    let size : length cells ≡ n * q = ap length cells_is ∙ count ∙ ap size_of whole ∙ ap (λ (m : ℕ). n * m) (sym row) in
    let each : (p : ℕ) → p < n * q → cell_in lines p ≡ cell_in b.cells (p % n * q + p / n) = λ p below.
    transposed p (omega (arith, below, size)) ∙ ap (λ (zs : List ℤ). cell_in zs (p % n * q + p / n)) cells_is in
    let made : AreLines (right_at b) rs n b.kind lines = record {
      many = long ∙ size ∙ ap (λ (m : ℕ). n * m) row ∙ omega arith;
      each = λ i k column below.
          let next : i + 1 ≤ q = omega (arith, column, row) in
          let within : i * n + k < n * q = omega (arith, below, mul-le-mul_left n next) in
          ap (λ (t : Bool). if t then element b.kind (first b) else elem_at b (k ∷ index_at rs i)) h
          ∙ ap (λ (p : ℕ). element_in b.kind b.cells p)
          (ap (λ (ns : List ℕ). place_at ns (k ∷ index_at rs i)) whole ∙ ap (λ (p : ℕ). k * size_of rs + p) (place_at-index_at rs i column) ∙ ap (λ (m : ℕ). k * m + i) (sym row)
          ∙ ap (λ (m : ℕ). m * q + i) (sym (mod-mul-add i n k below)) ∙ ap (λ (m : ℕ). (i * n + k) % n * q + m) (sym (div-mul-add i n k below)))
          ∙ ap (λ (z : ℤ). element b.kind z) (sym (each (i * n + k) within));
      lawful = λ j d below.
          let small : j < n * q = omega (arith, below, long, size) in
          let place : j % n * q + j / n < n * q = transpose_within j n q (n * q) refl small in
          subst (IsCell b.kind) (sym (each j small) ∙ at_default lines j d below) (lawful (j % n * q + j / n) (pos 0) (omega (arith, place, size, ap length cells_is)));
    } in
    subst (λ (ns : List ℕ). AreLines (right_at b) ns n kind lines) (sym (right_axes-stay b h))
    (subst (λ (w : Kind). AreLines (right_at b) rs n w lines) (sym kind_is) made)

-- ---- the results at their places

inner_size : (a b : Array) → size_of (inner_shape a b) ≡ size_of (left_axes a) * size_of (right_axes b)
inner_size a b = size_of-append (left_axes a) (right_axes b)

-- as many rows as the left argument has lines, each as long as the right one has
pub record Whole (a b : Array) (many q : ℕ) : Type 0 where
  pub some : 0 < q
  pub few : q ≤ many
  pub rows : many / q ≡ size_of (left_axes a)
  pub whole : many / q * q ≡ many

pub inner_whole : (a b : Array) (many q : ℕ) → 0 < many → many ≡ size_of (inner_shape a b) → q ≡ size_of (right_axes b) → Whole a b many q
inner_whole a b many q some is columns =
    let t : ℕ = size_of (left_axes a) in
    let product : many ≡ t * q = is ∙ inner_size a b ∙ ap (λ (m : ℕ). t * m) (sym columns) in
    let row : 0 < q = positive_right t q (omega (arith, some, product)) in
    let turned : many ≡ q * t = omega (arith, product) in
    let one : 1 ≤ t = positive_right q t (omega (arith, some, turned)) in
    let same : many ≡ t * q + 0 = omega (arith, product) in
    let rows : many / q ≡ t = ap (λ (m : ℕ). m / q) same ∙ div-mul-add t q 0 row in
    record {
      some = row;
      few = omega (arith, product, mul-le-mul_left q one);
      rows = rows;
      whole = ap (λ (m : ℕ). m * q) rows ∙ sym product;
    }

-- by the lines
inner_here : (a b : Array) (l : Lines) (p : ℕ) → l.n ≡ inner_length a b → l.q ≡ size_of (right_axes b) → AreLines (left_at a) (left_axes a) l.n l.left_kind l.left → AreLines (right_at b) (right_axes b) l.n l.right_kind l.right → p < size_of (inner_shape a b) →
    inner_value l.f l.g a b p ≡ product_at l p
inner_here a b l p goes columns left right below =
    let q : ℕ = size_of (right_axes b) in
    let within : p < size_of (left_axes a) * q = omega (arith, below, inner_size a b) in
    let some : 0 < q = positive_right (size_of (left_axes a)) q (omega (arith, within)) in
    let row : p / q < size_of (left_axes a) = div_below p q (size_of (left_axes a)) within in
    let column : p % q < q = omega arith in
    let is : List ℕ = index_at (left_axes a) (p / q) in
    let js : List ℕ = index_at (right_axes b) (p % q) in
    ap (λ (m : ℕ). option_and_then (reduced l.f) (all_defined (map (λ k. scalar2 l.g (left_at a is k) (right_at b js k)) (upward 0 m)))) (sym goes)
    ∙ ap (λ (os : List (Option Elem)). option_and_then (reduced l.f) (all_defined os))
    (map-upward-same (λ k. scalar2 l.g (left_at a is k) (right_at b js k)) (pair_at l (p / q) (p % q)) 0 l.n
    (λ k low high.
    let inside : k < l.n = omega (arith, high) in
    ap (λ (e : Elem). scalar2 l.g e (right_at b js k)) (left.each (p / q) k row inside)
    ∙ ap (scalar2 l.g (element_in l.left_kind l.left (p / q * l.n + k))) (right.each (p % q) k column inside)))
    ∙ ap (λ (m : ℕ). option_and_then (reduced l.f) (all_defined (map (pair_at l (p / m) (p % m)) (upward 0 l.n)))) (sym columns)

pub inner_filled : (a b : Array) (l : Lines) (many : ℕ) (results : List ℤ) (t : Bool) → l.n ≡ inner_length a b → l.q ≡ size_of (right_axes b) → AreLines (left_at a) (left_axes a) l.n l.left_kind l.left → AreLines (right_at b) (right_axes b) l.n l.right_kind l.right → many ≡ size_of (inner_shape a b) → length results ≡ many →
    MatchBool t (AreAllProducts l results) (HasUndefinedProduct l many) → MatchBool t (AreInnerResults l.f l.g a b results) (HasUndefinedInner l.f l.g a b many)
inner_filled a b l many results true goes columns left right is long all = record {
  values = λ p below. inner_here a b l p goes columns left right (omega (arith, below, long, is)) ∙ all.values p below;
  lawful = all.lawful;
}
inner_filled a b l many results false goes columns left right is long undefined = record {
  p = undefined.p;
  within = undefined.within;
  none = inner_here a b l undefined.p goes columns left right (omega (arith, undefined.within, is)) ∙ undefined.none;
}

-- ---- the definition by places

inner_parts : (f g : Dya) (a b : Array) (p : ℕ) → p < size_of (inner_shape a b) →
    inner_at f g a b (take (length (left_axes a)) (index_at (inner_shape a b) p)) (drop (length (left_axes a)) (index_at (inner_shape a b) p)) ≡ inner_value f g a b p
inner_parts f g a b p below =
    let ls : List ℕ = left_axes a in
    let rs : List ℕ = right_axes b in
    let q : ℕ = size_of rs in
    let is : List ℕ = take (length ls) (index_at (ls ++ rs) p) in
    let js : List ℕ = drop (length ls) (index_at (ls ++ rs) p) in
    let parts : Parts ls rs (index_at (ls ++ rs) p) = parts_of_index ls rs (index_at (ls ++ rs) p) (IsIndex-index_at (ls ++ rs) p below) in
    let column : place_at rs js < q = place_at-below rs js parts.right in
    let place : p ≡ place_at ls is * q + place_at rs js = sym (place_at-index_at (ls ++ rs) p below) ∙ parts.place in
    let row_is : p / q ≡ place_at ls is = ap (λ (m : ℕ). m / q) place ∙ div-mul-add (place_at ls is) q (place_at rs js) column in
    let column_is : p % q ≡ place_at rs js = ap (λ (m : ℕ). m % q) place ∙ mod-mul-add (place_at ls is) q (place_at rs js) column in
    let left : is ≡ index_at ls (p / q) = sym (index_at-place_at ls is parts.left) ∙ ap (index_at ls) (sym row_is) in
    let right : js ≡ index_at rs (p % q) = sym (index_at-place_at rs js parts.right) ∙ ap (index_at rs) (sym column_is) in
    ap (λ (xs : List ℕ). inner_at f g a b xs js) left ∙ ap (λ (xs : List ℕ). inner_at f g a b (index_at ls (p / q)) xs) right

inner_values : (f g : Dya) (a b : Array) →
    map (λ is. inner_at f g a b (take (length (left_axes a)) is) (drop (length (left_axes a)) is)) (indices (inner_shape a b)) ≡ map (inner_value f g a b) (upward 0 (size_of (inner_shape a b)))
inner_values f g a b =
    let at : List ℕ → Option Elem = λ is. inner_at f g a b (take (length (left_axes a)) is) (drop (length (left_axes a)) is) in
    sym (map-indices at (inner_shape a b))
    ∙ map-upward-same (λ p. at (index_at (inner_shape a b) p)) (inner_value f g a b) 0 (size_of (inner_shape a b)) (λ p low high. inner_parts f g a b p (omega (arith, high)))

-- ---- answers

no_fault : (n x y : ℕ) (e d : Bool) → (e ≡ false → n ≡ x) → (d ≡ false → n ≡ y) → not e && not d && not (x == y) ≡ false
no_fault n x y true d left right = refl
no_fault n x y false true left right = refl
no_fault n x y false false left right = ap not (eq-eqb x y (sym (left refl) ∙ right refl))

-- what is tried where the lengths agree
pub inner_tried : Dya → Dya → Array → Array → Unit {0} → Answer
inner_tried f g a b _ = or_domain (all_defined (map (λ is. inner_at f g a b (take (length (left_axes a)) is) (drop (length (left_axes a)) is)) (indices (inner_shape a b)))) (numbers (inner_shape a b))

pub inner_passes : (f g : Dya) (a b : Array) (n : ℕ) → HasLength n a b → inner f g a b ≡ within_limit (inner_shape a b) (inner_tried f g a b)
unfolding inner_tried
inner_passes f g a b n goes =
    passes_if error.Length (not (is_extendable a) && not (is_extendable b) && not (left_length a == right_length b)) (within_limit (inner_shape a b) (inner_tried f g a b))
    (no_fault n (left_length a) (right_length b) (is_extendable a) (is_extendable b) goes.left goes.right)

pub inner-length : (f g : Dya) (a b : Array) → IsLengthFault a b → inner f g a b ≡ Err error.Length
unfolding inner_tried
inner-length f g a b fault =
    let next : Answer = within_limit (inner_shape a b) (inner_tried f g a b) in
    ap (λ (e : Bool). error_if error.Length (not e && not (is_extendable b) && not (left_length a == right_length b)) next) fault.left
    ∙ ap (λ (e : Bool). error_if error.Length (not false && not e && not (left_length a == right_length b)) next) fault.right
    ∙ ap (λ (e : Bool). error_if error.Length (not false && not false && not e) next) fault.apart

pub inner-limit : (f g : Dya) (a b : Array) (n : ℕ) → HasLength n a b → (IsShape (inner_shape a b) → ⊥) → inner f g a b ≡ Err error.Limit
inner-limit f g a b n goes apart = inner_passes f g a b n goes ∙ by (is_shape (inner_shape a b)) refl
  where
    by : (t : Bool) → is_shape (inner_shape a b) ≡ t → within_limit (inner_shape a b) (inner_tried f g a b) ≡ Err error.Limit
    by true e = absurd (apart ((shapes_are_tested (inner_shape a b)).0 e))
    by false e = ap (λ (t : Bool). error_or error.Limit (not t) (inner_tried f g a b)) e

pub inner-ok : (f g : Dya) (a b : Array) (n : ℕ) (cells : List ℤ) → HasLength n a b → IsShape (inner_shape a b) → length cells ≡ size_of (inner_shape a b) → AreInnerResults f g a b cells →
    inner f g a b ≡ Ok (record { kind = Num; shape = inner_shape a b; cells = cells })
unfolding inner_tried
inner-ok f g a b n cells goes fits many results =
    let ns : List ℕ = inner_shape a b in
    inner_passes f g a b n goes
    ∙ passes_limit ns (inner_tried f g a b) fits
    ∙ ap (λ (os : List (Option Elem)). or_domain (all_defined os) (numbers ns)) (inner_values f g a b ∙ ap (λ (m : ℕ). map (inner_value f g a b) (upward 0 m)) (sym many))
    ∙ ap (λ (o : Option (List Elem)). or_domain o (numbers ns)) (defined-cells (inner_value f g a b) Num cells results.values)
    ∙ ap (λ (zs : List ℤ). let r : Array = record { kind = Num; shape = ns; cells = zs } in let s : Answer = Ok r in s) (cells-back Num cells)

pub inner-domain : (f g : Dya) (a b : Array) (n : ℕ) → HasLength n a b → IsShape (inner_shape a b) → HasUndefinedInner f g a b (size_of (inner_shape a b)) → inner f g a b ≡ Err error.Domain
unfolding inner_tried
inner-domain f g a b n goes fits undefined =
    let ns : List ℕ = inner_shape a b in
    let values : List (Option Elem) = map (inner_value f g a b) (upward 0 (size_of ns)) in
    let below : undefined.p < length values = omega (arith, undefined.within, length-map-upward (inner_value f g a b) 0 (size_of ns)) in
    inner_passes f g a b n goes
    ∙ passes_limit ns (inner_tried f g a b) fits
    ∙ ap (λ (os : List (Option Elem)). or_domain (all_defined os) (numbers ns)) (inner_values f g a b)
    ∙ ap (λ (o : Option (List Elem)). or_domain o (numbers ns))
    (undefined-all values undefined.p below (get_or-map-places (inner_value f g a b) (size_of ns) undefined.p None undefined.within ∙ undefined.none))

-- lengths that make a shape ask for room
pub inner_asks : (f g : Dya) (a b : Array) → IsShape (inner_shape a b) → Asks (within_limit (inner_shape a b) (inner_tried f g a b))
unfolding inner_tried
inner_asks f g a b fits =
    asks_within (inner_shape a b) (all_defined (map (λ is. inner_at f g a b (take (length (left_axes a)) is) (drop (length (left_axes a)) is)) (indices (inner_shape a b)))) (numbers (inner_shape a b)) fits
