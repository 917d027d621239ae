-- What scalar functions, reductions, products and subscripts give is lawful.
use Rattle.std.proofs.Common.{◌≡◌, ℕ, zero, suc, ◌^◌, ◌≤◌, Bool, true, false, not, ◌&&◌, ◌||◌, ◌==◌, if◌then◌else◌, ltb, ℤ, pos, List, [], ◌∷◌, ◌++◌, length, map, set, take, drop, remove, insert, Option, Some, None, Ok, Err, Result, IfSome, refl, sym, ap, subst, ◌∙◌, arith}
use Rattle.std.specs.Prelude.{slice_index, nat_eq}
use Rattle.std.specs.Cmp.Lexicographic.{pointwise}
use Rattle.std.specs.List.{AllByRecursion, list_any, zip}
use Rattle.std.specs.Option.{option_map, option_and_then}
use Rattle.std.proofs.lemmas.List.{length-map, length-replicate, length-set}
use Rattle.std.proofs.lemmas.Bool.{eqb-true}
use Rattle.std.proofs.lemmas.Bool.Decides.{nat_tests}
use Rattle.std.proofs.lemmas.Int.{ints}
use Rattle.apl_base.specs.declared.cells.Kind.{Kind}
use Rattle.apl_base.specs.declared.cells.Kind.TheVariants.{Num, Char}
use Rattle.apl_base.specs.declared.cells.Elem.{Elem}
use Rattle.apl_base.specs.declared.faults.ErrorKind.{ErrorKind}
use Rattle.apl_base.specs.declared.faults.ErrorKind.TheVariants as error
use Rattle.apl_base.specs.declared.rows.Mon.{Mon}
use Rattle.apl_base.specs.declared.rows.Dya.{Dya}
use Rattle.apl_base.specs.declared.rows.Dya.TheVariants as dya
use Rattle.apl_base.specs.Array.{Array, IsArray, IsShape, size_of, place_at, cell_at}
use Rattle.apl_base.specs.Elements.{element, elements, numbers, all_defined, indices}
use Rattle.apl_base.specs.Number.{IsNumber, IsCell}
use Rattle.apl_base.specs.Scalar.{scalar1, scalar2, is_same_kind, identity_of, number}
use Rattle.apl_base.specs.Selection.{upward}
use Rattle.apl_base.proofs.Elements.{length-indices, all_defined-each}
use Rattle.apl_base.proofs.Lists.{all_imp, all_map, all_mapped, all_replicate, all_at, all_set, length-pairs, zip-all}
use Rattle.apl_base.proofs.Numbers.{IsNumber-small}
use Rattle.apl_base.proofs.Booleans.{both_parts, neither_part}
use Rattle.scalar_table.specs.Row.{IsElement, IsNumberElement}
use Rattle.scalar_table.specs.LawfulElements.{scalar1-lawful, scalar2-lawful}
use Rattle.apl_model.specs.declared.functions.Axis.{Axis}
use Rattle.apl_model.specs.Evaluation.{literal_shape}
use Rattle.apl_model.specs.Lift.{shape_by, fitting_shape, spread, spread_to, lift1, lift_over, lift2}
use Rattle.apl_model.specs.Made.{kinds_differ}
use Rattle.apl_model.specs.Product.{reduced, elem_at, line_at, reduced_along, reduce_at, reduce, outer, left_axes, right_axes, left_length, right_length, inner_length, left_at, right_at, inner_at, inner}
use Rattle.apl_model.specs.Subscript.{is_text_position, in_axes, positions_shape, positions_index, subscript, value_at, replaced, replacement}
use Rattle.apl_model.specs.Whole.{rank, is_single, is_empty, is_extendable, first}
use Rattle.apl_model_laws.specs.Lawful.{LiteralsAreLawful}
use Rattle.apl_model_laws.proofs.Arrays.{Gives, gives, error_if-gives, within-gives, domain-gives, zero_cell, cell_at-lawful, first-lawful, gathered-array, numbers-array, elements-lawful, one_axis, no_axis}
use Rattle.apl_model_laws.proofs.Forms.{axis-gives, empty-cells}

-- a value that a further step makes of a value
then_some : {X Y : Type 0} (Q : Y → Type 0) (o : Option X) (g : X → Option Y) → ((x : X) → o ≡ Some x → IfSome (g x) Q) → IfSome (option_and_then g o) Q
then_some Q None g h = tt
then_some Q (Some x) g h = h x refl

some-is : {X : Type 0} (P : X → Type 0) (o : Option X) (x : X) → IfSome o P → o ≡ Some x → P x
some-is P None x h e = absurd cc
some-is P (Some y) x h e = let f : y ≡ x = cc in subst P f h

-- values of scalar functions at a list of operands make an array of numbers
valued : {X : Type 0} (ns : List ℕ) (value : X → Option Elem) (xs : List X) → IsShape ns → length xs ≡ size_of ns →
    AllByRecursion (λ x. IfSome (value x) IsNumberElement) xs → (es : List Elem) → all_defined (map value xs) ≡ Some es → IsArray (numbers ns es)
valued ns value xs s l h es e =
    let d = all_defined-each IsNumberElement (map value xs) es (all_map (λ o. IfSome o IsNumberElement) value xs h) e in
    numbers-array ns es s (d.0 ∙ length-map xs value ∙ l) d.1

-- ---- the lift

pub lift1-gives : (f : Mon) (b : Array) → IsArray b → Gives (lift1 f b)
lift1-gives f b h =
    domain-gives (all_defined (map (scalar1 f) (elements b))) (numbers b.shape)
    (valued b.shape (scalar1 f) (elements b) h.shape (length-map b.cells (element b.kind) ∙ h.count)
    (all_imp IsElement (λ e. IfSome (scalar1 f e) IsNumberElement) (elements b) (scalar1-lawful f) (elements-lawful b h)))

same_lengths : (ls rs : List ℕ) → pointwise nat_eq ls rs ≡ true → ls ≡ rs
same_lengths [] [] e = refl
same_lengths [] (n ∷ rs) e = absurd cc
same_lengths (m ∷ ls) [] e = absurd cc
same_lengths (m ∷ ls) (n ∷ rs) e =
    let s = both_parts (nat_eq m n) (pointwise nat_eq ls rs) e in
    let f = eqb-true m n s.0 in let g = same_lengths ls rs s.1 in cc

-- a shape that both operands fit: one that has more elements than one has as many as the shape
pub record Fits (left_single right_single : Bool) (ls rs ns : List ℕ) : Type 0 where
  pub shape : IsShape ns
  pub left : left_single ≡ false → size_of ls ≡ size_of ns
  pub right : right_single ≡ false → size_of rs ≡ size_of ns

abbrev FitsIfOk : Bool → Bool → List ℕ → List ℕ → Result (List ℕ) ErrorKind → Type 0
FitsIfOk p q ls rs (Ok ns) = Fits p q ls rs ns
FitsIfOk p q ls rs (Err e) = Unit {0}

fits_by : (alike p q : Bool) (ls rs : List ℕ) → (alike ≡ true → ls ≡ rs) → IsShape ls → IsShape rs → FitsIfOk p q ls rs (shape_by alike p q ls rs)
fits_by true p q ls rs e a b = record { shape = a; left = λ _. refl; right = λ _. ap size_of (sym (e refl)) }
fits_by false true true ls rs e a b = by (ltb (length ls) (length rs))
  where
    by : (t : Bool) → Fits true true ls rs (if t then rs else ls)
    by true = record { shape = b; left = λ f. absurd cc; right = λ f. absurd cc }
    by false = record { shape = a; left = λ f. absurd cc; right = λ f. absurd cc }
fits_by false true false ls rs e a b = record { shape = b; left = λ f. absurd cc; right = λ _. refl }
fits_by false false true ls rs e a b = record { shape = a; left = λ _. refl; right = λ f. absurd cc }
fits_by false false false ls rs e a b = tt

spread-length : (t : Bool) (n : ℕ) (a : Array) → IsArray a → (t ≡ false → size_of a.shape ≡ n) → length (spread t n a) ≡ n
spread-length true n a h e = length-replicate n (element a.kind (first a))
spread-length false n a h e = length-map a.cells (element a.kind) ∙ h.count ∙ e refl

spread-lawful : (t : Bool) (n : ℕ) (a : Array) → IsArray a → AllByRecursion IsElement (spread t n a)
spread-lawful true n a h = all_replicate IsElement n (element a.kind (first a)) (first-lawful a h.cells)
spread-lawful false n a h = elements-lawful a h

pub lift2-gives : (f : Dya) (a b : Array) → IsArray a → IsArray b → Gives (lift2 f a b)
lift2-gives f a b g h =
    by (fitting_shape a.shape b.shape) (fits_by (pointwise nat_eq a.shape b.shape) (is_single a) (is_single b) a.shape b.shape (same_lengths a.shape b.shape) g.shape h.shape)
  where
    by : (r : Result (List ℕ) ErrorKind) → FitsIfOk (is_single a) (is_single b) a.shape b.shape r → Gives (lift_over f a b r)
    by (Err e) k = record { answer = tt }
    by (Ok ns) k =
        let xs = spread_to (size_of ns) a in
        let ys = spread_to (size_of ns) b in
        domain-gives (all_defined (map (λ p. scalar2 f p.0 p.1) (zip xs ys))) (numbers ns)
        (valued ns (λ (p : Elem × Elem). scalar2 f p.0 p.1) (zip xs ys) k.shape
        (length-pairs xs ys (size_of ns) (spread-length (is_single a) (size_of ns) a g k.left) (spread-length (is_single b) (size_of ns) b h k.right))
        (all_imp (λ (p : Elem × Elem). IsElement p.0 × IsElement p.1) (λ p. IfSome (scalar2 f p.0 p.1) IsNumberElement) (zip xs ys)
        (λ p q. scalar2-lawful f p.0 p.1 q.0 q.1)
        (zip-all IsElement IsElement xs ys (spread-lawful (is_single a) (size_of ns) a g) (spread-lawful (is_single b) (size_of ns) b h))))

-- ---- reductions

from_number : (e : Elem) → IsNumberElement e → IsElement e
from_number e h = subst (λ k. IsCell k e.cell) (sym h.kind) h.cell

identity-lawful : (f : Dya) → IfSome (option_map number (identity_of f)) IsNumberElement
identity-lawful dya.Add = record { kind = refl; cell = IsNumber-small 0 (omega arith) }
identity-lawful dya.Sub = record { kind = refl; cell = IsNumber-small 0 (omega arith) }
identity-lawful dya.Mul = record { kind = refl; cell = IsNumber-small 1 (omega arith) }
identity-lawful dya.Div = record { kind = refl; cell = IsNumber-small 1 (omega arith) }
identity-lawful dya.Pow = record { kind = refl; cell = IsNumber-small 1 (omega arith) }
identity-lawful dya.Max = record { kind = refl; cell = record { least = omega (arith, ints); most = omega (arith, ints) } }
identity-lawful dya.Min = record { kind = refl; cell = record { least = omega (arith, ints); most = omega (arith, ints) } }
identity-lawful dya.Residue = record { kind = refl; cell = IsNumber-small 0 (omega arith) }
identity-lawful dya.And = record { kind = refl; cell = IsNumber-small 1 (omega arith) }
identity-lawful dya.Or = record { kind = refl; cell = IsNumber-small 0 (omega arith) }
identity-lawful dya.Nand = tt
identity-lawful dya.Nor = tt
identity-lawful dya.Lt = record { kind = refl; cell = IsNumber-small 0 (omega arith) }
identity-lawful dya.Le = record { kind = refl; cell = IsNumber-small 1 (omega arith) }
identity-lawful dya.Eq = record { kind = refl; cell = IsNumber-small 1 (omega arith) }
identity-lawful dya.Ge = record { kind = refl; cell = IsNumber-small 1 (omega arith) }
identity-lawful dya.Gt = record { kind = refl; cell = IsNumber-small 0 (omega arith) }
identity-lawful dya.Ne = record { kind = refl; cell = IsNumber-small 0 (omega arith) }

option-imp : {X : Type 0} (P Q : X → Type 0) (o : Option X) → ((x : X) → P x → Q x) → IfSome o P → IfSome o Q
option-imp P Q None h a = tt
option-imp P Q (Some x) h a = h x a

-- of two or more elements a reduction gives a number
reduced-number : (f : Dya) (b c : Elem) (bs : List Elem) → IsElement b → IfSome (reduced f (c ∷ bs)) IsElement → IfSome (reduced f (b ∷ c ∷ bs)) IsNumberElement
reduced-number f b c bs h r = then_some IsNumberElement (reduced f (c ∷ bs)) (scalar2 f b) (λ x e. scalar2-lawful f b x h (some-is IsElement (reduced f (c ∷ bs)) x r e))

-- what a reduction of elements gives is an element
reduced-lawful : (f : Dya) (bs : List Elem) → AllByRecursion IsElement bs → IfSome (reduced f bs) IsElement
reduced-lawful f [] h = option-imp IsNumberElement IsElement (option_map number (identity_of f)) from_number (identity-lawful f)
reduced-lawful f (b ∷ []) h = h.0
reduced-lawful f (b ∷ c ∷ bs) h = option-imp IsNumberElement IsElement (reduced f (b ∷ c ∷ bs)) from_number (reduced-number f b c bs h.0 (reduced-lawful f (c ∷ bs) h.1))

-- and of numbers a number
numbers-reduced : (f : Dya) (bs : List Elem) → AllByRecursion IsNumberElement bs → IfSome (reduced f bs) IsNumberElement
numbers-reduced f [] h = identity-lawful f
numbers-reduced f (b ∷ []) h = h.0
numbers-reduced f (b ∷ c ∷ bs) h =
    reduced-number f b c bs (from_number b h.0) (option-imp IsNumberElement IsElement (reduced f (c ∷ bs)) from_number (numbers-reduced f (c ∷ bs) h.1))

-- the kind that a reduction of n elements of this kind gives
abbrev reduced_kind : ℕ → Kind → Kind
reduced_kind n k = if n == 1 then k else Num

element-lawful : (b : Array) → AllByRecursion (IsCell b.kind) b.cells → (i : List ℕ) → IsElement (elem_at b i)
element-lawful b h i = cell_at-lawful b h i

not_one : (n : ℕ) → (suc (suc n) == 1) ≡ false
not_one n = grind (arith, nat_tests)

line-lawful : (f : Dya) (b : Array) → AllByRecursion (IsCell b.kind) b.cells → (at : ℕ → List ℕ) (n : ℕ) →
    IfSome (reduced f (map (λ j. elem_at b (at j)) (upward 0 n))) (λ e. IsCell (reduced_kind n b.kind) e.cell)
line-lawful f b h at zero = option-imp IsNumberElement (λ e. IsNumber e.cell) (option_map number (identity_of f)) (λ e p. p.cell) (identity-lawful f)
line-lawful f b h at (suc zero) = element-lawful b h (at 0)
line-lawful f b h at (suc (suc n)) =
    rw (not_one n) (option-imp IsNumberElement (λ e. IsNumber e.cell) (reduced f (map (λ j. elem_at b (at j)) (upward 0 (suc (suc n))))) (λ e p. p.cell)
    (reduced-number f (elem_at b (at 0)) (elem_at b (at 1)) (map (λ j. elem_at b (at j)) (upward 2 n)) (element-lawful b h (at 0))
    (reduced-lawful f (map (λ j. elem_at b (at j)) (upward 1 (suc n))) (all_mapped IsElement (λ j. elem_at b (at j)) (upward 1 (suc n)) (λ j. element-lawful b h (at j))))))

along-gives : (f : Dya) (axis : ℕ) (b : Array) → IsArray b → Gives (reduced_along f axis b)
along-gives f axis b h =
    let ns = remove b.shape axis in
    let k = reduced_kind (slice_index b.shape axis) b.kind in
    let value : List ℕ → Option Elem = λ is. reduced f (line_at axis b is) in
    within-gives ns _ (λ s. domain-gives (all_defined (map value (indices ns))) (λ es. record (numbers ns es) { kind = k }) (λ es e.
    let d = all_defined-each (λ (x : Elem). IsCell k x.cell) (map value (indices ns)) es
    (all_mapped (λ o. IfSome o (λ (x : Elem). IsCell k x.cell)) value (indices ns) (λ is. line-lawful f b h.cells (λ j. insert is axis j) (slice_index b.shape axis))) e in
    record {
      shape = s;
      count = length-map es (λ x. x.cell) ∙ d.0 ∙ length-map (indices ns) value ∙ length-indices ns;
      cells = all_map (IsCell k) (λ (x : Elem). x.cell) es d.1;
    }))

pub reduce-gives : (o : ℤ) (f : Dya) (axis : Axis) (b : Array) → IsArray b → Gives (reduce o f axis b)
reduce-gives o f axis b h = axis-gives o axis (rank b) (reduce_at f b) (λ k _. by k (rank b == 0))
  where
    by : (k : ℕ) (t : Bool) → Gives (if t then Ok b else reduced_along f k b)
    by k true = gives b h
    by k false = along-gives f k b h

-- ---- products

pub outer-gives : (f : Dya) (a b : Array) → IsArray a → IsArray b → Gives (outer f a b)
outer-gives f a b g h =
    let ns = a.shape ++ b.shape in
    let value : List ℕ → Option Elem = λ is. scalar2 f (elem_at a (take (rank a) is)) (elem_at b (drop (rank a) is)) in
    within-gives ns _ (λ s. domain-gives (all_defined (map value (indices ns))) (numbers ns) (λ es e.
    let d = all_defined-each IsNumberElement (map value (indices ns)) es
    (all_mapped (λ o. IfSome o IsNumberElement) value (indices ns)
    (λ is. scalar2-lawful f (elem_at a (take (rank a) is)) (elem_at b (drop (rank a) is)) (element-lawful a g.cells (take (rank a) is)) (element-lawful b h.cells (drop (rank a) is)))) e in
    numbers-array ns es s (d.0 ∙ length-map (indices ns) value ∙ length-indices ns) d.1))

left-lawful : (a : Array) → IsArray a → (is : List ℕ) (k : ℕ) → IsElement (left_at a is k)
left-lawful a h is k = by (is_extendable a)
  where
    by : (t : Bool) → IsElement (if t then element a.kind (first a) else elem_at a (is ++ k ∷ []))
    by true = first-lawful a h.cells
    by false = element-lawful a h.cells (is ++ k ∷ [])

right-lawful : (b : Array) → IsArray b → (is : List ℕ) (k : ℕ) → IsElement (right_at b is k)
right-lawful b h is k = by (is_extendable b)
  where
    by : (t : Bool) → IsElement (if t then element b.kind (first b) else elem_at b (k ∷ is))
    by true = first-lawful b h.cells
    by false = element-lawful b h.cells (k ∷ is)

inner_at-lawful : (f g : Dya) (a b : Array) → IsArray a → IsArray b → (is js : List ℕ) → IfSome (inner_at f g a b is js) IsNumberElement
inner_at-lawful f g a b p q is js =
    let value : ℕ → Option Elem = λ k. scalar2 g (left_at a is k) (right_at b js k) in
    let places = upward 0 (inner_length a b) in
    then_some IsNumberElement (all_defined (map value places)) (reduced f) (λ es e. numbers-reduced f es
    (all_defined-each IsNumberElement (map value places) es
    (all_mapped (λ o. IfSome o IsNumberElement) value places (λ k. scalar2-lawful g (left_at a is k) (right_at b js k) (left-lawful a p is k) (right-lawful b q js k))) e).1)

pub inner-gives : (f g : Dya) (a b : Array) → IsArray a → IsArray b → Gives (inner f g a b)
inner-gives f g a b p q =
    let ls = left_axes a in
    let ns = ls ++ right_axes b in
    let value : List ℕ → Option Elem = λ is. inner_at f g a b (take (length ls) is) (drop (length ls) is) in
    error_if-gives error.Length (not (is_extendable a) && not (is_extendable b) && not (left_length a == right_length b)) _ (λ _.
    within-gives ns _ (λ s. domain-gives (all_defined (map value (indices ns))) (numbers ns) (λ es e.
    let d = all_defined-each IsNumberElement (map value (indices ns)) es
    (all_mapped (λ o. IfSome o IsNumberElement) value (indices ns) (λ is. inner_at-lawful f g a b p q (take (length ls) is) (drop (length ls) is))) e in
    numbers-array ns es s (d.0 ∙ length-map (indices ns) value ∙ length-indices ns) d.1)))

-- ---- subscripts

pub subscript-gives : (o : ℤ) (a : Array) (ps : List (Option Array)) → IsArray a → Gives (subscript o a ps)
subscript-gives o a ps h =
    let ns = positions_shape a.shape ps in
    error_if-gives error.Rank (not (length ps == rank a)) _ (λ _. error_if-gives error.Domain (list_any is_text_position ps) _ (λ _.
    error_if-gives error.Index (not (in_axes o a.shape ps)) _ (λ _. within-gives ns _ (λ s.
    gives _ (gathered-array ns (positions_index o a.shape ps) a s h.cells)))))

replaced-length : (o : ℤ) (a : Array) (ps : List (Option Array)) (b : Array) (is : List (List ℕ)) (cells : List ℤ) → length (replaced o a ps b is cells) ≡ length cells
replaced-length o a ps b [] cells = refl
replaced-length o a ps b (i ∷ is) cells =
    let p = place_at a.shape (positions_index o a.shape ps i) in
    replaced-length o a ps b is (set cells p (value_at b i)) ∙ length-set cells p (value_at b i)

replaced-none : (o : ℤ) (a : Array) (ps : List (Option Array)) (b : Array) (is : List (List ℕ)) → replaced o a ps b is [] ≡ []
replaced-none o a ps b [] = refl
replaced-none o a ps b (i ∷ is) = replaced-none o a ps b is

value-lawful : (k : Kind) (b : Array) → AllByRecursion (IsCell k) b.cells → (is : List ℕ) → IsCell k (value_at b is)
value-lawful k b h is = by (is_single b)
  where
    by : (t : Bool) → IsCell k (if t then first b else cell_at b is)
    by true = all_at (IsCell k) b.cells 0 (pos 0) h (zero_cell k)
    by false = all_at (IsCell k) b.cells (place_at b.shape is) (pos 0) h (zero_cell k)

replaced-lawful : (k : Kind) (o : ℤ) (a : Array) (ps : List (Option Array)) (b : Array) → AllByRecursion (IsCell k) b.cells → (is : List (List ℕ)) (cells : List ℤ) →
    AllByRecursion (IsCell k) cells → AllByRecursion (IsCell k) (replaced o a ps b is cells)
replaced-lawful k o a ps b h [] cells c = c
replaced-lawful k o a ps b h (i ∷ is) cells c =
    let p = place_at a.shape (positions_index o a.shape ps i) in
    replaced-lawful k o a ps b h is (set cells p (value_at b i)) (all_set (IsCell k) cells p (value_at b i) c (value-lawful k b h i))

-- of cells of one kind, or where there are none
replaced-cells : (ea eb : Bool) (k l : Kind) (o : ℤ) (a : Array) (ps : List (Option Array)) (b : Array) (is : List (List ℕ)) (cells : List ℤ) →
    (ea ≡ true → cells ≡ []) → (eb ≡ true → b.cells ≡ []) → AllByRecursion (IsCell k) cells → AllByRecursion (IsCell l) b.cells →
    not ea && not eb && not (is_same_kind k l) ≡ false → AllByRecursion (IsCell k) (replaced o a ps b is cells)
replaced-cells true eb k l o a ps b is cells f g c d e = rw (f refl, replaced-none o a ps b is) tt
replaced-cells false true k l o a ps b is cells f g c d e = replaced-lawful k o a ps b (rw (g refl) tt) is cells c
replaced-cells false false Num Num o a ps b is cells f g c d e = replaced-lawful Num o a ps b d is cells c
replaced-cells false false Char Char o a ps b is cells f g c d e = replaced-lawful Char o a ps b d is cells c
replaced-cells false false Num Char o a ps b is cells f g c d e = absurd cc
replaced-cells false false Char Num o a ps b is cells f g c d e = absurd cc

pub replacement-gives : (o : ℤ) (a : Array) (ps : List (Option Array)) (b : Array) → IsArray a → IsArray b → Gives (replacement o a ps b)
replacement-gives o a ps b g h =
    let ns = positions_shape a.shape ps in
    error_if-gives error.Rank (not (length ps == rank a) || (not (is_single b) && not (rank b == length ns))) _ (λ _.
    error_if-gives error.Length (not (is_single b) && not (pointwise nat_eq b.shape ns)) _ (λ _.
    error_if-gives error.Domain (list_any is_text_position ps || kinds_differ a b) _ (λ e.
    error_if-gives error.Index (not (in_axes o a.shape ps)) _ (λ _. within-gives ns _ (λ s. gives _ (record {
      shape = g.shape;
      count = replaced-length o a ps b (indices ns) a.cells ∙ g.count;
      cells = replaced-cells (is_empty a) (is_empty b) a.kind b.kind o a ps b (indices ns) a.cells (empty-cells a g) (empty-cells b h) g.cells h.cells
          (neither_part (list_any is_text_position ps) (kinds_differ a b) e).1;
    }))))))

-- ---- literals

pub literals_are_lawful : LiteralsAreLawful
literals_are_lawful l h = by l.cells h.cells h.few
  where
    by : (cells : List ℤ) → AllByRecursion (IsCell l.kind) cells → length cells ≤ 2 ^ 40 → IsArray (record { kind = l.kind; shape = literal_shape cells; cells = cells })
    by [] c n = record { shape = one_axis 0 (omega arith); count = refl; cells = tt }
    by (z ∷ []) c n = record { shape = no_axis; count = refl; cells = c }
    by (y ∷ z ∷ zs) c n = record { shape = one_axis (length (y ∷ z ∷ zs)) n; count = omega arith; cells = c }
