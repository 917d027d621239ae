-- What `A⍳B` and `A∈B` answer.
use Rattle.std.proofs.Common.{◌≡◌, ◌==◌, ℕ, suc, ◌+◌, Bool, true, false, not, ◌||◌, cond, ltb, ℤ, pos, unsigned_abs, to_z, of_z, inl, inr, int_lt, List, [], ◌∷◌, map, length, Ok, Err, refl, sym, ap, ◌∙◌, arith}
use Rattle.std.specs.Int.{w128}
use Rattle.std.specs.List.{position_or_len, list_any}
use Rattle.std.proofs.lemmas.List.{length-map}
use Rattle.std.proofs.lemmas.Bool.Decides.{nat_tests}
use Rattle.apl_base.specs.declared.cells.Kind.TheVariants.{Num}
use Rattle.apl_base.specs.declared.cells.Elem.{Elem}
use Rattle.apl_base.specs.declared.faults.ErrorKind.TheVariants as error
use Rattle.apl_base.specs.Array.{Array, IsArray}
use Rattle.apl_base.specs.Elements.{element, elements}
use Rattle.apl_base.specs.Scalar.{is_same, truth}
use Rattle.apl_model.specs.Whole.{Answer, rank}
use Rattle.apl_model.specs.Made.{counted_from, index_of, member}
use Rattle.apl_model_laws.specs.Lawful.{IsOrigin}
use Rattle.apl_model_laws.proofs.Forms.{index_of-gives, member-gives}
use Rattle.value_fns.specs.Searches.{first_places}
use Rattle.value_fns.proofs.Ends.{passes, stops, lawful_array}

-- ---- `A⍳B`

-- the array of places
abbrev pub places_array : ℤ → Array → Array → Array
places_array o a b = record { kind = Num; shape = b.shape; cells = map (counted_from o) (first_places a b) }

map_twice : {X Y Z : Type 0} (f : Y → Z) (g : X → Y) (xs : List X) → map (λ x. f (g x)) xs ≡ map f (map g xs)
map_twice f g [] = refl
map_twice f g (x ∷ xs) = let rest = map_twice f g xs in cc

pub places_answer : (o : ℤ) (a b : Array) → rank a ≡ 1 → index_of o a b ≡ Ok (places_array o a b)
places_answer o a b one =
    let e : (rank a == 1) ≡ true = grind (arith, nat_tests) in
    passes error.Rank (not (rank a == 1)) (Ok (record { kind = Num; shape = b.shape; cells = map (λ e. counted_from o (position_or_len (is_same e) (elements a))) (elements b) })) (ap not e)
    ∙ ap (λ (cells : List ℤ). let r : Answer = Ok (record { kind = Num; shape = b.shape; cells = cells }) in r) (map_twice (counted_from o) (λ (e : Elem). position_or_len (is_same e) (elements a)) (elements b))

pub places_rank : (o : ℤ) (a b : Array) → (rank a ≡ 1 → ⊥) → index_of o a b ≡ Err error.Rank
places_rank o a b other =
    let e : (rank a == 1) ≡ false = grind (arith, nat_tests) in
    stops error.Rank (not (rank a == 1)) (Ok (record { kind = Num; shape = b.shape; cells = map (λ e. counted_from o (position_or_len (is_same e) (elements a))) (elements b) })) (ap not e)

pub places_lawful : (o : ℤ) (a b : Array) → IsOrigin o → IsArray a → IsArray b → rank a ≡ 1 → IsArray (places_array o a b)
places_lawful o a b origin left right one = lawful_array (index_of o a b) (places_array o a b) (places_answer o a b one) (index_of-gives o origin a b left right).answer

-- ---- `A∈B`

-- one of the elements passes exactly where the first place is among them
any_place : (p : Elem → Bool) (es : List Elem) → list_any p es ≡ int_lt (pos (position_or_len p es)) (pos (length es))
any_place p [] = refl
any_place p (e ∷ es) = by (p e) refl (any_place p es)
  where
    by : (t : Bool) → p e ≡ t → list_any p es ≡ ltb (position_or_len p es) (length es) → t || list_any p es ≡ ltb (cond (not t) (1 + position_or_len p es) 0) (suc (length es))
    by true h rest = grind (arith, nat_tests)
    by false h rest = rest ∙ grind (arith, nat_tests)

-- the array of tests
abbrev pub tests_array : Array → Array → Array
tests_array a b = record { kind = Num; shape = a.shape; cells = map (λ e. truth (list_any (is_same e) (elements b))) (elements a) }

-- the tests of the first places
tests_of_places : (n : ℕ) (es wanted : List Elem) → length es ≡ n → map (λ z. truth (int_lt z (pos n))) (map (counted_from (pos 0)) (map (λ e. position_or_len (is_same e) es) wanted)) ≡ map (λ e. truth (list_any (is_same e) es)) wanted
tests_of_places n es [] long = refl
tests_of_places n es (w ∷ wanted) long =
    let here : int_lt (counted_from (pos 0) (position_or_len (is_same w) es)) (pos n) ≡ list_any (is_same w) es =
    (let zero_first : 0 + position_or_len (is_same w) es ≡ position_or_len (is_same w) es = omega arith in
    ap (λ (m : ℕ). ltb m n) zero_first ∙ ap (λ (m : ℕ). ltb (position_or_len (is_same w) es) m) (sym long)) ∙ sym (any_place (is_same w) es) in
    let head = ap truth here in
    let rest = tests_of_places n es wanted long in
    cc

pub tests_cells : (a b : Array) (n : ℕ) (cells : List ℤ) → length b.cells ≡ n → cells ≡ map (counted_from (pos 0)) (first_places b a) → map (λ z. truth (int_lt z (pos n))) cells ≡ (tests_array a b).cells
tests_cells a b n cells long found =
    ap (map (λ z. truth (int_lt z (pos n)))) found ∙ tests_of_places n (elements b) (elements a) (length-map b.cells (element b.kind) ∙ long)

pub tests_lawful : (a b : Array) → IsArray a → IsArray (tests_array a b)
tests_lawful a b h = lawful_array (member a b) (tests_array a b) refl (member-gives a b h).answer

-- an origin that was cast to a number without sign
pub origin_back : (o : ℤ) → IsOrigin o → pos (unsigned_abs (to_z w128 (of_z w128 o))) ≡ o
origin_back o (inl e) = ap (λ (z : ℤ). pos (unsigned_abs (to_z w128 (of_z w128 z)))) e ∙ sym e
origin_back o (inr e) = ap (λ (z : ℤ). pos (unsigned_abs (to_z w128 (of_z w128 z)))) e ∙ sym e

-- the cells that were found, counted from that origin
pub places_cells : (o : ℤ) (a b : Array) (cells : List ℤ) → IsOrigin o → cells ≡ map (counted_from (pos (unsigned_abs (to_z w128 (of_z w128 o))))) (first_places a b) → cells ≡ (places_array o a b).cells
places_cells o a b cells origin found = found ∙ ap (λ (z : ℤ). map (counted_from z) (first_places a b)) (origin_back o origin)
