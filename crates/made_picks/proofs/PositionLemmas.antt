-- Positions, one after the other.
use mir.Syntax.{w128}
use Rattle.std.proofs.Common.{◌≡◌, ℕ, zero, suc, ◌+◌, ◌/◌, ◌^◌, ◌<◌, ◌≤◌, Bool, true, false, ◌&&◌, ◌||◌, ℤ, pos, ◌+ℤ◌, ◌-ℤ◌, ◌*ℤ◌, ◌≤ℤ◌, ◌<ℤ◌, List, [], ◌∷◌, ◌++◌, length, map, take, drop, get_or, Option, Some, None, IfSome, IfNone, Result, Ok, Err, IsOk, IfOk, All, refl, sym, ap, ◌∙◌, subst, append_assoc, append-nil, length-append, arith}
use Rattle.std.specs.Prelude.{int_le, int_lt}
use Rattle.std.specs.List.{AllByRecursion, list_any, list_all}
use Rattle.std.specs.Option.{option_map}
use Rattle.std.specs.Result.{result_ok}
use Rattle.std.proofs.lemmas.Bool.{false≢true}
use Rattle.std.proofs.Common.{inl, inr, FitsSigned}
use Rattle.std.proofs.lemmas.Int.{ints, fits_signed_from_abs}
use Rattle.std.proofs.lemmas.List.{map-append, length-map, get_or-map, drop_more, drop_all, take_all}
use Rattle.std.proofs.lemmas.Simd.{map-map}
use Rattle.apl_base.specs.Array.{Array, IsShape, size_of, index_at}
use Rattle.apl_base.specs.Number.{IsNumber}
use Rattle.apl_base.specs.Selection.{upward, only_index}
use Rattle.apl_base.proofs.Booleans.{both_parts, list_all-each}
use Rattle.apl_base.proofs.Elements.{tabulated-count}
use Rattle.apl_base.proofs.Lists.{all_place}
use Rattle.apl_base.proofs.Upward.{length-map-upward, map-upward-same, get_or-map-places}
use Rattle.array_desc.specs.Desc.{DescView, IsDesc, dot, number}
use Rattle.array_desc.proofs.Indices.{index_with_size}
use Rattle.array_desc.proofs.Sums.{dot-zeros}
use Rattle.apl_base.specs.declared.cells.Kind.{Kind}
use Rattle.array_store.specs.Stores.{StoreView, IsStore}
use Rattle.array_store.specs.Counting.{OnlyCounted, OnlyFetched}
use Rattle.array_store.proofs.CountingLemmas.{OnlyFetched-none, OnlyFetched-then, OnlyFetched-more}
use Rattle.apl_model_laws.specs.Lawful.{IsOrigin}
use Rattle.drag_along.specs.declared.leaves.Leaf.{Leaf}
use Rattle.drag_along.specs.declared.leaves.Leaf.TheVariants.{Gen}
use Rattle.drag_along.specs.Nodes.{leaf_kind, leaf_shape}
use Rattle.drag_along.specs.Meaning.{leaf_cell}
use Rattle.drag_along.specs.Lawful.{IsLawfulLeaf}
use Rattle.e_machine.proofs.CountedLemmas.{lawful_leaf-counted, leaf_array-counted}
use Rattle.leaf_names.specs.Variables.{array_of}
use Rattle.apl_model.specs.Subscript.{is_place, in_axis, in_axes, axes_of, positions_shape}
use Rattle.made_fns.specs.Answers.{is_between}
use Rattle.made_picks.specs.declared.tracks.Track.{Track}
use Rattle.made_picks.specs.declared.tracks.Track.TheVariants.{Line}
use Rattle.made_picks.specs.Picks.{positions_of, elements_at, elements_named}
use Rattle.made_picks.specs.Tracks.{stepped, places_on, Names, FitsAxis, FitAxes, named_on, named_along}
use Rattle.made_picks.proofs.NamedLemmas.{IsFilled, place-named}

-- the array that a position stands for
abbrev pub position_of : StoreView → Option Leaf → Option Array
position_of s p = option_map (array_of s) p

-- ---- a store that only counted

pub position-counted : (old new : StoreView) (p : Option Leaf) → OnlyCounted old new → position_of new p ≡ position_of old p
position-counted old new None only = refl
position-counted old new (Some leaf) only = ap (λ (x : Array). Some x) (leaf_array-counted old new (leaf_shape leaf) leaf only)

pub positions-counted : (old new : StoreView) (ps : List (Option Leaf)) → OnlyCounted old new → positions_of new ps ≡ positions_of old ps
positions-counted old new [] only = refl
positions-counted old new (p ∷ ps) only =
    let here = position-counted old new p only in
    let rest = positions-counted old new ps only in
    cc

lawful-position : (old new : StoreView) (p : Option Leaf) → OnlyCounted old new → IfSome p (IsLawfulLeaf old) → IfSome p (IsLawfulLeaf new)
lawful-position old new None only h = tt
lawful-position old new (Some leaf) only h = lawful_leaf-counted old new leaf only h

pub lawful-at : (old new : StoreView) (ps : List (Option Leaf)) (i : ℕ) (p : Option Leaf) → OnlyCounted old new → All (λ p. IfSome p (IsLawfulLeaf old)) ps → i < length ps → p ≡ get_or ps i p → IfSome p (IsLawfulLeaf new)
lawful-at old new ps i p only h below is =
    lawful-position old new p only (subst (λ (q : Option Leaf). IfSome q (IsLawfulLeaf old)) (sym is) (h i p below))

pub lawful-all : (old new : StoreView) (ps : List (Option Leaf)) → OnlyCounted old new → All (λ p. IfSome p (IsLawfulLeaf old)) ps → All (λ p. IfSome p (IsLawfulLeaf new)) ps
lawful-all old new ps only h = λ k d below. lawful-position old new (get_or ps k d) only (h k d below)

pub positions-filled : (s : StoreView) (ps : List (Option Leaf)) → AllByRecursion IsFilled (positions_of s ps)
positions-filled s [] = tt
positions-filled s (None ∷ ps) = (tt, positions-filled s ps)
positions-filled s (Some leaf ∷ ps) = (tabulated-count (leaf_kind leaf) (leaf_shape leaf) (leaf_cell s leaf), positions-filled s ps)

pub length-positions : (s : StoreView) (ps : List (Option Leaf)) → length (positions_of s ps) ≡ length ps
length-positions s ps = length-map ps (option_map (array_of s))

-- ---- one more

pub positions_drop : (s : StoreView) (ps : List (Option Leaf)) (i : ℕ) (p : Option Leaf) → i < length ps → p ≡ get_or ps i p → positions_of s (drop i ps) ≡ position_of s p ∷ positions_of s (drop (i + 1) ps)
positions_drop s ps i p below is =
    ap (positions_of s) (drop_more ps i p below) ∙ ap (λ (q : Option Leaf). position_of s q ∷ positions_of s (drop (i + 1) ps)) (sym is)

pub named_more : (ps : List (Option Leaf)) (i : ℕ) (p : Option Leaf) → i < length ps → p ≡ get_or ps i p → elements_named (take (i + 1) ps) ≡ elements_named (take i ps) + elements_at p
named_more [] i p below is = absurd (omega (arith, below))
named_more (x ∷ ps) zero p below is =
    let same : elements_at p ≡ elements_at x = ap elements_at is in
    omega (arith, same)
named_more (x ∷ ps) (suc i) p below is =
    let rest = named_more ps i p (omega (arith, below)) is in
    let e : suc i + 1 ≡ suc (i + 1) = omega arith in
    rw e (omega (arith, rest))

pub named_few : (ps : List (Option Leaf)) (i : ℕ) → elements_named (take i ps) ≤ elements_named ps
named_few [] zero = omega arith
named_few [] (suc i) = omega arith
named_few (x ∷ ps) zero = omega arith
named_few (x ∷ ps) (suc i) = omega (arith, named_few ps i)

pub named_next : (ps : List (Option Leaf)) (i : ℕ) (p : Option Leaf) → i < length ps → p ≡ get_or ps i p → elements_named (take i ps) + elements_at p ≤ elements_named ps
named_next ps i p below is = omega (arith, named_more ps i p below is, named_few ps (i + 1))

-- ---- characters

any_at : {X : Type 0} (f : X → Bool) (xs : List X) (i : ℕ) (x : X) → i < length xs → x ≡ get_or xs i x → f x ≡ true → list_any f xs ≡ true
any_at f [] i x below is h = absurd (omega (arith, below))
any_at f (y ∷ xs) zero x below is h = rw (ap f (sym is) ∙ h) refl
any_at f (y ∷ xs) (suc i) x below is h = either (f y) (list_any f xs) (any_at f xs i x (omega (arith, below)) is h)
  where
    either : (a b : Bool) → b ≡ true → a || b ≡ true
    either true b e = refl
    either false b e = e

any_more : {X : Type 0} (f : X → Bool) (xs : List X) (i : ℕ) (x : X) → i < length xs → x ≡ get_or xs i x → f x ≡ false → list_any f (take i xs) ≡ false → list_any f (take (i + 1) xs) ≡ false
any_more f [] i x below is h so_far = absurd (omega (arith, below))
any_more f (y ∷ xs) zero x below is h so_far = rw (ap f (sym is) ∙ h) refl
any_more f (y ∷ xs) (suc i) x below is h so_far =
    let e : suc i + 1 ≡ suc (i + 1) = omega arith in
    let parts = neither (f y) (list_any f (take i xs)) so_far in
    rw e (rw parts.0 (any_more f xs i x (omega (arith, below)) is h parts.1))
  where
    neither : (a b : Bool) → a || b ≡ false → (a ≡ false) × (b ≡ false)
    neither true b e = absurd cc
    neither false b e = (refl, e)

pub any_map : {X Y : Type 0} (f : Y → Bool) (g : X → Y) (xs : List X) → list_any f (map g xs) ≡ list_any (λ x. f (g x)) xs
any_map f g [] = refl
any_map f g (x ∷ xs) = ap (λ (t : Bool). f (g x) || t) (any_map f g xs)

pub text_at : (f : Option Array → Bool) (s : StoreView) (ps : List (Option Leaf)) (i : ℕ) (p : Option Leaf) → i < length ps → p ≡ get_or ps i p → f (position_of s p) ≡ true → list_any f (positions_of s ps) ≡ true
text_at f s ps i p below is h = any_map f (position_of s) ps ∙ any_at (λ q. f (position_of s q)) ps i p below is h

pub text_more : (f : Option Array → Bool) (s : StoreView) (ps : List (Option Leaf)) (i : ℕ) (p : Option Leaf) → i < length ps → p ≡ get_or ps i p → f (position_of s p) ≡ false → list_any f (positions_of s (take i ps)) ≡ false → list_any f (positions_of s (take (i + 1) ps)) ≡ false
text_more f s ps i p below is h so_far =
    any_map f (position_of s) (take (i + 1) ps) ∙ any_more (λ q. f (position_of s q)) ps i p below is h (sym (any_map f (position_of s) (take i ps)) ∙ so_far)

-- ---- places of an axis

-- the test by the least and the greatest number
place-between : (o : ℤ) (n : ℕ) (v : ℤ) → is_between o ((o +ℤ pos n) -ℤ pos 1) v ≡ is_place o n v
place-between o n v = ap (λ (t : Bool). int_le o v && t) (by (int_le v ((o +ℤ pos n) -ℤ pos 1)) (int_lt v (o +ℤ pos n)) refl refl)
  where
    by : (a b : Bool) → int_le v ((o +ℤ pos n) -ℤ pos 1) ≡ a → int_lt v (o +ℤ pos n) ≡ b → a ≡ b
    by true true p q = refl
    by false false p q = refl
    by true false p q = absurd (omega (arith, ints, p, q))
    by false true p q = absurd (omega (arith, ints, p, q))

pub all-places : (o : ℤ) (n : ℕ) (cells : List ℤ) → list_all (is_between o ((o +ℤ pos n) -ℤ pos 1)) cells ≡ list_all (is_place o n) cells
all-places o n [] = refl
all-places o n (v ∷ cells) =
    let here = place-between o n v in
    let rest = all-places o n cells in
    cc

pub names-all : (o : ℤ) (n : ℕ) (cells : List ℤ) → list_all (is_place o n) cells ≡ true → All (Names o n) cells
names-all o n cells h = λ k d below. place-named o n (get_or cells k d) (all_place (λ v. is_place o n v ≡ true) cells k d (list_all-each (is_place o n) cells h) below)

-- ---- all axes

pub axes_more : (o : ℤ) (axes : List ℕ) (ps : List (Option Array)) (n : ℕ) (p : Option Array) (ns : List ℕ) (qs : List (Option Array)) → axes ≡ n ∷ ns → ps ≡ p ∷ qs → in_axes o axes ps ≡ in_axis o n p && in_axes o ns qs
axes_more o axes ps n p ns qs a b = ap (λ (xs : List ℕ). in_axes o xs ps) a ∙ ap (λ (xs : List (Option Array)). in_axes o (n ∷ ns) xs) b

-- each of the positions lies in its axis
pub axis_within : (o : ℤ) (axes : List ℕ) (ps : List (Option Array)) (i : ℕ) → length axes ≡ length ps → in_axes o axes ps ≡ true → i < length ps → in_axis o (get_or axes i 0) (get_or ps i None) ≡ true
axis_within o [] ps i same h below = absurd (omega (arith, same, below))
axis_within o (n ∷ ns) [] i same h below = absurd (omega (arith, below))
axis_within o (n ∷ ns) (p ∷ ps) zero same h below = (both_parts (in_axis o n p) (in_axes o ns ps) h).0
axis_within o (n ∷ ns) (p ∷ ps) (suc i) same h below = axis_within o ns ps i (omega (arith, same)) (both_parts (in_axis o n p) (in_axes o ns ps) h).1 (omega (arith, below))

pub named_along-more : (o : ℤ) (axes : List ℕ) (ps : List (Option Array)) (n : ℕ) (p : Option Array) (ns : List ℕ) (qs : List (Option Array)) → axes ≡ n ∷ ns → ps ≡ p ∷ qs → named_along o axes ps ≡ named_on o n p ∷ named_along o ns qs
named_along-more o axes ps n p ns qs a b = ap (λ (xs : List ℕ). named_along o xs ps) a ∙ ap (λ (xs : List (Option Array)). named_along o (n ∷ ns) xs) b

pub shape_more : (axes : List ℕ) (ps : List (Option Array)) (n : ℕ) (p : Option Array) (ns : List ℕ) (qs : List (Option Array)) → axes ≡ n ∷ ns → ps ≡ p ∷ qs → positions_shape axes ps ≡ axes_of n p ++ positions_shape ns qs
shape_more axes ps n p ns qs a b = ap (λ (xs : List ℕ). positions_shape xs ps) a ∙ ap (λ (xs : List (Option Array)). positions_shape (n ∷ ns) xs) b

-- tracks of the axes so far, and one more
pub fit_more : (axes : List ℕ) (tracks : List Track) (i : ℕ) (t : Track) → i < length axes → FitAxes (take i axes) tracks → FitsAxis (get_or axes i 0) t → FitAxes (take (i + 1) axes) (tracks ++ t ∷ [])
fit_more [] tracks i t below so_far h = absurd (omega (arith, below))
fit_more (n ∷ ns) [] zero t below so_far h = (h, tt)
fit_more (n ∷ ns) (x ∷ tracks) zero t below so_far h = absurd so_far
fit_more (n ∷ ns) [] (suc i) t below so_far h = absurd so_far
fit_more (n ∷ ns) (x ∷ tracks) (suc i) t below so_far h =
    let e : suc i + 1 ≡ suc (i + 1) = omega arith in
    rw e (so_far.0, fit_more ns tracks i t (omega (arith, below)) so_far.1 h)

-- ---- a line of numbers without an owner

pub base_number : (d : DescView) → IsDesc d → IsNumber d.base
base_number d is = by (size_of d.shape) refl
  where
    by : (n : ℕ) → size_of d.shape ≡ n → IsNumber d.base
    by zero e = subst IsNumber (sym (is.empty e).base) (record { least = omega (arith, ints); most = omega (arith, ints) })
    by (suc n) e =
        let none : d.base +ℤ pos 0 ≡ d.base = omega (arith, ints) in
        subst IsNumber (ap (λ (z : ℤ). d.base +ℤ z) (dot-zeros d.strides d.shape) ∙ none) (is.numbers (only_index d.shape) (index_with_size d.shape (omega (arith, e))))

line_number : (base : ℤ) (ss : List ℤ) (ns : List ℕ) (j : ℕ) → length ss ≡ length ns → length ns ≤ 1 → j < size_of ns → base +ℤ dot ss (index_at ns j) ≡ base +ℤ (get_or ss 0 (pos 0) *ℤ pos j)
line_number base [] [] j same few below =
    let zero : j ≡ 0 = omega (arith, below) in
    rw zero (omega (arith, ints))
line_number base [] (n ∷ ns) j same few below = absurd (omega (arith, same))
line_number base (s ∷ ss) [] j same few below = absurd (omega (arith, same))
line_number base (s ∷ ss) (n ∷ m ∷ ns) j same few below = absurd (omega (arith, few))
line_number base (s ∷ []) (n ∷ []) j same few below =
    let one : j / 1 ≡ j = omega arith in
    rw one (omega (arith, ints))
line_number base (s ∷ t ∷ ss) (n ∷ []) j same few below = absurd (omega (arith, same))

pub line_is : (d : DescView) (o : ℤ) → IsDesc d → length d.shape ≤ 1 → stepped (d.base -ℤ o) (get_or d.strides 0 (pos 0)) (size_of d.shape) ≡ map (λ v. Some (v -ℤ o)) (map (λ p. number d (index_at d.shape p)) (upward 0 (size_of d.shape)))
line_is d o is few =
    map-upward-same (λ j. Some ((d.base -ℤ o) +ℤ (get_or d.strides 0 (pos 0) *ℤ pos j))) (λ j. Some (number d (index_at d.shape j) -ℤ o)) 0 (size_of d.shape) (λ j low high.
    let here : number d (index_at d.shape j) ≡ d.base +ℤ (get_or d.strides 0 (pos 0) *ℤ pos j) = line_number d.base d.strides d.shape j is.strides few (omega (arith, high)) in
    let e : (d.base -ℤ o) +ℤ (get_or d.strides 0 (pos 0) *ℤ pos j) ≡ (d.base +ℤ (get_or d.strides 0 (pos 0) *ℤ pos j)) -ℤ o = omega (arith, ints) in
    ap (λ (z : ℤ). Some z) (e ∙ ap (λ (z : ℤ). z -ℤ o) (sym here)))
    ∙ sym (map-map (λ v. Some (v -ℤ o)) (λ p. number d (index_at d.shape p)) (upward 0 (size_of d.shape)))

-- numbers that name places lie on the axis
pub line_fits : (n count : ℕ) (o from step : ℤ) (cells : List ℤ) → stepped from step count ≡ map (λ v. Some (v -ℤ o)) cells → list_all (is_place o n) cells ≡ true → count ≤ 2 ^ 40 → FitsAxis n (Line 0 from step count 0)
line_fits n count o from step cells are within few = (record { low = λ j below. (by j below).0; high = λ j below. (by j below).1 }, omega (arith, few))
  where
    by : (j : ℕ) → j < count → (pos 0 ≤ℤ (from +ℤ (step *ℤ pos j))) × ((from +ℤ (step *ℤ pos j)) <ℤ pos n)
    by j below =
        let long : count ≡ length cells = sym (length-map-upward (λ i. Some (from +ℤ (step *ℤ pos i))) 0 count) ∙ ap length are ∙ length-map cells (λ v. Some (v -ℤ o)) in
        let here : Some (from +ℤ (step *ℤ pos j)) ≡ Some (get_or cells j (pos 0) -ℤ o) =
        sym (get_or-map-places (λ i. Some (from +ℤ (step *ℤ pos i))) count j None below) ∙ ap (λ (xs : List (Option ℤ)). get_or xs j None) are ∙ get_or-map (λ v. Some (v -ℤ o)) cells j (pos 0) None (omega (arith, below, long)) in
        let same : from +ℤ (step *ℤ pos j) ≡ get_or cells j (pos 0) -ℤ o = cc in
        let named = names-all o n cells within j (pos 0) (omega (arith, below, long)) in
        (omega (arith, ints, same, named.0), omega (arith, ints, same, named.1))

pub less_fits : (b o : ℤ) → IsNumber b → IsOrigin o → FitsSigned w128 (b -ℤ o)
less_fits b o h (inl e) = fits_signed_from_abs w128 (b -ℤ o) (omega (arith, ints, h.least, h.most, e))
less_fits b o h (inr e) = fits_signed_from_abs w128 (b -ℤ o) (omega (arith, ints, h.least, h.most, e))

-- the numbers of such a leaf less the origin
pub line_cells : (s : StoreView) (leaf : Leaf) (d : DescView) (kind : Kind) (o base stride : ℤ) (size : ℕ) → leaf ≡ Gen d kind → base ≡ d.base → stride ≡ get_or d.strides 0 (pos 0) → size ≡ size_of d.shape → IsDesc d → length d.shape ≤ 1
    → stepped (base -ℤ o) stride size ≡ map (λ v. Some (v -ℤ o)) (array_of s leaf).cells
line_cells s leaf d kind o base stride size a b e f is few =
    ap (λ (z : ℤ). stepped (z -ℤ o) stride size) b
    ∙ ap (λ (z : ℤ). stepped (d.base -ℤ o) z size) e
    ∙ ap (λ (n : ℕ). stepped (d.base -ℤ o) (get_or d.strides 0 (pos 0)) n) f
    ∙ line_is d o is few
    ∙ ap (λ (l : Leaf). map (λ v. Some (v -ℤ o)) (array_of s l).cells) (sym a)

-- ---- what the loops keep

pub positions_at : (s : StoreView) (ps : List (Option Leaf)) (i : ℕ) (p : Option Leaf) → i < length ps → p ≡ get_or ps i p → get_or (positions_of s ps) i None ≡ position_of s p
positions_at s ps i p below is = get_or-map (option_map (array_of s)) ps i p None below ∙ ap (position_of s) (sym is)

-- all positions so far lie in their axes
pub record AxesTo (s now : StoreView) (axes : List ℕ) (ps : List (Option Leaf)) (o : ℤ) (k : ℕ) : Type 0 where
  pub rest : in_axes o axes (positions_of s ps) ≡ in_axes o (drop k axes) (positions_of s (drop k ps))
  pub counted : OnlyFetched s now (elements_named (take k ps))
  pub store : IsStore now

pub axes_none : (s : StoreView) (axes : List ℕ) (ps : List (Option Leaf)) (o : ℤ) → IsStore s → AxesTo s s axes ps o 0
axes_none s axes ps o is = record { rest = refl; counted = OnlyFetched-none s _; store = is }

axes_step : (s : StoreView) (axes : List ℕ) (ps : List (Option Leaf)) (o : ℤ) (k : ℕ) (p : Option Leaf) → length axes ≡ length ps → k < length ps → p ≡ get_or ps k p
    → in_axes o (drop k axes) (positions_of s (drop k ps)) ≡ in_axis o (get_or axes k 0) (position_of s p) && in_axes o (drop (k + 1) axes) (positions_of s (drop (k + 1) ps))
axes_step s axes ps o k p same below is =
    axes_more o (drop k axes) (positions_of s (drop k ps)) (get_or axes k 0) (position_of s p) (drop (k + 1) axes) (positions_of s (drop (k + 1) ps)) (drop_more axes k 0 (omega (arith, same, below))) (positions_drop s ps k p below is)

pub axes_next : (s now then : StoreView) (axes : List ℕ) (ps : List (Option Leaf)) (o : ℤ) (k : ℕ) (p : Option Leaf) → AxesTo s now axes ps o k → length axes ≡ length ps → k < length ps → p ≡ get_or ps k p
    → in_axis o (get_or axes k 0) (position_of now p) ≡ true → OnlyFetched now then (elements_at p) → IsStore then → AxesTo s then axes ps o (k + 1)
axes_next s now then axes ps o k p to same below is within counted lawful =
    let here : in_axis o (get_or axes k 0) (position_of s p) ≡ true = ap (in_axis o (get_or axes k 0)) (sym (position-counted s now p to.counted.only)) ∙ within in
    record {
      rest = to.rest ∙ axes_step s axes ps o k p same below is ∙ ap (λ (t : Bool). t && in_axes o (drop (k + 1) axes) (positions_of s (drop (k + 1) ps))) here;
      counted = OnlyFetched-more s then _ _ (omega (arith, named_more ps k p below is)) (OnlyFetched-then s now then _ _ to.counted counted);
      store = lawful;
    }

pub axes_fail : (s now : StoreView) (axes : List ℕ) (ps : List (Option Leaf)) (o : ℤ) (k : ℕ) (p : Option Leaf) → AxesTo s now axes ps o k → length axes ≡ length ps → k < length ps → p ≡ get_or ps k p
    → in_axis o (get_or axes k 0) (position_of now p) ≡ false → in_axes o axes (positions_of s ps) ≡ false
axes_fail s now axes ps o k p to same below is fails =
    to.rest ∙ axes_step s axes ps o k p same below is
    ∙ ap (λ (t : Bool). t && in_axes o (drop (k + 1) axes) (positions_of s (drop (k + 1) ps))) (ap (in_axis o (get_or axes k 0)) (sym (position-counted s now p to.counted.only)) ∙ fails)

pub axes_all : (s now : StoreView) (axes : List ℕ) (ps : List (Option Leaf)) (o : ℤ) (k : ℕ) → AxesTo s now axes ps o k → length axes ≡ length ps → length ps ≤ k → in_axes o axes (positions_of s ps) ≡ true
axes_all s now axes ps o k to same end = to.rest ∙ ap (λ (ns : List ℕ). in_axes o ns (positions_of s (drop k ps))) (drop_all k axes (omega (arith, same, end)))

pub named_within : (s now then : StoreView) (ps : List (Option Leaf)) (k : ℕ) (p : Option Leaf) → OnlyFetched s now (elements_named (take k ps)) → k < length ps → p ≡ get_or ps k p → OnlyFetched now then (elements_at p) → OnlyFetched s then (elements_named ps)
named_within s now then ps k p so_far below is counted = OnlyFetched-more s then _ _ (named_next ps k p below is) (OnlyFetched-then s now then _ _ so_far counted)

-- the shapes so far
pub record JoinedTo (axes joined : List ℕ) (ps : List (Option Leaf)) (k : ℕ) : Type 0 where
  pub shape : (s : StoreView) → positions_shape axes (positions_of s ps) ≡ joined ++ positions_shape (drop k axes) (positions_of s (drop k ps))

pub joined_none : (axes joined : List ℕ) (ps : List (Option Leaf)) → joined ≡ [] → JoinedTo axes joined ps 0
joined_none axes joined ps none = record { shape = λ s. ap (λ (xs : List ℕ). xs ++ positions_shape axes (positions_of s ps)) (sym none) }

pub joined_next : (axes joined more now : List ℕ) (ps : List (Option Leaf)) (k : ℕ) (p : Option Leaf) → JoinedTo axes joined ps k → length axes ≡ length ps → k < length ps → p ≡ get_or ps k p
    → ((s : StoreView) → more ≡ axes_of (get_or axes k 0) (position_of s p)) → now ≡ joined ++ more → JoinedTo axes now ps (k + 1)
joined_next axes joined more now ps k p to same below is gives are = record {
  shape = λ s. to.shape s
      ∙ ap (λ (xs : List ℕ). joined ++ xs) (shape_more (drop k axes) (positions_of s (drop k ps)) (get_or axes k 0) (position_of s p) (drop (k + 1) axes) (positions_of s (drop (k + 1) ps)) (drop_more axes k 0 (omega (arith, same, below))) (positions_drop s ps k p below is)
      ∙ ap (λ (xs : List ℕ). xs ++ positions_shape (drop (k + 1) axes) (positions_of s (drop (k + 1) ps))) (sym (gives s)))
      ∙ sym (append_assoc joined more (positions_shape (drop (k + 1) axes) (positions_of s (drop (k + 1) ps))))
      ∙ ap (λ (xs : List ℕ). xs ++ positions_shape (drop (k + 1) axes) (positions_of s (drop (k + 1) ps))) (sym are);
}

pub joined_over : (axes joined more : List ℕ) (ps : List (Option Leaf)) (k : ℕ) (p : Option Leaf) (s : StoreView) → JoinedTo axes joined ps k → length axes ≡ length ps → k < length ps → p ≡ get_or ps k p
    → ((s : StoreView) → more ≡ axes_of (get_or axes k 0) (position_of s p)) → 8 < length joined + length more → IsShape (positions_shape axes (positions_of s ps)) → ⊥
joined_over axes joined more ps k p s to same below is gives many lawful =
    let next = joined_next axes joined more (joined ++ more) ps k p to same below is gives refl in
    omega (arith, lawful.rank, ap length (next.shape s), length-append (joined ++ more) (positions_shape (drop (k + 1) axes) (positions_of s (drop (k + 1) ps))), length-append joined more, many)

pub joined_all : (axes joined : List ℕ) (ps : List (Option Leaf)) (k : ℕ) (s : StoreView) → JoinedTo axes joined ps k → length axes ≡ length ps → length ps ≤ k → joined ≡ positions_shape axes (positions_of s ps)
joined_all axes joined ps k s to same end =
    sym (to.shape s ∙ ap (λ (ns : List ℕ). joined ++ positions_shape ns (positions_of s (drop k ps))) (drop_all k axes (omega (arith, same, end))) ∙ append-nil joined)

-- the tracks so far
pub record TracksTo (s now : StoreView) (axes : List ℕ) (ps : List (Option Leaf)) (o : ℤ) (tracks : List Track) (k : ℕ) : Type 0 where
  pub places : map places_on tracks ++ named_along o (drop k axes) (positions_of s (drop k ps)) ≡ named_along o axes (positions_of s ps)
  pub fits : FitAxes (take k axes) tracks
  pub many : length tracks ≡ k
  pub counted : OnlyFetched s now (elements_named (take k ps))
  pub store : IsStore now

pub tracks_none : (s : StoreView) (axes : List ℕ) (ps : List (Option Leaf)) (o : ℤ) (tracks : List Track) → tracks ≡ [] → IsStore s → TracksTo s s axes ps o tracks 0
tracks_none s axes ps o tracks none is =
    subst (λ (ts : List Track). TracksTo s s axes ps o ts 0) (sym none) (record { places = refl; fits = tt; many = refl; counted = OnlyFetched-none s _; store = is })

pub tracks_within : (s now : StoreView) (axes : List ℕ) (ps : List (Option Leaf)) (o : ℤ) (k n : ℕ) (p : Option Leaf) → OnlyCounted s now → length axes ≡ length ps → in_axes o axes (positions_of s ps) ≡ true → k < length ps → p ≡ get_or ps k p → n ≡ get_or axes k 0
    → in_axis o n (position_of now p) ≡ true
tracks_within s now axes ps o k n p only same within below is long =
    ap (λ (m : ℕ). in_axis o m (position_of now p)) long
    ∙ ap (in_axis o (get_or axes k 0)) (position-counted s now p only ∙ sym (positions_at s ps k p below is))
    ∙ axis_within o axes (positions_of s ps) k (same ∙ sym (length-positions s ps)) within (omega (arith, below, length-positions s ps))

pub tracks_next : (s now then : StoreView) (axes : List ℕ) (ps : List (Option Leaf)) (o : ℤ) (tracks more : List Track) (k n : ℕ) (p : Option Leaf) (t : Track) → TracksTo s now axes ps o tracks k → length axes ≡ length ps → k < length ps → p ≡ get_or ps k p → n ≡ get_or axes k 0
    → places_on t ≡ named_on o n (position_of now p) → FitsAxis n t → more ≡ tracks ++ t ∷ [] → OnlyFetched now then (elements_at p) → IsStore then → TracksTo s then axes ps o more (k + 1)
tracks_next s now then axes ps o tracks more k n p t to same below is long places fits are counted lawful =
    let here : places_on t ≡ named_on o (get_or axes k 0) (position_of s p) = places ∙ ap (λ (m : ℕ). named_on o m (position_of now p)) long ∙ ap (named_on o (get_or axes k 0)) (position-counted s now p to.counted.only) in
    let rest : List (List (Option ℤ)) = named_along o (drop (k + 1) axes) (positions_of s (drop (k + 1) ps)) in
    subst (λ (ts : List Track). TracksTo s then axes ps o ts (k + 1)) (sym are) (record {
      places = ap (λ (xs : List (List (Option ℤ))). xs ++ rest) (map-append places_on tracks (t ∷ []))
          ∙ append_assoc (map places_on tracks) (places_on t ∷ []) rest
          ∙ ap (λ (x : List (Option ℤ)). map places_on tracks ++ (x ∷ rest)) here
          ∙ ap (λ (xs : List (List (Option ℤ))). map places_on tracks ++ xs) (sym (named_along-more o (drop k axes) (positions_of s (drop k ps)) (get_or axes k 0) (position_of s p) (drop (k + 1) axes) (positions_of s (drop (k + 1) ps)) (drop_more axes k 0 (omega (arith, same, below))) (positions_drop s ps k p below is)))
          ∙ to.places;
      fits = fit_more axes tracks k t (omega (arith, same, below)) to.fits (subst (λ (m : ℕ). FitsAxis m t) long fits);
      many = omega (arith, to.many, length-append tracks (t ∷ []));
      counted = OnlyFetched-more s then _ _ (omega (arith, named_more ps k p below is)) (OnlyFetched-then s now then _ _ to.counted counted);
      store = lawful;
    })

pub tracks_places : (s now : StoreView) (axes : List ℕ) (ps : List (Option Leaf)) (o : ℤ) (tracks : List Track) (k : ℕ) → TracksTo s now axes ps o tracks k → length axes ≡ length ps → length ps ≤ k → map places_on tracks ≡ named_along o axes (positions_of s ps)
tracks_places s now axes ps o tracks k to same end =
    sym (append-nil (map places_on tracks)) ∙ ap (λ (ns : List ℕ). map places_on tracks ++ named_along o ns (positions_of s (drop k ps))) (sym (drop_all k axes (omega (arith, same, end)))) ∙ to.places

pub tracks_fit : (s now : StoreView) (axes : List ℕ) (ps : List (Option Leaf)) (o : ℤ) (tracks : List Track) (k : ℕ) → TracksTo s now axes ps o tracks k → length axes ≡ length ps → length ps ≤ k → FitAxes axes tracks
tracks_fit s now axes ps o tracks k to same end = subst (λ (ns : List ℕ). FitAxes ns tracks) (take_all k axes (omega (arith, same, end))) to.fits

-- ---- a result without its error

pub some_of : {T E : Type 0} (P Q : T → Type 0) (r : Result T E) (o : Option T) → o ≡ result_ok r → IfOk r P → ((x : T) → P x → Q x) → IfSome o Q
some_of P Q (Ok x) o e h f = subst (λ y. IfSome y Q) (sym e) (f x h)
some_of P Q (Err why) o e h f = subst (λ y. IfSome y Q) (sym e) tt

pub none_of : {T E : Type 0} (Q S : Type 0) (r : Result T E) (o : Option T) → o ≡ result_ok r → (S → IsOk r) → ((S → ⊥) → Q) → IfNone o Q
none_of Q S (Ok x) o e h f = subst (λ y. IfNone y Q) (sym e) tt
none_of Q S (Err why) o e h f = subst (λ y. IfNone y Q) (sym e) (f (λ s. false≢true (h s)))
