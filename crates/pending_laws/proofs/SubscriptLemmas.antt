-- Positions of a subscript, one after the other.
use Rattle.std.proofs.Common.{◌≡◌, ◌==◌, ℕ, zero, suc, ◌+◌, ◌*◌, ◌<◌, Bool, true, false, not, ◌&&◌, ◌||◌, ℤ, pos, ◌+ℤ◌, ◌-ℤ◌, unsigned_abs, List, [], ◌∷◌, ◌++◌, length, map, take, drop, Option, Some, None, Ok, refl, sym, ap, subst, ◌∙◌, arith, int_le, int_lt}
use Rattle.std.specs.Prelude.{slice_index_or}
use Rattle.std.specs.List.{AllByRecursion, list_any}
use Rattle.std.proofs.lemmas.List.{take-append-drop}
use Rattle.std.proofs.lemmas.Bool.{eqb-true}
use Rattle.std.proofs.lemmas.Int.{ints}
use Rattle.apl_base.specs.declared.cells.Kind.{Kind}
use Rattle.apl_base.specs.declared.cells.Kind.TheVariants.{Num}
use Rattle.apl_base.specs.declared.faults.ErrorKind.TheVariants as error
use Rattle.apl_base.specs.Array.{Array, IsShape, IsIndex, size_of, place_at, cell_at}
use Rattle.apl_base.specs.Elements.{gathered}
use Rattle.apl_base.specs.Selection.{Position, whole, one, run, subscript_shape, subscript_index}
use Rattle.apl_base.proofs.Lists.{all_imp}
use Rattle.apl_base.proofs.Booleans.{both_parts, neither_part, not-false, list_all-each, eqb-same, each-list_all}
use Rattle.apl_base.proofs.Sizes.{IsIndex-length}
use Rattle.beating.specs.declared.runs.Run.{Run}
use Rattle.beating.specs.declared.selections.Item.{Item}
use Rattle.beating.specs.declared.selections.Selection.TheVariants as select
use Rattle.beating.specs.Runs.{run_value}
use Rattle.beating.specs.Positions.{NamesPlace, IsItemOf}
use Rattle.beating.specs.Positions as positions
use Rattle.beating.specs.Selecting.{position_of}
use Rattle.apl_model.specs.Whole.{Answer, rank, is_char, is_empty, is_text, first, error_if, within_limit}
use Rattle.apl_model.specs.Subscript.{is_text_position, is_place, in_axis, in_axes, axes_of, positions_shape, place_of, positions_index}
use Rattle.pending_laws.specs.Subscripts.{NamesPlaces, EachNamesPlaces, SubscriptHasPlaces, AreInProgression, lone_number, ScalarsAreInProgression, RunsAreInProgression, IsItemAt, AreItems, SubscriptIsSelected}
use Rattle.pending_laws.proofs.AnswerLemmas.{passed_if, le-test, lt-test, gathered-same}
use Rattle.apl_model_laws.proofs.Refusals.{passes_if, passes_limit}
use Rattle.apl_base.proofs.ShapeLemmas.{index_parts}

-- ---- what is in progression

-- numbers are no text
no_text : (p : Array) → p.kind ≡ Num → is_text p ≡ false
no_text p e = ap (λ (k : Kind). is_char k && not (is_empty p)) e

-- of a scalar there are none
no_axis : (ns : List ℕ) → length ns ≡ 0 → ns ≡ []
no_axis [] h = refl
no_axis (n ∷ ns) h = absurd (omega (arith, h))

-- lengths of one axis are the size
one_axis : (ns : List ℕ) (m : ℕ) → length ns ≡ 1 → m ≡ size_of ns → ns ≡ m ∷ []
one_axis [] m h e = absurd (omega (arith, h))
one_axis (n ∷ []) m h e = let same : n ≡ m = omega (arith, e) in ap (λ (k : ℕ). k ∷ []) same
one_axis (n ∷ k ∷ ns) m h e = absurd (omega (arith, h))

-- the one number is that of the run
lone-each : (cells : List ℤ) (z : ℤ) → length cells ≡ 1 → slice_index_or cells 0 (pos 0) ≡ z → (j : ℕ) → j < length cells → slice_index_or cells j (pos 0) ≡ run_value (lone_number z) j
lone-each cells z h e zero below = e ∙ omega (arith, ints)
lone-each cells z h e (suc j) below = absurd (omega (arith, below, h))

pub scalars_are_in_progression : ScalarsAreInProgression
scalars_are_in_progression p kind h r =
    let none : p.shape ≡ [] = no_axis p.shape r in
    let count : length p.cells ≡ 1 = h ∙ ap size_of none in
    record {
      numbers = no_text p kind;
      run = record { count = sym count; each = lone-each p.cells (first p) count refl; step = λ _. refl; from = λ e. absurd (omega (arith, e, count)) };
      shape = none;
      complete = h;
    }

pub runs_are_in_progression : RunsAreInProgression
runs_are_in_progression p r kind h axes are = record {
  numbers = no_text p kind;
  run = are;
  shape = one_axis p.shape r.n axes (are.count ∙ h);
  complete = h;
}

-- ---- one position

-- what is so at each place is so of each
pub by_places : (P : ℤ → Type 0) (xs : List ℤ) → ((j : ℕ) → j < length xs → P (slice_index_or xs j (pos 0))) → AllByRecursion P xs
by_places P [] h = tt
by_places P (x ∷ xs) h = (h 0 (omega arith), by_places P xs (λ j below. h (suc j) (omega (arith, below))))

pub named : (o : ℤ) (n : ℕ) (v : ℤ) → NamesPlace o n v → is_place o n v ≡ true
named o n v h = rw (le-test o v h.0, lt-test v (o +ℤ pos n) h.1) refl

-- no position is characters
item-number : (o : ℤ) (n : ℕ) (p : Option Array) (kept : Item) → IsItemAt o n p kept → is_text_position p ≡ false
item-number o n None kept h = refl
item-number o n (Some p) kept h = h.progression.numbers

-- each value is on the axis
pub item-axis : (o : ℤ) (n : ℕ) (p : Option Array) (kept : Item) → IsItemAt o n p kept → in_axis o n p ≡ true
item-axis o n None kept h = refl
item-axis o n (Some p) kept h =
    let r : Run = h.run in
    each-list_all (is_place o n) p.cells (by_places (λ v. is_place o n v ≡ true) p.cells (λ j below.
    let here : slice_index_or p.cells j (pos 0) ≡ run_value r j = h.progression.run.each j below in
    let on : j < r.n = omega (arith, below, h.progression.run.count) in
    ap (is_place o n) here ∙ named o n (run_value r j) (h.on_axis j on)))

-- an item gives the axes of its position
pub item-shape : (o : ℤ) (n : ℕ) (p : Option Array) (kept : Item) → IsItemAt o n p kept → subscript_shape (position_of kept ∷ []) (n ∷ []) ≡ axes_of n p
item-shape o n None kept h = ap (λ (i : Item). subscript_shape (position_of i ∷ []) (n ∷ [])) h
item-shape o n (Some p) kept h = h.places.shape ∙ sym h.progression.shape

-- the cell of a progression at an index is the number of the run there
progression-cell : (p : Array) (r : Run) (is_scalar : Bool) (j : ℕ) → AreInProgression p r is_scalar → j < r.n →
    place_at (positions.positions_shape is_scalar r.n) (positions.position_index is_scalar j) ≡ j →
    cell_at p (positions.position_index is_scalar j) ≡ run_value r j
progression-cell p r is_scalar j h below e =
    ap (λ (ns : List ℕ). slice_index_or p.cells (place_at ns (positions.position_index is_scalar j)) (pos 0)) h.shape
    ∙ ap (λ (k : ℕ). slice_index_or p.cells k (pos 0)) e
    ∙ h.run.each j (omega (arith, below, h.run.count))

-- an item of a progression reads the place that the cell at the index names
kept-index : (o : ℤ) (n : ℕ) (p : Array) (kept : Item) (r : Run) (is_scalar : Bool) (is : List ℕ) → AreInProgression p r is_scalar → IsItemOf o n r is_scalar kept →
    IsIndex (positions.positions_shape is_scalar r.n) is → subscript_index (position_of kept ∷ []) is ≡ unsigned_abs (cell_at p is -ℤ o) ∷ []
kept-index o n p kept r true [] h i q =
    let count : r.n ≡ 1 = h.run.count ∙ h.complete ∙ ap size_of h.shape in
    let below : 0 < r.n = omega (arith, count) in
    i.places 0 below ∙ ap (λ (z : ℤ). unsigned_abs (z -ℤ o) ∷ []) (sym (progression-cell p r true 0 h below refl))
kept-index o n p kept r true (j ∷ is) h i q = absurd q
kept-index o n p kept r false (j ∷ []) h i q =
    let at : j * 1 + 0 ≡ j = omega arith in
    i.places j q.0 ∙ ap (λ (z : ℤ). unsigned_abs (z -ℤ o) ∷ []) (sym (progression-cell p r false j h q.0 at))
kept-index o n p kept r false [] h i q = absurd q
kept-index o n p kept r false (j ∷ k ∷ is) h i q = absurd q.1

-- and so does every item
item-index : (o : ℤ) (n : ℕ) (p : Option Array) (kept : Item) (is : List ℕ) → IsItemAt o n p kept → IsIndex (axes_of n p) is →
    subscript_index (position_of kept ∷ []) is ≡ place_of o p is
item-index o n None kept (i ∷ []) h q = ap (λ (k : Item). subscript_index (position_of k ∷ []) (i ∷ [])) h
item-index o n None kept [] h q = absurd q
item-index o n None kept (i ∷ j ∷ is) h q = absurd q.1
item-index o n (Some p) kept is h q =
    kept-index o n p kept h.run h.is_scalar is h.progression h.places (subst (λ (ns : List ℕ). IsIndex ns is) h.progression.shape q)

-- ---- one position, and then the others

-- the axes of the first item stand first
pub shape-step : (q : Position) (qs : List Position) (n : ℕ) (ns : List ℕ) → subscript_shape (q ∷ qs) (n ∷ ns) ≡ subscript_shape (q ∷ []) (n ∷ []) ++ subscript_shape qs ns
shape-step whole qs n ns = refl
shape-step (one p) qs n ns = refl
shape-step (run from step count) qs n ns = refl

-- and its numbers in the index
index-step : (q : Position) (qs : List Position) (n : ℕ) (js ks : List ℕ) → length js ≡ length (subscript_shape (q ∷ []) (n ∷ [])) →
    subscript_index (q ∷ qs) (js ++ ks) ≡ subscript_index (q ∷ []) js ++ subscript_index qs ks
index-step whole qs n [] ks h = absurd (omega (arith, h))
index-step whole qs n (j ∷ []) ks h = refl
index-step whole qs n (j ∷ k ∷ js) ks h = absurd (omega (arith, h))
index-step (one p) qs n [] ks h = refl
index-step (one p) qs n (j ∷ js) ks h = absurd (omega (arith, h))
index-step (run from step count) qs n [] ks h = absurd (omega (arith, h))
index-step (run from step count) qs n (j ∷ []) ks h = refl
index-step (run from step count) qs n (j ∷ k ∷ js) ks h = absurd (omega (arith, h))

-- ---- all positions

-- a position for each axis
items-count : (o : ℤ) (ns : List ℕ) (ps : List (Option Array)) (items : List Item) → AreItems o ns ps items → length ps ≡ length ns
items-count o [] [] [] h = refl
items-count o (n ∷ ns) (p ∷ ps) (i ∷ items) h = ap suc (items-count o ns ps items h.1)
items-count o [] [] (i ∷ items) h = absurd h
items-count o [] (p ∷ ps) items h = absurd h
items-count o (n ∷ ns) [] items h = absurd h
items-count o (n ∷ ns) (p ∷ ps) [] h = absurd h

-- no position is characters, and all lie in their axes
items-tests : (o : ℤ) (ns : List ℕ) (ps : List (Option Array)) (items : List Item) → AreItems o ns ps items →
    (list_any is_text_position ps ≡ false) × (in_axes o ns ps ≡ true)
items-tests o [] [] [] h = (refl, refl)
items-tests o (n ∷ ns) (p ∷ ps) (i ∷ items) h =
    let rest = items-tests o ns ps items h.1 in (
      ap (λ (t : Bool). t || list_any is_text_position ps) (item-number o n p i h.0) ∙ rest.0,
      ap (λ (t : Bool). t && in_axes o ns ps) (item-axis o n p i h.0) ∙ rest.1,
    )
items-tests o [] [] (i ∷ items) h = absurd h
items-tests o [] (p ∷ ps) items h = absurd h
items-tests o (n ∷ ns) [] items h = absurd h
items-tests o (n ∷ ns) (p ∷ ps) [] h = absurd h

-- the same axes
pub items-shape : (o : ℤ) (ns : List ℕ) (ps : List (Option Array)) (items : List Item) → AreItems o ns ps items → subscript_shape (map position_of items) ns ≡ positions_shape ns ps
items-shape o [] [] [] h = refl
items-shape o (n ∷ ns) (p ∷ ps) (i ∷ items) h =
    shape-step (position_of i) (map position_of items) n ns
    ∙ ap (λ (ks : List ℕ). ks ++ subscript_shape (map position_of items) ns) (item-shape o n p i h.0)
    ∙ ap (λ (ks : List ℕ). axes_of n p ++ ks) (items-shape o ns ps items h.1)
items-shape o [] [] (i ∷ items) h = absurd h
items-shape o [] (p ∷ ps) items h = absurd h
items-shape o (n ∷ ns) [] items h = absurd h
items-shape o (n ∷ ns) (p ∷ ps) [] h = absurd h

-- the same index is read
items-index : (o : ℤ) (ns : List ℕ) (ps : List (Option Array)) (items : List Item) (is : List ℕ) → AreItems o ns ps items → IsIndex (positions_shape ns ps) is →
    subscript_index (map position_of items) is ≡ positions_index o ns ps is
items-index o [] [] [] is h q = refl
items-index o (n ∷ ns) (p ∷ ps) (i ∷ items) is h q =
    let k : ℕ = length (axes_of n p) in
    let s = index_parts (axes_of n p) (positions_shape ns ps) is q in
    let qs : List Position = map position_of items in
    let same : length (take k is) ≡ length (subscript_shape (position_of i ∷ []) (n ∷ [])) =
    IsIndex-length (axes_of n p) (take k is) s.0 ∙ ap length (sym (item-shape o n p i h.0)) in
    ap (subscript_index (position_of i ∷ qs)) (sym (take-append-drop k is))
    ∙ index-step (position_of i) qs n (take k is) (drop k is) same
    ∙ ap (λ (ks : List ℕ). ks ++ subscript_index qs (drop k is)) (item-index o n p i (take k is) h.0 s.0)
    ∙ ap (λ (ks : List ℕ). place_of o p (take k is) ++ ks) (items-index o ns ps items (drop k is) h.1 s.1)
items-index o [] [] (i ∷ items) is h q = absurd h
items-index o [] (p ∷ ps) items is h q = absurd h
items-index o (n ∷ ns) [] items is h q = absurd h
items-index o (n ∷ ns) (p ∷ ps) [] is h q = absurd h

pub subscript_is_selected : SubscriptIsSelected
subscript_is_selected o a ps (select.Index given) h fits =
    let qs : List Position = map position_of given.items in
    let shape : subscript_shape qs a.shape ≡ positions_shape a.shape ps = items-shape o a.shape ps given.items h in
    let tests = items-tests o a.shape ps given.items h in
    let ok : Array → Answer = λ c. Ok c in
    passes_if error.Rank (not (length ps == rank a)) _ (ap not (eqb-same (length ps) (rank a) (items-count o a.shape ps given.items h)))
    ∙ passes_if error.Domain (list_any is_text_position ps) _ tests.0
    ∙ passes_if error.Index (not (in_axes o a.shape ps)) _ (ap not tests.1)
    ∙ passes_limit (positions_shape a.shape ps) _ (subst IsShape shape fits.1)
    ∙ ap ok (sym (gathered-same (subscript_shape qs a.shape) (positions_shape a.shape ps) (subscript_index qs) (positions_index o a.shape ps) a shape
    (λ is q. items-index o a.shape ps given.items is h q)))
subscript_is_selected o a ps other h fits = absurd h

-- ---- where there is an answer

pub place-named : (o : ℤ) (n : ℕ) (v : ℤ) → is_place o n v ≡ true → NamesPlace o n v
place-named o n v h = let s = both_parts (int_le o v) (int_lt v (o +ℤ pos n)) h in (omega (arith, ints, s.0), omega (arith, ints, s.1))

places-named : (o : ℤ) (n : ℕ) (p : Option Array) → is_text_position p ≡ false → in_axis o n p ≡ true → NamesPlaces o n p
places-named o n None t h = tt
places-named o n (Some p) t h = (t, all_imp (λ v. is_place o n v ≡ true) (NamesPlace o n) p.cells (place-named o n) (list_all-each (is_place o n) p.cells h))

each-named : (o : ℤ) (ns : List ℕ) (ps : List (Option Array)) → length ps ≡ length ns → list_any is_text_position ps ≡ false → in_axes o ns ps ≡ true → EachNamesPlaces o ns ps
each-named o [] [] l t h = tt
each-named o (n ∷ ns) (p ∷ ps) l t h =
    let x = neither_part (is_text_position p) (list_any is_text_position ps) t in
    let y = both_parts (in_axis o n p) (in_axes o ns ps) h in
    (places-named o n p x.0 y.0, each-named o ns ps (omega (arith, l)) x.1 y.1)
each-named o [] (p ∷ ps) l t h = absurd (omega (arith, l))
each-named o (n ∷ ns) [] l t h = absurd (omega (arith, l))

pub subscript_has_places : SubscriptHasPlaces
subscript_has_places o a c ps h =
    let many : Bool = length ps == rank a in
    let last : Answer = within_limit (positions_shape a.shape ps) (λ _. Ok (gathered (positions_shape a.shape ps) (positions_index o a.shape ps) a)) in
    let third : Answer = error_if error.Index (not (in_axes o a.shape ps)) last in
    let second : Answer = error_if error.Domain (list_any is_text_position ps) third in
    let p = passed_if error.Rank (not many) second c h in
    let q = passed_if error.Domain (list_any is_text_position ps) third c p.1 in
    let r = passed_if error.Index (not (in_axes o a.shape ps)) last c q.1 in
    each-named o a.shape ps (eqb-true (length ps) (rank a) (not-false many p.0)) q.0 (not-false (in_axes o a.shape ps) r.0)
