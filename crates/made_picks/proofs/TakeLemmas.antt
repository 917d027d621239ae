-- What is taken of an array: the answer, and the cells that tracks pick for it.
use Rattle.std.proofs.Common.{◌≡◌, ℕ, zero, suc, ◌+◌, ◌^◌, ◌<◌, ◌≤◌, ◌==◌, true, false, not, ℤ, pos, List, [], ◌∷◌, ◌++◌, length, map, take, drop, get_or, replicate, All, append_assoc, append-nil, length-append, Option, Some, None, Result, Ok, Err, IfOk, IfErr, OnOk, refl, sym, ap, ◌∙◌, subst, arith}
use Rattle.std.specs.Prelude.{unsigned_abs}
use Rattle.std.specs.List.{AllByRecursion}
use Rattle.std.specs.Option.{option_map, option_and_then}
use Rattle.std.proofs.lemmas.Bool.{eq-eqb, ne_eqb, le-ltb, lt-ltb}
use Rattle.std.proofs.lemmas.List.{length-map, length-replicate, map-append, get_or-map, drop_more, drop_all, take_all}
use Rattle.apl_base.specs.declared.faults.ErrorKind.{ErrorKind}
use Rattle.apl_base.specs.declared.faults.ErrorKind.TheVariants as error
use Rattle.apl_base.specs.Array.{Array, IsShape, IsIndex, size_of, cell_at, place_at}
use Rattle.apl_base.specs.Selection.{only_index}
use Rattle.apl_base.specs.Elements.{indices, all_defined}
use Rattle.apl_base.proofs.Elements.{tabulated-cells, tabulated-count, length-indices, indices-each}
use Rattle.apl_base.proofs.Lists.{all_replicate}
use Rattle.apl_base.proofs.Sizes.{IsIndex-positive}
use Rattle.array_desc.specs.Desc.{DescView, Selects, number}
use Rattle.array_store.specs.Stores.{StoreView}
use Rattle.array_store.specs.Counting.{OnlyCounted}
use Rattle.drag_along.specs.declared.leaves.Leaf.{Leaf}
use Rattle.drag_along.specs.Nodes.{leaf_desc, leaf_kind, leaf_shape}
use Rattle.leaf_names.specs.Variables.{array_of}
use Rattle.apl_model.specs.Made.{is_above_one, taken_shape, taken_place, taken_places, take_or_pad, read_or_fill, with_shape}
use Rattle.apl_model.specs.Whole.{count, is_text, fill}
use Rattle.made_fns.specs.Answers.{lengths_named}
use Rattle.made_fns.proofs.Lengths.{array_of-counted, length-array_of}
use Rattle.made_fns.proofs.Tests.{no_error, an_error, within_shape, over_limit}
use Rattle.made_picks.specs.declared.tracks.Track.{Track}
use Rattle.made_picks.specs.Picks.{cell_by, picked, lengths_on}
use Rattle.made_picks.specs.Taken.{axes_to_take, taken_array, taken_on, taken_along}
use Rattle.made_picks.specs.Tracks.{places_on, FitsAxis, FitAxes}
use Rattle.made_picks.proofs.GatherLemmas.{number_cell}
use Rattle.made_picks.proofs.PositionLemmas.{fit_more}
use Rattle.made_picks.proofs.WalkLemmas.{picked-counted}
use Rattle.made_picks.proofs.JoinedLists.{map-each}
use Rattle.made_picks.proofs.TakenLemmas.{or_blank, taken_place-below, picked-taken, lengths_on-taken}

-- ---- the answer

pub take_rank : (a b : Array) → 1 < length a.shape → take_or_pad a b ≡ Err error.Rank
take_rank a b h = an_error error.Rank (is_above_one a) _ (lt-ltb 1 (length a.shape) h)

pub take_length : (a b : Array) → length a.shape ≤ 1 → (count a ≡ length (taken_shape a b) → ⊥) → take_or_pad a b ≡ Err error.Length
take_length a b one other =
    no_error error.Rank (is_above_one a) _ (le-ltb 1 (length a.shape) one)
    ∙ an_error error.Length (not (count a == length (taken_shape a b))) _ (ap not (ne_eqb (count a) (length (taken_shape a b)) other))

pub take_domain : (a b : Array) → length a.shape ≤ 1 → count a ≡ length (taken_shape a b) → is_text a ≡ true → take_or_pad a b ≡ Err error.Domain
take_domain a b one many text =
    no_error error.Rank (is_above_one a) _ (le-ltb 1 (length a.shape) one)
    ∙ no_error error.Length (not (count a == length (taken_shape a b))) _ (ap not (eq-eqb (count a) (length (taken_shape a b)) many))
    ∙ an_error error.Domain (is_text a) _ text

pub take_limit : (a b : Array) → length a.shape ≤ 1 → count a ≡ length (taken_shape a b) → is_text a ≡ false → (IsShape (lengths_named a) → ⊥) → take_or_pad a b ≡ Err error.Limit
take_limit a b one many text over =
    no_error error.Rank (is_above_one a) _ (le-ltb 1 (length a.shape) one)
    ∙ no_error error.Length (not (count a == length (taken_shape a b))) _ (ap not (eq-eqb (count a) (length (taken_shape a b)) many))
    ∙ no_error error.Domain (is_text a) _ text
    ∙ over_limit (lengths_named a) _ over

pub take_is : (a b : Array) → length a.shape ≤ 1 → count a ≡ length (taken_shape a b) → is_text a ≡ false → IsShape (lengths_named a) → take_or_pad a b ≡ Ok (taken_array a b)
take_is a b one many text lawful =
    no_error error.Rank (is_above_one a) _ (le-ltb 1 (length a.shape) one)
    ∙ no_error error.Length (not (count a == length (taken_shape a b))) _ (ap not (eq-eqb (count a) (length (taken_shape a b)) many))
    ∙ no_error error.Domain (is_text a) _ text
    ∙ within_shape (lengths_named a) _ lawful

-- an array with axes is taken of by these
axes_some : (n m : ℕ) (ns : List ℕ) → axes_to_take n (m ∷ ns) ≡ m ∷ ns
axes_some n m ns = rw (ne_eqb (length (m ∷ ns)) 0 (λ e. absurd (omega (arith, e)))) refl

-- how many axes are taken of
pub length-axes : (n : ℕ) (ns : List ℕ) → (0 < length ns → n ≡ length ns) → n ≡ length (axes_to_take n ns)
length-axes n [] h = sym (length-replicate n 1)
length-axes n (m ∷ ns) h = h (omega arith) ∙ ap length (sym (axes_some n m ns))

pub other-axes : (n : ℕ) (ns : List ℕ) → 0 < length ns → (n ≡ length ns → ⊥) → n ≡ length (axes_to_take n ns) → ⊥
other-axes n [] some h = absurd (omega (arith, some))
other-axes n (m ∷ ns) some h = λ e. h (e ∙ ap length (axes_some n m ns))

-- ---- the cells

-- what is taken is read at an index
taken_index : (ns : List ℕ) (counts : List ℤ) (js is : List ℕ) → length ns ≡ length counts → IsIndex (map unsigned_abs counts) js → all_defined (taken_places ns counts js) ≡ Some is → IsIndex ns is
taken_index [] [] [] is same index e = let none : is ≡ [] = cc in subst (IsIndex []) (sym none) tt
taken_index [] [] (j ∷ js) is same index e = absurd index
taken_index [] (a ∷ counts) js is same index e = absurd (omega (arith, same))
taken_index (n ∷ ns) [] js is same index e = absurd (omega (arith, same))
taken_index (n ∷ ns) (a ∷ counts) [] is same index e = absurd index
taken_index (n ∷ ns) (a ∷ counts) (j ∷ js) is same index e =
    by (taken_place n a j) (all_defined (taken_places ns counts js)) refl (λ rest f. taken_index ns counts js rest (omega (arith, same)) index.1 f) e
  where
    by : (o : Option ℕ) (r : Option (List ℕ)) → taken_place n a j ≡ o → ((rest : List ℕ) → r ≡ Some rest → IsIndex ns rest) → option_and_then (λ v. option_map (λ vs. v ∷ vs) r) o ≡ Some is → IsIndex (n ∷ ns) is
    by None r p each q = absurd cc
    by (Some v) None p each q = absurd cc
    by (Some v) (Some rest) p each q =
        let same_list : v ∷ rest ≡ is = cc in
        subst (IsIndex (n ∷ ns)) same_list (taken_place-below n a j v index.0 p, each rest refl)

read_is : (b : Array) (o : Option (List ℕ)) → read_or_fill b o ≡ or_blank (fill b.kind) (cell_at b) o
read_is b None = refl
read_is b (Some is) = refl

axes_none : (n : ℕ) (ns : List ℕ) → size_of ns ≡ 0 → size_of (axes_to_take n ns) ≡ 0
axes_none n [] e = absurd (omega (arith, e))
axes_none n (m ∷ ns) e = ap size_of (axes_some n m ns) ∙ e

-- of an array without elements nothing is read
pub taken_none : (a b : Array) → count b ≡ 0 → length (taken_shape a b) ≡ length a.cells → (taken_array a b).cells ≡ replicate (size_of (lengths_named a)) (fill b.kind)
taken_none a b none same =
    let ns = taken_shape a b in
    tabulated-cells b.kind (lengths_named a) (λ is. read_or_fill (with_shape b ns) (all_defined (taken_places ns a.cells is)))
    ∙ all_blank (indices (lengths_named a)) (indices-each (lengths_named a))
    ∙ ap (λ (n : ℕ). replicate n (fill b.kind)) (length-indices (lengths_named a))
  where
    empty : size_of (taken_shape a b) ≡ 0
    empty = axes_none (count a) b.shape none

    blank_at : (js : List ℕ) (o : Option (List ℕ)) → IsIndex (lengths_named a) js → all_defined (taken_places (taken_shape a b) a.cells js) ≡ o → read_or_fill (with_shape b (taken_shape a b)) o ≡ fill b.kind
    blank_at js None index e = refl
    blank_at js (Some is) index e =
        absurd (omega (arith, empty, IsIndex-positive (taken_shape a b) is (taken_index (taken_shape a b) a.cells js is same index e)))

    all_blank : (xs : List (List ℕ)) → AllByRecursion (IsIndex (lengths_named a)) xs → map (λ is. read_or_fill (with_shape b (taken_shape a b)) (all_defined (taken_places (taken_shape a b) a.cells is))) xs ≡ replicate (length xs) (fill b.kind)
    all_blank [] h = refl
    all_blank (js ∷ xs) h =
        let here = blank_at js (all_defined (taken_places (taken_shape a b) a.cells js)) h.0 refl in
        let rest = all_blank xs h.1 in
        cc

-- the tracks pick what is taken
pub taken_are : (a b : Array) (cell : ℤ → ℤ) (d : DescView) → length d.strides ≡ length d.shape → d.shape ≡ taken_shape a b → length d.shape ≡ length a.cells
    → ((is : List ℕ) → IsIndex d.shape is → cell (number d is) ≡ cell_at (with_shape b d.shape) is)
    → picked cell (fill b.kind) d.strides (taken_along d.shape a.cells) d.base ≡ (taken_array a b).cells
taken_are a b cell d strides shape counts same =
    picked-taken cell (fill b.kind) d.shape d.strides a.cells d.base (cell_at (with_shape b d.shape)) strides counts same
    ∙ map-each (λ js. or_blank (fill b.kind) (cell_at (with_shape b d.shape)) (all_defined (taken_places d.shape a.cells js))) (λ js. read_or_fill (with_shape b d.shape) (all_defined (taken_places d.shape a.cells js))) (indices (lengths_named a))
    (λ js. sym (read_is (with_shape b d.shape) (all_defined (taken_places d.shape a.cells js))))
    ∙ ap (λ (ns : List ℕ). map (λ js. read_or_fill (with_shape b ns) (all_defined (taken_places ns a.cells js))) (indices (lengths_named a))) shape
    ∙ sym (tabulated-cells b.kind (lengths_named a) (λ is. read_or_fill (with_shape b (taken_shape a b)) (all_defined (taken_places (taken_shape a b) a.cells is))))

pub length-taken : (a b : Array) (shape : List ℕ) → shape ≡ lengths_named a → length (taken_array a b).cells ≡ size_of shape
length-taken a b shape is = tabulated-count b.kind (lengths_named a) (λ is. read_or_fill (with_shape b (taken_shape a b)) (all_defined (taken_places (taken_shape a b) a.cells is))) ∙ ap size_of (sym is)

-- ---- the descriptor

take-replicate : {X : Type 0} (x : X) (n m : ℕ) → n ≤ m → take n (replicate m x) ≡ replicate n x
take-replicate x zero m h = refl
take-replicate x (suc n) zero h = absurd (omega (arith, h))
take-replicate x (suc n) (suc m) h = ap (λ (xs : List _). x ∷ xs) (take-replicate x n m (omega (arith, h)))

pub take_ones : (n : ℕ) → n ≤ 8 → take {A = ℕ} n (1 ∷ 1 ∷ 1 ∷ 1 ∷ 1 ∷ 1 ∷ 1 ∷ 1 ∷ []) ≡ replicate {A = ℕ} n 1
take_ones n h = take-replicate {X = ℕ} 1 n 8 h

size_of-ones : (n : ℕ) → size_of (replicate n 1) ≡ 1
size_of-ones zero = refl
size_of-ones (suc n) = omega (arith, size_of-ones n)

pub ones_shape : (n : ℕ) → n ≤ 8 → IsShape (replicate n 1)
ones_shape n h = record {
  rank = omega (arith, h, length-replicate {A = ℕ} n 1);
  each = all_replicate (λ (k : ℕ). k ≤ 2 ^ 40) n 1 (omega arith);
  product = omega (arith, size_of-ones n);
}

place_at-ones : (n : ℕ) (is : List ℕ) → IsIndex (replicate n 1) is → place_at (replicate n 1) is ≡ 0
place_at-ones zero [] h = refl
place_at-ones zero (i ∷ is) h = absurd h
place_at-ones (suc n) [] h = absurd h
place_at-ones (suc n) (i ∷ is) h =
    let first : i ≡ 0 = omega (arith, h.0) in
    rw first (omega (arith, place_at-ones n is h.1))

-- the descriptor as it is
pub whole_cells : (s : StoreView) (leaf : Leaf) (d : DescView) (is : List ℕ) → d ≡ leaf_desc leaf → IsIndex d.shape is → cell_by s leaf (number d is) ≡ cell_at (with_shape (array_of s leaf) d.shape) is
whole_cells s leaf d is same index =
    subst (λ (e : DescView). IsIndex e.shape is → cell_by s leaf (number e is) ≡ cell_at (with_shape (array_of s leaf) e.shape) is) (sym same) (λ at. number_cell s leaf is at) index

-- that of one element, extended
pub extended_cells : (s : StoreView) (leaf : Leaf) (d e : DescView) (ones : List ℕ) (n : ℕ) (is : List ℕ) → d ≡ leaf_desc leaf → length d.shape ≡ 0 → Selects d e ones (λ i. only_index d.shape) → ones ≡ replicate n 1 → IsIndex e.shape is
    → cell_by s leaf (number e is) ≡ cell_at (with_shape (array_of s leaf) e.shape) is
extended_cells s leaf d e ones n is same none selects are index =
    let shape : e.shape ≡ replicate n 1 = selects.shape ∙ are in
    let here : IsIndex ones is = subst (λ (ns : List ℕ). IsIndex ns is) selects.shape index in
    let at : IsIndex d.shape (only_index d.shape) = selects.index is here in
    let place : place_at e.shape is ≡ 0 = ap (λ (ns : List ℕ). place_at ns is) shape ∙ place_at-ones n is (subst (λ (ns : List ℕ). IsIndex ns is) shape index) in
    ap (cell_by s leaf) (selects.number is here)
    ∙ whole_cells s leaf d (only_index d.shape) same at
    ∙ ap (λ (p : ℕ). get_or (array_of s leaf).cells p (pos 0)) (first_place d.shape none ∙ sym place)
  where
    first_place : (ns : List ℕ) → length ns ≡ 0 → place_at ns (only_index ns) ≡ 0
    first_place [] h = refl
    first_place (m ∷ ns) h = absurd (omega (arith, h))

pub axes_positive : (n : ℕ) (ns : List ℕ) → 0 < size_of ns → 0 < size_of (axes_to_take n ns)
axes_positive n [] h = omega (arith, size_of-ones n)
axes_positive n (m ∷ ns) h = subst (λ (ks : List ℕ). 0 < size_of ks) (sym (axes_some n m ns)) h

-- ---- the tracks

pub record WindowsTo (axes : List ℕ) (counts : List ℤ) (tracks : List Track) (k : ℕ) : Type 0 where
  pub places : map places_on tracks ++ taken_along (drop k axes) (drop k counts) ≡ taken_along axes counts
  pub fits : FitAxes (take k axes) tracks
  pub many : length tracks ≡ k

pub windows_none : (axes : List ℕ) (counts : List ℤ) (tracks : List Track) → tracks ≡ [] → WindowsTo axes counts tracks 0
windows_none axes counts tracks none = subst (λ (ts : List Track). WindowsTo axes counts ts 0) (sym none) (record { places = refl; fits = tt; many = refl })

pub windows_next : (axes : List ℕ) (counts : List ℤ) (tracks more : List Track) (k n : ℕ) (t : Track) → WindowsTo axes counts tracks k → length counts ≡ length axes → k < length counts → n ≡ get_or axes k 0
    → places_on t ≡ taken_on n (get_or counts k (pos 0)) → FitsAxis n t → more ≡ tracks ++ t ∷ [] → WindowsTo axes counts more (k + 1)
windows_next axes counts tracks more k n t to same below long places fits are =
    let here : places_on t ≡ taken_on (get_or axes k 0) (get_or counts k (pos 0)) = places ∙ ap (λ (m : ℕ). taken_on m (get_or counts k (pos 0))) long in
    let rest : List (List (Option ℤ)) = taken_along (drop (k + 1) axes) (drop (k + 1) counts) in
    let split : taken_along (drop k axes) (drop k counts) ≡ taken_on (get_or axes k 0) (get_or counts k (pos 0)) ∷ rest =
    ap (λ (ns : List ℕ). taken_along ns (drop k counts)) (drop_more axes k 0 (omega (arith, same, below)))
    ∙ ap (λ (cs : List ℤ). taken_along (get_or axes k 0 ∷ drop (k + 1) axes) cs) (drop_more counts k (pos 0) below) in
    subst (λ (ts : List Track). WindowsTo axes counts ts (k + 1)) (sym are) (record {
      places = ap (λ (xs : List (List (Option ℤ))). xs ++ rest) (map-append places_on tracks (t ∷ []))
          ∙ append_assoc (map places_on tracks) (places_on t ∷ []) rest
          ∙ ap (λ (x : List (Option ℤ)). map places_on tracks ++ (x ∷ rest)) here
          ∙ ap (λ (xs : List (List (Option ℤ))). map places_on tracks ++ xs) (sym split)
          ∙ to.places;
      fits = fit_more axes tracks k t (omega (arith, same, below)) to.fits (subst (λ (m : ℕ). FitsAxis m t) long fits);
      many = omega (arith, to.many, length-append tracks (t ∷ []));
    })

pub windows_places : (axes : List ℕ) (counts : List ℤ) (tracks : List Track) (k : ℕ) → WindowsTo axes counts tracks k → length counts ≡ length axes → length counts ≤ k → map places_on tracks ≡ taken_along axes counts
windows_places axes counts tracks k to same end =
    sym (append-nil (map places_on tracks)) ∙ ap (λ (ns : List ℕ). map places_on tracks ++ taken_along ns (drop k counts)) (sym (drop_all k axes (omega (arith, same, end)))) ∙ to.places

pub windows_fit : (axes : List ℕ) (counts : List ℤ) (tracks : List Track) (k : ℕ) → WindowsTo axes counts tracks k → length counts ≡ length axes → length counts ≤ k → FitAxes axes tracks
windows_fit axes counts tracks k to same end = subst (λ (ns : List ℕ). FitAxes ns tracks) (take_all k axes (omega (arith, same, end))) to.fits

-- each count is within the limit
pub count_few : (counts : List ℤ) (k : ℕ) → All (λ n. n ≤ 2 ^ 40) (map unsigned_abs counts) → k < length counts → unsigned_abs (get_or counts k (pos 0)) ≤ 2 ^ 40
count_few counts k h below =
    let here = h k 0 (omega (arith, below, length-map counts unsigned_abs)) in
    subst (λ (n : ℕ). n ≤ 2 ^ 40) (get_or-map unsigned_abs counts k (pos 0) 0 below) here

-- how many elements the tracks pick
pub taken_size : (axes : List ℕ) (counts : List ℤ) (tracks all : List Track) (size : ℕ) → all ≡ tracks → map places_on tracks ≡ taken_along axes counts → length axes ≡ length counts → size ≡ size_of (map unsigned_abs counts) → size_of (lengths_on (map places_on all)) ≡ size
taken_size axes counts tracks all size same are fit is =
    ap (λ (ts : List Track). size_of (lengths_on (map places_on ts))) same ∙ ap (λ (xs : List (List (Option ℤ))). size_of (lengths_on xs)) are ∙ ap size_of (lengths_on-taken axes counts fit) ∙ sym is

-- ---- the answer by the shape that is named, or is none

pub shape_answers : (a b : Array) (r : Result (List ℕ) ErrorKind) → length a.shape ≤ 1 → count a ≡ length (taken_shape a b) → is_text a ≡ false
    → IfOk r (λ shape. (shape ≡ lengths_named a) × IsShape shape) → IfErr r (λ kind. (kind ≡ error.Limit) × ¬ (IsShape (lengths_named a)))
    → OnOk r (take_or_pad a b ≡ Ok (taken_array a b)) × IfErr r (λ kind. take_or_pad a b ≡ Err kind)
shape_answers a b (Ok shape) one many text is refused = (take_is a b one many text (subst IsShape is.0 is.1), tt)
shape_answers a b (Err kind) one many text is refused = (tt, take_limit a b one many text refused.1 ∙ ap (λ k. Err k) (sym refused.0))

-- the cells that were picked
pub taken_cells : (s now : StoreView) (a b : Leaf) (d : DescView) (base blank : ℤ) (tracks all : List Track) (old new : List ℤ) → length d.strides ≡ length d.shape → d.shape ≡ axes_to_take (size_of (leaf_shape a)) (leaf_shape b) → length d.shape ≡ size_of (leaf_shape a)
    → base ≡ d.base → blank ≡ fill (leaf_kind b) → OnlyCounted s now → all ≡ tracks → map places_on tracks ≡ taken_along d.shape (array_of s a).cells
    → ((is : List ℕ) → IsIndex d.shape is → cell_by s b (number d is) ≡ cell_at (with_shape (array_of s b) d.shape) is)
    → old ≡ [] → new ≡ old ++ picked (cell_by now b) blank d.strides (map places_on all) base → new ≡ (taken_array (array_of s a) (array_of s b)).cells
taken_cells s now a b d base blank tracks all old new strides shape long from fills only listed are same none is =
    is ∙ ap (λ (xs : List ℤ). xs ++ picked (cell_by now b) blank d.strides (map places_on all) base) none
    ∙ picked-counted s now b blank d.strides (map places_on all) base only
    ∙ ap (λ (z : ℤ). picked (cell_by s b) blank d.strides (map places_on all) z) from
    ∙ ap (λ (z : ℤ). picked (cell_by s b) z d.strides (map places_on all) d.base) fills
    ∙ ap (λ (ts : List Track). picked (cell_by s b) (fill (leaf_kind b)) d.strides (map places_on ts) d.base) listed
    ∙ ap (λ (xs : List (List (Option ℤ))). picked (cell_by s b) (fill (leaf_kind b)) d.strides xs d.base) are
    ∙ taken_are (array_of s a) (array_of s b) (cell_by s b) d strides shape (long ∙ sym (length-array_of s a)) same

-- where something was only counted it is the same
pub taken_same : (s t : StoreView) (a b : Leaf) (cells : List ℤ) → OnlyCounted s t → cells ≡ (taken_array (array_of t a) (array_of t b)).cells → cells ≡ (taken_array (array_of s a) (array_of s b)).cells
taken_same s t a b cells only are =
    are ∙ ap (λ (x : Array). (taken_array x (array_of t b)).cells) (array_of-counted s t a only) ∙ ap (λ (y : Array). (taken_array (array_of s a) y).cells) (array_of-counted s t b only)

-- blanks alone, where there is nothing to take of
pub none_cells : (a b : Array) (size : ℕ) (blank : ℤ) (old new : List ℤ) → size ≡ size_of (lengths_named a) → blank ≡ fill b.kind → old ≡ [] → new ≡ old ++ replicate size blank → count b ≡ 0 → length (taken_shape a b) ≡ length a.cells → new ≡ (taken_array a b).cells
none_cells a b size blank old new many fills empty is none same =
    is ∙ ap (λ (xs : List ℤ). xs ++ replicate size blank) empty
    ∙ ap (λ (n : ℕ). replicate n blank) many ∙ ap (λ (z : ℤ). replicate (size_of (lengths_named a)) z) fills
    ∙ sym (taken_none a b none same)
