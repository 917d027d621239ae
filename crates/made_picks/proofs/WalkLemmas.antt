-- The walk over tracks.
use mir.Syntax.{w128}
use Rattle.std.proofs.Common.{◌≡◌, ℕ, zero, suc, ◌+◌, ◌*◌, ◌^◌, ◌<◌, ◌≤◌, ℤ, pos, ◌+ℤ◌, ◌-ℤ◌, ◌*ℤ◌, ◌≤ℤ◌, ◌<ℤ◌, List, [], ◌∷◌, ◌++◌, length, map, take, drop, get_or, replicate, Option, Some, None, All, refl, sym, ap, ◌∙◌, subst, append_assoc, append-nil, length-append, arith}
use Rattle.std.specs.Prelude.{unsigned_abs}
use Rattle.std.specs.List.{flat_map}
use Rattle.std.proofs.Common.{FitsSigned}
use Rattle.std.proofs.Math.Nat.{mul-le-mul_right}
use Rattle.std.proofs.lemmas.Int.{ints, fits_signed_from_abs}
use Rattle.std.proofs.lemmas.List.{map-append, length-map, length-replicate, length-drop, take_more, drop_more, take_all, map_more, flat_map_more}
use Rattle.std.proofs.lemmas.Simd.{map-map}
use Rattle.apl_base.specs.Array.{IsShape, size_of}
use Rattle.apl_base.specs.Number.{IsNumber}
use Rattle.apl_base.specs.Selection.{upward, only_index}
use Rattle.apl_base.proofs.Integers.{magnitude-is, magnitude-below, mul_add, mul_assoc}
use Rattle.apl_base.proofs.Lists.{all_place}
use Rattle.array_desc.specs.Desc.{dot}
use Rattle.array_desc.proofs.Indices.{index_with_size}
use Rattle.array_desc.proofs.Sums.{dot-zeros}
use Rattle.array_store.specs.Places.{PlacesWithin}
use Rattle.array_store.specs.declared.ids.Counts.{Counts}
use Rattle.array_store.specs.Stores.{StoreView, IsStore}
use Rattle.array_store.specs.Counting.{OnlyCounted, OnlyFetched}
use Rattle.array_store.proofs.CountingLemmas.{OnlyFetched-none, OnlyFetched-then, OnlyFetched-more}
use Rattle.drag_along.specs.declared.leaves.Leaf.{Leaf}
use Rattle.drag_along.specs.declared.leaves.Leaf.TheVariants.{Stored, Gen}
use Rattle.made_picks.specs.declared.tracks.Track.{Track}
use Rattle.made_picks.specs.declared.tracks.Track.TheVariants.{Line, Listed}
use Rattle.made_picks.specs.Picks.{cell_by, IsReadable, IsReached, read_or, lengths_on, picked}
use Rattle.made_picks.specs.Tracks.{stepped, places_on, Names, FitsAxis, FitAxes, CanPick, CanRead}
use Rattle.apl_base.proofs.Upward.{length-upward, get_or-upward}
use Rattle.made_picks.proofs.TrackLemmas.{length-line, between_few}

-- ---- a store that only counted

readable-counts : (s : StoreView) (n : Counts) (leaf : Leaf) (z : ℤ) → IsReadable s leaf z → IsReadable (record s { counts = n }) leaf z
readable-counts s n (Stored owner desc kind) z h = record { number = h.number; cell = h.cell }
readable-counts s n (Gen desc kind) z h = record { number = h.number; cell = h.cell }

pub readable-counted : (old new : StoreView) (leaf : Leaf) (z : ℤ) → OnlyCounted old new → IsReadable old leaf z → IsReadable new leaf z
readable-counted old new leaf z only h = subst (λ (s : StoreView). IsReadable s leaf z) (sym only) (readable-counts old new.counts leaf z h)

pub reached-counted : (old new : StoreView) (leaf : Leaf) (ns : List ℕ) (ss : List ℤ) (at : ℤ) → OnlyCounted old new → IsReached old leaf ns ss at → IsReached new leaf ns ss at
reached-counted old new leaf ns ss at only h = λ is index. readable-counted old new leaf (at +ℤ dot ss is) only (h is index)

cell_by-counts : (s : StoreView) (n : Counts) (leaf : Leaf) (z : ℤ) → cell_by (record s { counts = n }) leaf z ≡ cell_by s leaf z
cell_by-counts s n (Stored owner desc kind) z = refl
cell_by-counts s n (Gen desc kind) z = refl

pub cell_by-counted : (old new : StoreView) (leaf : Leaf) (z : ℤ) → OnlyCounted old new → cell_by new leaf z ≡ cell_by old leaf z
cell_by-counted old new leaf z only = ap (λ (s : StoreView). cell_by s leaf z) only ∙ cell_by-counts old new.counts leaf z

picked-counts : (s : StoreView) (n : Counts) (leaf : Leaf) (blank : ℤ) (ss : List ℤ) (ts : List (List (Option ℤ))) (at : ℤ) → picked (cell_by (record s { counts = n }) leaf) blank ss ts at ≡ picked (cell_by s leaf) blank ss ts at
picked-counts s n (Stored owner desc kind) blank ss ts at = refl
picked-counts s n (Gen desc kind) blank ss ts at = refl

pub picked-counted : (old new : StoreView) (leaf : Leaf) (blank : ℤ) (ss : List ℤ) (ts : List (List (Option ℤ))) (at : ℤ) → OnlyCounted old new → picked (cell_by new leaf) blank ss ts at ≡ picked (cell_by old leaf) blank ss ts at
picked-counted old new leaf blank ss ts at only = ap (λ (s : StoreView). picked (cell_by s leaf) blank ss ts at) only ∙ picked-counts old new.counts leaf blank ss ts at

-- ---- what is reached

pub reached_at : (store : StoreView) (leaf : Leaf) (ns : List ℕ) (ss : List ℤ) (at : ℤ) → IsReached store leaf ns ss at → 0 < size_of ns → IsReadable store leaf at
reached_at store leaf ns ss at h some =
    let none : at +ℤ pos 0 ≡ at = omega (arith, ints) in
    subst (IsReadable store leaf) (ap (λ (d : ℤ). at +ℤ d) (dot-zeros ss ns) ∙ none) (h (only_index ns) (index_with_size ns some))

pub reached_next : (store : StoreView) (leaf : Leaf) (n : ℕ) (ns : List ℕ) (s : ℤ) (ss : List ℤ) (at : ℤ) (i : ℕ) → IsReached store leaf (n ∷ ns) (s ∷ ss) at → i < n → IsReached store leaf ns ss (at +ℤ (s *ℤ pos i))
reached_next store leaf n ns s ss at i h below = λ is index.
    let e : at +ℤ ((s *ℤ pos i) +ℤ dot ss is) ≡ (at +ℤ (s *ℤ pos i)) +ℤ dot ss is = omega (arith, ints) in
    subst (IsReadable store leaf) e (h (i ∷ is) (below, index))

-- a number that lies on an axis
pub record LiesOn (n : ℕ) (z : ℤ) : Type 0 where
  pub low : pos 0 ≤ℤ z
  pub high : z <ℤ pos n

-- each number on the axis is reached
pub reached_on : (P : ℤ → Type 0) (n : ℕ) (s at z : ℤ) → ((i : ℕ) → i < n → P (at +ℤ (s *ℤ pos i))) → LiesOn n z → P (at +ℤ (s *ℤ z))
reached_on P n s at z h on =
    subst (λ (x : ℤ). P (at +ℤ (s *ℤ x))) (magnitude-is z on.low) (h (unsigned_abs z) (magnitude-below z n on.low on.high))

-- what a track reads lies on its axis
none-reads : (m j : ℕ) (z : ℤ) → get_or (replicate m None) j None ≡ Some z → ⊥
none-reads zero j z e = cc
none-reads (suc m) zero z e = cc
none-reads (suc m) (suc j) z e = none-reads m j z e

pub record AllLieOn (n : ℕ) (xs : List (Option ℤ)) : Type 0 where
  pub each : (j : ℕ) (z : ℤ) → get_or xs j None ≡ Some z → LiesOn n z

lie-cons : (n : ℕ) (x : Option ℤ) (xs : List (Option ℤ)) → ((z : ℤ) → x ≡ Some z → LiesOn n z) → AllLieOn n xs → AllLieOn n (x ∷ xs)
lie-cons n x xs h k = record { each = by }
  where
    by : (j : ℕ) (z : ℤ) → get_or (x ∷ xs) j None ≡ Some z → LiesOn n z
    by zero z e = h z e
    by (suc j) z e = k.each j z e

lie-append : (n : ℕ) (xs ys : List (Option ℤ)) → AllLieOn n xs → AllLieOn n ys → AllLieOn n (xs ++ ys)
lie-append n [] ys h k = k
lie-append n (x ∷ xs) ys h k = lie-cons n x (xs ++ ys) (λ z e. h.each 0 z e) (lie-append n xs ys (record { each = λ j z e. h.each (suc j) z e }) k)

lie-none : (n m : ℕ) → AllLieOn n (replicate m None)
lie-none n m = record { each = λ j z e. absurd (none-reads m j z e) }

lie-map : {X : Type 0} (n : ℕ) (f : X → ℤ) (xs : List X) → ((j : ℕ) (d : X) → j < length xs → LiesOn n (f (get_or xs j d))) → AllLieOn n (map (λ x. Some (f x)) xs)
lie-map n f [] h = record { each = λ j z e. absurd cc }
lie-map n f (x ∷ xs) h =
    lie-cons n (Some (f x)) (map (λ y. Some (f y)) xs) (λ z e. let same : f x ≡ z = cc in subst (LiesOn n) same (h 0 x (omega arith)))
    (lie-map n f xs (λ i d below. h (suc i) d (omega (arith, below))))

lie-stepped : (n count : ℕ) (from step : ℤ) → PlacesWithin n from step count → AllLieOn n (stepped from step count)
lie-stepped n count from step h = lie-map n (λ j. from +ℤ (step *ℤ pos j)) (upward 0 count) (λ j d below.
    let here : j < count = omega (arith, below, length-upward 0 count) in
    let at : get_or (upward 0 count) j d ≡ j = get_or-upward 0 count j d here ∙ omega arith in
    subst (λ (i : ℕ). LiesOn n (from +ℤ (step *ℤ pos i))) (sym at) (record { low = h.low j here; high = h.high j here }))

named-lies : (n : ℕ) (o v : ℤ) → Names o n v → LiesOn n (v -ℤ o)
named-lies n o v h = record { low = omega (arith, ints, h.0); high = omega (arith, ints, h.1) }

pub fits_lie : (n : ℕ) (t : Track) → FitsAxis n t → AllLieOn n (places_on t)
fits_lie n (Line before from step count after) h =
    lie-append n (replicate before None ++ stepped from step count) (replicate after None)
    (lie-append n (replicate before None) (stepped from step count) (lie-none n before) (lie-stepped n count from step h.0)) (lie-none n after)
fits_lie n (Listed values origin) h = lie-map n (λ v. v -ℤ origin) values.items (λ j d below. named-lies n origin (get_or values.items j d) (h.0 j d below))

pub fits_few : (n : ℕ) (t : Track) → FitsAxis n t → length (places_on t) ≤ 2 ^ 40
fits_few n (Line before from step count after) h = omega (arith, length-line before after count from step, h.1)
fits_few n (Listed values origin) h = omega (arith, length-map values.items (λ v. Some (v -ℤ origin)), h.1)

-- ---- one axis and those behind it

pub record AxisFacts (shape : List ℕ) (strides : List ℤ) (axis : ℕ) (t : Track) (ts : List Track) : Type 0 where
  pub below : axis < length shape
  pub long : axis < length strides
  pub lengths_are : drop axis shape ≡ get_or shape axis 0 ∷ drop (axis + 1) shape
  pub strides_are : drop axis strides ≡ get_or strides axis (pos 0) ∷ drop (axis + 1) strides
  pub fits : FitsAxis (get_or shape axis 0) t
  pub rest : FitAxes (drop (axis + 1) shape) ts

first_fits : (ns : List ℕ) (t : Track) (ts : List Track) → FitAxes ns (t ∷ ts) → 0 < length ns
first_fits [] t ts h = absurd h
first_fits (n ∷ ns) t ts h = omega arith

pub axis_facts : (shape : List ℕ) (strides : List ℤ) (axis : ℕ) (tracks : List Track) (t : Track) (ts : List Track) → length strides ≡ length shape → tracks ≡ t ∷ ts → FitAxes (drop axis shape) tracks → AxisFacts shape strides axis t ts
axis_facts shape strides axis tracks t ts same are fits =
    let here : FitAxes (drop axis shape) (t ∷ ts) = subst (FitAxes (drop axis shape)) are fits in
    let below : axis < length shape = omega (arith, first_fits (drop axis shape) t ts here, length-drop axis shape) in
    let first : drop axis shape ≡ get_or shape axis 0 ∷ drop (axis + 1) shape = drop_more shape axis 0 below in
    let parts : FitAxes (get_or shape axis 0 ∷ drop (axis + 1) shape) (t ∷ ts) = subst (λ (ns : List ℕ). FitAxes ns (t ∷ ts)) first here in
    record {
      below = below;
      long = omega (arith, same, below);
      lengths_are = first;
      strides_are = drop_more strides axis (pos 0) (omega (arith, same, below));
      fits = parts.0;
      rest = parts.1;
    }

-- an axis of a shape with elements, and those behind it
pub some_behind : (n m : ℕ) → 0 < n * m → 0 < m
some_behind n zero h = absurd (omega (arith, h))
some_behind n (suc m) h = omega arith

-- ---- one row

-- what one track picks is read number by number
picked-row : (cell : ℤ → ℤ) (blank s : ℤ) (ss : List ℤ) (at : ℤ) (t : List (Option ℤ)) → picked cell blank (s ∷ ss) (t ∷ []) at ≡ map (read_or blank (λ z. cell (at +ℤ (s *ℤ z)))) t
picked-row cell blank s ss at [] = refl
picked-row cell blank s ss at (None ∷ t) = ap (λ (xs : List ℤ). blank ∷ xs) (picked-row cell blank s ss at t)
picked-row cell blank s ss at (Some z ∷ t) = ap (λ (xs : List ℤ). cell (at +ℤ (s *ℤ z)) ∷ xs) (picked-row cell blank s ss at t)

-- the last track
pub row_ends : (cell : ℤ → ℤ) (blank at s : ℤ) (ss all : List ℤ) (tracks : List Track) (t : Track) (ts : List Track) (old now : List ℤ) → all ≡ s ∷ ss → tracks ≡ t ∷ ts → length ts ≡ 0
    → now ≡ old ++ map (read_or blank (λ z. cell (at +ℤ (s *ℤ z)))) (places_on t) → now ≡ old ++ picked cell blank all (map places_on tracks) at
row_ends cell blank at s ss all tracks t [] old now strides are none is =
    is ∙ ap (λ (xs : List ℤ). old ++ xs) (sym (picked-row cell blank s ss at (places_on t))
    ∙ ap (λ (xs : List ℤ). picked cell blank xs (places_on t ∷ []) at) (sym strides)
    ∙ ap (λ (xs : List Track). picked cell blank all (map places_on xs) at) (sym are))
row_ends cell blank at s ss all tracks t (u ∷ ts) old now strides are none is = absurd (omega (arith, none))

map-none : (f : ℤ → ℤ) (blank : ℤ) (n : ℕ) → map (read_or blank f) (replicate n None) ≡ replicate n blank
map-none f blank zero = refl
map-none f blank (suc n) = ap (λ (xs : List ℤ). blank ∷ xs) (map-none f blank n)

-- a line is read as a run between blanks
pub row-line : (f : ℤ → ℤ) (blank : ℤ) (before count after : ℕ) (from step : ℤ) (old one two three : List ℤ)
    → one ≡ old ++ replicate before blank → two ≡ one ++ map (λ j. f (from +ℤ (step *ℤ pos j))) (upward 0 count) → three ≡ two ++ replicate after blank
    → three ≡ old ++ map (read_or blank f) (replicate before None ++ stepped from step count ++ replicate after None)
row-line f blank before count after from step old one two three p q r =
    let run : List ℤ = map (λ j. f (from +ℤ (step *ℤ pos j))) (upward 0 count) in
    let e : map (read_or blank f) (replicate before None ++ stepped from step count ++ replicate after None) ≡ replicate before blank ++ run ++ replicate after blank =
    map-append (read_or blank f) (replicate before None ++ stepped from step count) (replicate after None)
    ∙ ap (λ (xs : List ℤ). xs ++ map (read_or blank f) (replicate after None)) (map-append (read_or blank f) (replicate before None) (stepped from step count)
    ∙ ap (λ (xs : List ℤ). xs ++ map (read_or blank f) (stepped from step count)) (map-none f blank before)
    ∙ ap (λ (xs : List ℤ). replicate before blank ++ xs) (map-map (read_or blank f) (λ j. Some (from +ℤ (step *ℤ pos j))) (upward 0 count)))
    ∙ ap (λ (xs : List ℤ). replicate before blank ++ run ++ xs) (map-none f blank after) in
    r ∙ ap (λ (xs : List ℤ). xs ++ replicate after blank) (q ∙ ap (λ (xs : List ℤ). xs ++ run) p)
    ∙ ap (λ (xs : List ℤ). xs ++ replicate after blank) (append_assoc old (replicate before blank) run)
    ∙ append_assoc old (replicate before blank ++ run) (replicate after blank)
    ∙ ap (λ (xs : List ℤ). old ++ xs) (sym e)

pub row-listed : (f : ℤ → ℤ) (blank o : ℤ) (values : List ℤ) → map (λ v. f (v -ℤ o)) values ≡ map (read_or blank f) (map (λ v. Some (v -ℤ o)) values)
row-listed f blank o values = sym (map-map (read_or blank f) (λ v. Some (v -ℤ o)) values)

-- ---- number by number

-- one place more
pub one_more : (put : Option ℤ → List ℤ) (places : List (Option ℤ)) (before so_far now : List ℤ) (j : ℕ) (o : Option ℤ) → j < length places → o ≡ get_or places j None
    → so_far ≡ before ++ flat_map put (take j places) → now ≡ so_far ++ put o → now ≡ before ++ flat_map put (take (j + 1) places)
one_more put places before so_far now j o below is so_far_is now_is =
    now_is ∙ ap (λ (xs : List ℤ). xs ++ put o) so_far_is
    ∙ flat_map_more put before (take j places) o
    ∙ ap (λ (xs : List (Option ℤ)). before ++ flat_map put xs) (ap (λ (x : Option ℤ). take j places ++ x ∷ []) is ∙ sym (take_more places j None below))

-- the same number of elements at each of them
length-axis : (cell : ℤ → ℤ) (blank s : ℤ) (ss : List ℤ) (t : List (Option ℤ)) (ts : List (List (Option ℤ))) (at : ℤ) → ((z : ℤ) → length (picked cell blank ss ts (at +ℤ (s *ℤ z))) ≡ size_of (lengths_on ts))
    → length (picked cell blank (s ∷ ss) (t ∷ ts) at) ≡ length t * size_of (lengths_on ts)
length-axis cell blank s ss [] ts at each = omega arith
length-axis cell blank s ss (None ∷ t) ts at each =
    omega (arith, length-axis cell blank s ss t ts at each, length-append (replicate (size_of (lengths_on ts)) blank) (picked cell blank (s ∷ ss) (t ∷ ts) at), length-replicate (size_of (lengths_on ts)) blank)
length-axis cell blank s ss (Some z ∷ t) ts at each =
    omega (arith, length-axis cell blank s ss t ts at each, length-append (picked cell blank ss ts (at +ℤ (s *ℤ z))) (picked cell blank (s ∷ ss) (t ∷ ts) at), each z)

pub length-picked : (cell : ℤ → ℤ) (blank : ℤ) (ss : List ℤ) (ts : List (List (Option ℤ))) (at : ℤ) → length ts ≤ length ss → length (picked cell blank ss ts at) ≡ size_of (lengths_on ts)
length-picked cell blank ss [] at h = refl
length-picked cell blank [] (t ∷ ts) at h = absurd (omega (arith, h))
length-picked cell blank (s ∷ ss) (t ∷ ts) at h =
    length-axis cell blank s ss t ts at (λ z. length-picked cell blank ss ts (at +ℤ (s *ℤ z)) (omega (arith, h)))

-- ---- what is asked of one axis

-- what is reached behind a place of the axis
pub next_reached : (store : StoreView) (leaf : Leaf) (shape : List ℕ) (strides : List ℤ) (axis : ℕ) (at : ℤ) (t : Track) (ts : List Track) → AxisFacts shape strides axis t ts
    → IsReached store leaf (drop axis shape) (drop axis strides) at → (i : ℕ) → i < get_or shape axis 0 → IsReached store leaf (drop (axis + 1) shape) (drop (axis + 1) strides) (at +ℤ (get_or strides axis (pos 0) *ℤ pos i))
next_reached store leaf shape strides axis at t ts f reached i below =
    reached_next store leaf (get_or shape axis 0) (drop (axis + 1) shape) (get_or strides axis (pos 0)) (drop (axis + 1) strides) at i
    (subst (λ (ss : List ℤ). IsReached store leaf (get_or shape axis 0 ∷ drop (axis + 1) shape) ss at) f.strides_are
    (subst (λ (ns : List ℕ). IsReached store leaf ns (drop axis strides) at) f.lengths_are reached)) below

pub can_pick : (store : StoreView) (leaf : Leaf) (shape : List ℕ) (strides : List ℤ) (axis : ℕ) (at : ℤ) (t : Track) (ts : List Track) → AxisFacts shape strides axis t ts → IsShape shape
    → IsReached store leaf (drop axis shape) (drop axis strides) at → 0 < size_of (drop axis shape) → CanPick store leaf at (get_or strides axis (pos 0)) t
can_pick store leaf shape strides axis at t ts f lawful reached some = record {
  along = get_or shape axis 0;
  few = all_place (λ (n : ℕ). n ≤ 2 ^ 40) shape axis 0 lawful.each f.below;
  fits = f.fits;
  number = (reached_at store leaf (drop axis shape) (drop axis strides) at reached some).number;
  reached = λ i below. reached_at store leaf (drop (axis + 1) shape) (drop (axis + 1) strides) (at +ℤ (get_or strides axis (pos 0) *ℤ pos i))
      (next_reached store leaf shape strides axis at t ts f reached i below)
      (some_behind (get_or shape axis 0) (size_of (drop (axis + 1) shape)) (subst (λ (ns : List ℕ). 0 < size_of ns) f.lengths_are some));
}

-- and where a track reads that place
pub place_reached : (store : StoreView) (leaf : Leaf) (shape : List ℕ) (strides : List ℤ) (axis : ℕ) (at : ℤ) (t : Track) (ts : List Track) (j : ℕ) (z : ℤ) → AxisFacts shape strides axis t ts
    → IsReached store leaf (drop axis shape) (drop axis strides) at → get_or (places_on t) j None ≡ Some z → IsReached store leaf (drop (axis + 1) shape) (drop (axis + 1) strides) (at +ℤ (get_or strides axis (pos 0) *ℤ z))
place_reached store leaf shape strides axis at t ts j z f reached is =
    reached_on (λ (x : ℤ). IsReached store leaf (drop (axis + 1) shape) (drop (axis + 1) strides) x) (get_or shape axis 0) (get_or strides axis (pos 0)) at z
    (next_reached store leaf shape strides axis at t ts f reached) ((fits_lie (get_or shape axis 0) t f.fits).each j z is)

pub some_rest : (shape : List ℕ) (strides : List ℤ) (axis : ℕ) (t : Track) (ts : List Track) → AxisFacts shape strides axis t ts → 0 < size_of (drop axis shape) → 0 < size_of (drop (axis + 1) shape)
some_rest shape strides axis t ts f some = some_behind (get_or shape axis 0) (size_of (drop (axis + 1) shape)) (subst (λ (ns : List ℕ). 0 < size_of ns) f.lengths_are some)

-- the tracks behind the first one pick some elements each time, and few
pub record RestFacts (t : Track) (ts tracks : List Track) : Type 0 where
  pub size : size_of (lengths_on (map places_on tracks)) ≡ length (places_on t) * size_of (lengths_on (map places_on ts))
  pub some : 0 < size_of (lengths_on (map places_on ts))
  pub few : size_of (lengths_on (map places_on ts)) ≤ 2 ^ 40

pub rest_facts : (t : Track) (ts tracks : List Track) → tracks ≡ t ∷ ts → 0 < size_of (lengths_on (map places_on tracks)) → size_of (lengths_on (map places_on tracks)) ≤ 2 ^ 40 → RestFacts t ts tracks
rest_facts t ts tracks are many few =
    let size : size_of (lengths_on (map places_on tracks)) ≡ length (places_on t) * size_of (lengths_on (map places_on ts)) = ap (λ (xs : List Track). size_of (lengths_on (map places_on xs))) are in
    record { size = size; some = some_behind (length (places_on t)) _ (omega (arith, many, size)); few = by (length (places_on t)) (size_of (lengths_on (map places_on ts))) (omega (arith, many, size)) (omega (arith, few, size)) }
  where
    by : (a b : ℕ) → 0 < a * b → a * b ≤ 2 ^ 40 → b ≤ 2 ^ 40
    by zero b h k = absurd (omega (arith, h))
    by (suc a) b h k = omega (arith, k)

fit_few : (ns : List ℕ) (ts : List Track) → FitAxes ns ts → All (λ t. length (places_on t) ≤ 2 ^ 40) ts
fit_few [] [] h = λ k d below. absurd (omega (arith, below))
fit_few [] (t ∷ ts) h = absurd h
fit_few (n ∷ ns) [] h = absurd h
fit_few (n ∷ ns) (t ∷ ts) h = cons (fit_few ns ts h.1)
  where
    cons : All (λ t. length (places_on t) ≤ 2 ^ 40) ts → All (λ t. length (places_on t) ≤ 2 ^ 40) (t ∷ ts)
    cons rest zero d below = fits_few n t h.0
    cons rest (suc k) d below = rest k d (omega (arith, below))

pub rest_few : (shape : List ℕ) (strides : List ℤ) (axis : ℕ) (t : Track) (ts : List Track) → AxisFacts shape strides axis t ts → All (λ t. length (places_on t) ≤ 2 ^ 40) ts
rest_few shape strides axis t ts f = fit_few (drop (axis + 1) shape) ts f.rest

-- ---- what the walk keeps

-- what is picked for one number of the first track
abbrev pub put_of : StoreView → Leaf → ℤ → ℤ → List ℤ → List Track → ℤ → Option ℤ → List ℤ
put_of store leaf blank s ss ts at = read_or (replicate (size_of (lengths_on (map places_on ts))) blank) (λ z. picked (cell_by store leaf) blank ss (map places_on ts) (at +ℤ (s *ℤ z)))

pub record PickedTo (old now : StoreView) (leaf : Leaf) (blank s : ℤ) (ss : List ℤ) (t : Track) (ts : List Track) (at : ℤ) (before after : List ℤ) (j : ℕ) : Type 0 where
  pub cells : after ≡ before ++ flat_map (put_of old leaf blank s ss ts at) (take j (places_on t))
  pub counted : OnlyFetched old now (j * size_of (lengths_on (map places_on ts)))
  pub store : IsStore now

pub picked_none : (s : StoreView) (leaf : Leaf) (blank stride : ℤ) (ss : List ℤ) (t : Track) (ts : List Track) (at : ℤ) (before : List ℤ) → IsStore s → PickedTo s s leaf blank stride ss t ts at before before 0
picked_none s leaf blank stride ss t ts at before is = record { cells = sym (append-nil before); counted = OnlyFetched-none s _; store = is }

-- blanks for a number that is not read
pub picked_blanks : (old now : StoreView) (leaf : Leaf) (blank s : ℤ) (ss : List ℤ) (t : Track) (ts : List Track) (at : ℤ) (before after next : List ℤ) (j n : ℕ) → PickedTo old now leaf blank s ss t ts at before after j
    → j < length (places_on t) → get_or (places_on t) j None ≡ None → n ≡ size_of (lengths_on (map places_on ts)) → next ≡ after ++ replicate n blank → PickedTo old now leaf blank s ss t ts at before next (j + 1)
picked_blanks old now leaf blank s ss t ts at before after next j n so_far below none size is = record {
  cells = one_more (put_of old leaf blank s ss ts at) (places_on t) before after next j None below (sym none) so_far.cells (is ∙ ap (λ (k : ℕ). after ++ replicate k blank) size);
  counted = OnlyFetched-more old now _ _ (omega arith) so_far.counted;
  store = so_far.store;
}

-- the elements behind one that is
pub picked_more : (old now then : StoreView) (leaf : Leaf) (blank s : ℤ) (ss : List ℤ) (t : Track) (ts : List Track) (at z from : ℤ) (before after next : List ℤ) (j : ℕ) → PickedTo old now leaf blank s ss t ts at before after j
    → j < length (places_on t) → get_or (places_on t) j None ≡ Some z → from ≡ at +ℤ (s *ℤ z) → next ≡ after ++ picked (cell_by now leaf) blank ss (map places_on ts) from
    → OnlyFetched now then (size_of (lengths_on (map places_on ts))) → IsStore then → PickedTo old then leaf blank s ss t ts at before next (j + 1)
picked_more old now then leaf blank s ss t ts at z from before after next j so_far below read is are counted lawful = record {
  cells = one_more (put_of old leaf blank s ss ts at) (places_on t) before after next j (Some z) below (sym read) so_far.cells
      (are ∙ ap (λ (x : ℤ). after ++ picked (cell_by now leaf) blank ss (map places_on ts) x) is
      ∙ ap (λ (xs : List ℤ). after ++ xs) (picked-counted old now leaf blank ss (map places_on ts) (at +ℤ (s *ℤ z)) so_far.counted.only));
  counted = OnlyFetched-more old then _ _ (omega arith) (OnlyFetched-then old now then _ _ so_far.counted counted);
  store = lawful;
}

pub picked_all : (old now : StoreView) (leaf : Leaf) (blank s : ℤ) (ss all : List ℤ) (t : Track) (ts tracks : List Track) (at : ℤ) (before after : List ℤ) (j : ℕ) → PickedTo old now leaf blank s ss t ts at before after j
    → length (places_on t) ≤ j → all ≡ s ∷ ss → tracks ≡ t ∷ ts → after ≡ before ++ picked (cell_by old leaf) blank all (map places_on tracks) at
picked_all old now leaf blank s ss all t ts tracks at before after j so_far end strides are =
    so_far.cells ∙ ap (λ (xs : List (Option ℤ)). before ++ flat_map (put_of old leaf blank s ss ts at) xs) (take_all j (places_on t) end)
    ∙ ap (λ (xs : List ℤ). before ++ picked (cell_by old leaf) blank xs (places_on t ∷ map places_on ts) at) (sym strides)
    ∙ ap (λ (xs : List Track). before ++ picked (cell_by old leaf) blank all (map places_on xs) at) (sym are)

-- ---- a line

pub line_first : (P : ℤ → Type 0) (at s from step : ℤ) → P (at +ℤ (s *ℤ (from +ℤ (step *ℤ pos 0)))) → P (at +ℤ (s *ℤ from))
line_first P at s from step h =
    let e : from +ℤ (step *ℤ pos 0) ≡ from = omega (arith, ints) in
    subst (λ (z : ℤ). P (at +ℤ (s *ℤ z))) e h

pub line_scaled : (at s from step : ℤ) → IsNumber (at +ℤ (s *ℤ (from +ℤ (step *ℤ pos 0)))) → IsNumber (at +ℤ (s *ℤ (from +ℤ (step *ℤ pos 1)))) → unsigned_abs (s *ℤ step) ≤ 2 * 10 ^ 36
line_scaled at s from step h k =
    let first : IsNumber (at +ℤ (s *ℤ from)) = line_first IsNumber at s from step h in
    let one : from +ℤ (step *ℤ pos 1) ≡ from +ℤ step = omega (arith, ints) in
    let e : s *ℤ (from +ℤ (step *ℤ pos 1)) ≡ (s *ℤ from) +ℤ (s *ℤ step) = ap (λ (z : ℤ). s *ℤ z) one ∙ mul_add s from step in
    let f : at +ℤ ((s *ℤ from) +ℤ (s *ℤ step)) ≡ (at +ℤ (s *ℤ from)) +ℤ (s *ℤ step) = omega (arith, ints) in
    between_few (at +ℤ (s *ℤ from)) (s *ℤ step) first (subst IsNumber (ap (λ (z : ℤ). at +ℤ z) e ∙ f) k)

pub line_number : (at s from step first scale : ℤ) (j : ℕ) → first ≡ at +ℤ (s *ℤ from) → scale ≡ s *ℤ step → first +ℤ (scale *ℤ pos j) ≡ at +ℤ (s *ℤ (from +ℤ (step *ℤ pos j)))
line_number at s from step first scale j a b =
    let e : s *ℤ (from +ℤ (step *ℤ pos j)) ≡ (s *ℤ from) +ℤ ((s *ℤ step) *ℤ pos j) = mul_add s from (step *ℤ pos j) ∙ ap (λ (z : ℤ). (s *ℤ from) +ℤ z) (sym (mul_assoc s step (pos j))) in
    let f : (at +ℤ (s *ℤ from)) +ℤ ((s *ℤ step) *ℤ pos j) ≡ at +ℤ ((s *ℤ from) +ℤ ((s *ℤ step) *ℤ pos j)) = omega (arith, ints) in
    ap (λ (z : ℤ). z +ℤ (scale *ℤ pos j)) a ∙ ap (λ (z : ℤ). (at +ℤ (s *ℤ from)) +ℤ (z *ℤ pos j)) b ∙ f ∙ ap (λ (z : ℤ). at +ℤ z) (sym e)

pub one_cell : (f : ℕ → ℤ) (count : ℕ) → count ≡ 1 → map f (upward 0 count) ≡ f 0 ∷ []
one_cell f count e = ap (λ (n : ℕ). map f (upward 0 n)) e

-- what a line reads can be read
pub line_reached : (store : StoreView) (leaf : Leaf) (n : ℕ) (at s from step : ℤ) (count : ℕ) → PlacesWithin n from step count → ((i : ℕ) → i < n → IsReadable store leaf (at +ℤ (s *ℤ pos i))) → (j : ℕ) → j < count → IsReadable store leaf (at +ℤ (s *ℤ (from +ℤ (step *ℤ pos j))))
line_reached store leaf n at s from step count places reached j below =
    reached_on (IsReadable store leaf) n s at (from +ℤ (step *ℤ pos j)) reached (record { low = places.low j below; high = places.high j below })

-- ---- a list

pub listed_reached : (store : StoreView) (leaf : Leaf) (n : ℕ) (at s o : ℤ) (values : List ℤ) → All (Names o n) values → ((i : ℕ) → i < n → IsReadable store leaf (at +ℤ (s *ℤ pos i))) → All (λ v. IsReadable store leaf (at +ℤ (s *ℤ (v -ℤ o)))) values
listed_reached store leaf n at s o values named reached = λ k d below. reached_on (IsReadable store leaf) n s at (get_or values k d -ℤ o) reached (named-lies n o (get_or values k d) (named k d below))

single_all : (P : ℤ → Type 0) (v : ℤ) → P v → All P (v ∷ [])
single_all P v h zero d below = h
single_all P v h (suc k) d below = absurd (omega (arith, below))

pub can_read_one : (old now : StoreView) (leaf : Leaf) (at s o : ℤ) (values : List ℤ) (k : ℕ) → OnlyCounted old now → CanRead old leaf at s o values → k < length values → CanRead now leaf at s o (get_or values k (pos 0) ∷ [])
can_read_one old now leaf at s o values k only can below = record {
  along = can.along;
  few = can.few;
  counted = can.counted;
  number = can.number;
  named = single_all (Names o can.along) (get_or values k (pos 0)) (can.named k (pos 0) below);
  reached = single_all (λ v. IsReadable now leaf (at +ℤ (s *ℤ (v -ℤ o)))) (get_or values k (pos 0)) (readable-counted old now leaf _ only (can.reached k (pos 0) below));
}

pub record ListedTo (old now : StoreView) (leaf : Leaf) (at s o : ℤ) (values before after : List ℤ) (k : ℕ) : Type 0 where
  pub cells : after ≡ before ++ map (λ v. cell_by old leaf (at +ℤ (s *ℤ (v -ℤ o)))) (take k values)
  pub counted : OnlyFetched old now k
  pub store : IsStore now

pub listed_none : (s : StoreView) (leaf : Leaf) (at stride o : ℤ) (values before : List ℤ) → IsStore s → ListedTo s s leaf at stride o values before before 0
listed_none s leaf at stride o values before is = record { cells = sym (append-nil before); counted = OnlyFetched-none s 0; store = is }

pub listed_more : (old now then : StoreView) (leaf : Leaf) (at s o : ℤ) (values before after next : List ℤ) (k : ℕ) (x : ℤ) → ListedTo old now leaf at s o values before after k → k < length values
    → x ≡ cell_by now leaf (at +ℤ (s *ℤ (get_or values k (pos 0) -ℤ o))) → next ≡ after ++ x ∷ [] → OnlyFetched now then 1 → IsStore then → ListedTo old then leaf at s o values before next (k + 1)
listed_more old now then leaf at s o values before after next k x so_far below is are counted lawful =
    let f : ℤ → ℤ = λ v. cell_by old leaf (at +ℤ (s *ℤ (v -ℤ o))) in
    let same : x ≡ f (get_or values k (pos 0)) = is ∙ cell_by-counted old now leaf _ so_far.counted.only in
    record {
      cells = are ∙ ap (λ (y : ℤ). after ++ y ∷ []) same ∙ ap (λ (xs : List ℤ). xs ++ f (get_or values k (pos 0)) ∷ []) so_far.cells
          ∙ append_assoc before (map f (take k values)) (f (get_or values k (pos 0)) ∷ []) ∙ ap (λ (xs : List ℤ). before ++ xs) (sym (map_more f values k (pos 0) below));
      counted = OnlyFetched-then old now then k 1 so_far.counted counted;
      store = lawful;
    }

pub listed_all : (old now : StoreView) (leaf : Leaf) (at s o : ℤ) (values before after : List ℤ) (k : ℕ) → ListedTo old now leaf at s o values before after k → length values ≤ k → after ≡ before ++ map (λ v. cell_by old leaf (at +ℤ (s *ℤ (v -ℤ o)))) values
listed_all old now leaf at s o values before after k so_far end =
    so_far.cells ∙ ap (λ (vs : List ℤ). before ++ map (λ v. cell_by old leaf (at +ℤ (s *ℤ (v -ℤ o)))) vs) (take_all k values end)

-- ---- numbers of a machine

pub one_row : (j n s : ℕ) → j < n → j * s + s ≤ n * s
one_row j n s h =
    let m : suc j * s ≤ n * s = mul-le-mul_right s h in
    omega (arith, m)

pub few_rows : (j n s : ℕ) → j ≤ n → j * s ≤ n * s
few_rows j n s h = mul-le-mul_right s h

pub place_fits : (shape : List ℕ) (strides : List ℤ) (axis : ℕ) (t : Track) (ts : List Track) (j : ℕ) (z : ℤ) → AxisFacts shape strides axis t ts → IsShape shape → get_or (places_on t) j None ≡ Some z → FitsSigned w128 z
place_fits shape strides axis t ts j z f lawful is =
    let on = (fits_lie (get_or shape axis 0) t f.fits).each j z is in
    let few : get_or shape axis 0 ≤ 2 ^ 40 = all_place (λ (n : ℕ). n ≤ 2 ^ 40) shape axis 0 lawful.each f.below in
    fits_signed_from_abs w128 z (omega (arith, few, magnitude-below z (get_or shape axis 0) on.low on.high))

fit_length : (ns : List ℕ) (ts : List Track) → FitAxes ns ts → length ts ≡ length ns
fit_length [] [] h = refl
fit_length [] (t ∷ ts) h = absurd h
fit_length (n ∷ ns) [] h = absurd h
fit_length (n ∷ ns) (t ∷ ts) h = ap suc (fit_length ns ts h.1)

pub rest_long : (shape : List ℕ) (strides : List ℤ) (axis : ℕ) (t : Track) (ts : List Track) → AxisFacts shape strides axis t ts → length strides ≡ length shape → length (map places_on ts) ≤ length (drop (axis + 1) strides)
rest_long shape strides axis t ts f same =
    omega (arith, length-map ts places_on, fit_length (drop (axis + 1) shape) ts f.rest, length-drop (axis + 1) shape, length-drop (axis + 1) strides, same)

-- so many more cells are there once a place more was picked
pub more_long : (cell : ℤ → ℤ) (blank : ℤ) (ss : List ℤ) (ts : List Track) (at : ℤ) (old now : List ℤ) → length (map places_on ts) ≤ length ss → now ≡ old ++ picked cell blank ss (map places_on ts) at → length now ≡ length old + size_of (lengths_on (map places_on ts))
more_long cell blank ss ts at old now few is =
    ap length is ∙ length-append old (picked cell blank ss (map places_on ts) at) ∙ ap (λ (n : ℕ). length old + n) (length-picked cell blank ss (map places_on ts) at few)

pub blanks_long : (blank : ℤ) (n : ℕ) (old now : List ℤ) → now ≡ old ++ replicate n blank → length now ≡ length old + n
blanks_long blank n old now is = ap length is ∙ length-append old (replicate n blank) ∙ ap (λ (k : ℕ). length old + k) (length-replicate n blank)
