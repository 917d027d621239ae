-- The walk over tracks, writing.
use mir.Syntax.{w128}
use Rattle.std.proofs.Common.{◌≡◌, ◌==◌, Bool, true, false, ℕ, zero, suc, ◌+◌, ◌*◌, ◌^◌, ◌<◌, ◌≤◌, ℤ, pos, ◌+ℤ◌, ◌*ℤ◌, ◌≤ℤ◌, ◌<ℤ◌, inl, inr, List, [], ◌∷◌, ◌++◌, length, map, take, drop, get_or, Option, Some, None, refl, sym, ap, subst, ◌∙◌, arith, FitsSigned}
use Rattle.std.specs.Prelude.{All, replicate, unsigned_abs, slice_set, if◌then◌else◌}
use Rattle.std.proofs.lemmas.Bool.{eqb-true, eq-eqb}
use Rattle.apl_base.specs.declared.cells.Kind.{Kind}
use Rattle.apl_base.specs.Number.{IsCell}
use Rattle.std.specs.List.{flat_map}
use Rattle.std.proofs.lemmas.Int.{ints, fits_signed_from_abs}
use Rattle.std.proofs.lemmas.List.{length-map, take_more, take_all, map_more, flat_map_more, length-take-le}
use Rattle.apl_base.specs.Array.{size_of}
use Rattle.apl_base.proofs.Integers.{magnitude-below}
use Rattle.array_store.specs.Stores.{StoreView, IsStore, holders_of, cells_of, with_cell}
use Rattle.made_picks.specs.declared.tracks.Track.{Track}
use Rattle.made_picks.specs.Picks.{IsReadable, IsReached, read_or, lengths_on, picked}
use Rattle.made_picks.specs.Tracks.{places_on, CanPick}
use Rattle.made_picks.proofs.WalkLemmas.{LiesOn, fits_lie, length-picked, one_row, reached_on}
use Rattle.replacing_steps.specs.Writes.{written, value_by, places_by, places_in, NamesEach, HasValues, IsRow, WritesCells, owner_leaf}
use Rattle.replacing_steps.proofs.WriteLemmas.{written-append, written-length, writes_none, writes_same, writes_then, writes_one}

-- ---- one row

-- the place of a number of the track
abbrev pub row_place : ℤ → ℤ → Option ℤ → ℤ
row_place s at = read_or (pos 0) (λ z. at +ℤ (s *ℤ z))

pub record RowTo (old now : StoreView) (key : ℕ) (value : ℕ → ℤ) (first : ℕ) (s : ℤ) (t : Track) (at : ℤ) (j : ℕ) : Type 0 where
  pub cells : WritesCells old now key (written value first (map (row_place s at) (take j (places_on t))) (cells_of old key))
  pub store : IsStore now

pub row_none : (old : StoreView) (key : ℕ) (value : ℕ → ℤ) (first : ℕ) (s : ℤ) (t : Track) (at : ℤ) → IsStore old → RowTo old old key value first s t at 0
row_none old key value first s t at is = record { cells = writes_none old key (cells_of old key) refl; store = is }

pub row_more : (old now after : StoreView) (key : ℕ) (value : ℕ → ℤ) (first : ℕ) (s : ℤ) (t : Track) (at z number c : ℤ) (j : ℕ) → RowTo old now key value first s t at j
    → j < length (places_on t) → get_or (places_on t) j None ≡ Some z → number ≡ at +ℤ (s *ℤ z) → c ≡ value (first + j) → 0 < holders_of now key → unsigned_abs number < length (cells_of now key)
    → after ≡ with_cell now key (unsigned_abs number) c → IsStore after → RowTo old after key value first s t at (j + 1)
row_more old now after key value first s t at z number c j so_far below read is cell held within step lawful =
    let before : List ℤ = written value first (map (row_place s at) (take j (places_on t))) (cells_of old key) in
    let long : length (map (row_place s at) (take j (places_on t))) ≡ j = omega (arith, length-map (take j (places_on t)) (row_place s at), length-take-le j (places_on t) (omega (arith, below))) in
    let place : row_place s at (get_or (places_on t) j None) ≡ number = ap (row_place s at) read ∙ sym is in
    let more : written value first (map (row_place s at) (take (j + 1) (places_on t))) (cells_of old key) ≡ slice_set (cells_of now key) (unsigned_abs number) c =
    ap (λ (zs : List ℤ). written value first zs (cells_of old key)) (map_more (row_place s at) (places_on t) j None below)
    ∙ written-append value first (map (row_place s at) (take j (places_on t))) (row_place s at (get_or (places_on t) j None) ∷ []) (cells_of old key)
    ∙ ap (λ (n : ℕ). slice_set before (unsigned_abs (row_place s at (get_or (places_on t) j None))) (value (first + n))) long
    ∙ ap (λ (x : ℤ). slice_set before (unsigned_abs x) (value (first + j))) place
    ∙ ap (λ (x : ℤ). slice_set before (unsigned_abs number) x) (sym cell)
    ∙ ap (λ (zs : List ℤ). slice_set zs (unsigned_abs number) c) (sym so_far.cells.written) in
    record {
      cells = writes_same old after key _ _ (writes_then old now after key _ _ so_far.cells (writes_one now after key (unsigned_abs number) c held within step)) (sym more);
      store = lawful;
    }

pub row_all : (old now : StoreView) (key : ℕ) (value : ℕ → ℤ) (first : ℕ) (s : ℤ) (t : Track) (at : ℤ) (j : ℕ) → RowTo old now key value first s t at j → length (places_on t) ≤ j
    → WritesCells old now key (written value first (map (row_place s at) (places_on t)) (cells_of old key))
row_all old now key value first s t at j so_far end =
    writes_same old now key _ _ so_far.cells (ap (λ (xs : List (Option ℤ)). written value first (map (row_place s at) xs) (cells_of old key)) (take_all j (places_on t) end))

-- what a row's track names can be written
pub row_reached : (store : StoreView) (key : ℕ) (at s : ℤ) (t : Track) (j : ℕ) (z : ℤ) → IsRow store key at s t → get_or (places_on t) j None ≡ Some z → IsReadable store (owner_leaf key) (at +ℤ (s *ℤ z))
row_reached store key at s t j z row read = reached_on (IsReadable store (owner_leaf key)) row.along s at z row.reached ((fits_lie row.along t row.fits).each j z read)

pub row_fits : (store : StoreView) (key : ℕ) (at s : ℤ) (t : Track) (j : ℕ) (z : ℤ) → IsRow store key at s t → get_or (places_on t) j None ≡ Some z → FitsSigned w128 z
row_fits store key at s t j z row read =
    let on = (fits_lie row.along t row.fits).each j z read in
    fits_signed_from_abs w128 z (omega (arith, row.few, magnitude-below z row.along on.low on.high))

-- the last track
row_picked : (s : ℤ) (ss : List ℤ) (at : ℤ) (t : List (Option ℤ)) → picked (λ z. z) (pos 0) (s ∷ ss) (t ∷ []) at ≡ map (row_place s at) t
row_picked s ss at [] = refl
row_picked s ss at (None ∷ t) = ap (λ (xs : List ℤ). pos 0 ∷ xs) (row_picked s ss at t)
row_picked s ss at (Some z ∷ t) = ap (λ (xs : List ℤ). (at +ℤ (s *ℤ z)) ∷ xs) (row_picked s ss at t)

pub row_places : (s : ℤ) (ss all : List ℤ) (at : ℤ) (t : Track) (ts tracks : List Track) → all ≡ s ∷ ss → tracks ≡ t ∷ ts → length ts ≡ 0 → map (row_place s at) (places_on t) ≡ places_by all tracks at
row_places s ss all at t [] tracks strides are none =
    sym (row_picked s ss at (places_on t))
    ∙ ap (λ (xs : List ℤ). picked (λ z. z) (pos 0) xs (places_on t ∷ []) at) (sym strides)
    ∙ ap (λ (xs : List Track). places_by all xs at) (sym are)
row_places s ss all at t (u ∷ ts) tracks strides are none = absurd (omega (arith, none))

pub row_size : (t : Track) (ts tracks : List Track) → tracks ≡ t ∷ ts → length ts ≡ 0 → places_in tracks ≡ length (places_on t)
row_size t [] tracks are none =
    let e : length (places_on t) * 1 ≡ length (places_on t) = omega arith in
    ap (λ (xs : List Track). places_in xs) are ∙ e
row_size t (u ∷ ts) tracks are none = absurd (omega (arith, none))

-- ---- number by number

-- the places behind one number of the first track
abbrev pub behind : ℤ → List ℤ → List Track → ℤ → Option ℤ → List ℤ
behind s ss ts at = read_or (replicate (places_in ts) (pos 0)) (λ z. places_by ss ts (at +ℤ (s *ℤ z)))

pub record WroteTo (old now : StoreView) (key : ℕ) (value : ℕ → ℤ) (first : ℕ) (s : ℤ) (ss : List ℤ) (t : Track) (ts : List Track) (at : ℤ) (j number : ℕ) : Type 0 where
  pub cells : WritesCells old now key (written value first (flat_map (behind s ss ts at) (take j (places_on t))) (cells_of old key))
  pub number_is : number ≡ first + j * places_in ts
  pub store : IsStore now

pub wrote_none : (old : StoreView) (key : ℕ) (value : ℕ → ℤ) (first : ℕ) (s : ℤ) (ss : List ℤ) (t : Track) (ts : List Track) (at : ℤ) → IsStore old → WroteTo old old key value first s ss t ts at 0 first
wrote_none old key value first s ss t ts at is = record {
  cells = writes_none old key (cells_of old key) refl;
  number_is = omega arith;
  store = is;
}

-- so many places are behind so many numbers
behind_many : (s : ℤ) (ss : List ℤ) (ts : List Track) (at : ℤ) (xs : List (Option ℤ)) → length ts ≤ length ss → length (flat_map (behind s ss ts at) xs) ≡ length xs * places_in ts
behind_many s ss ts at xs h = length-picked (λ z. z) (pos 0) (s ∷ ss) (xs ∷ map places_on ts) at (omega (arith, h, length-map ts places_on))

pub wrote_more : (old now after : StoreView) (key : ℕ) (value : ℕ → ℤ) (first : ℕ) (s : ℤ) (ss : List ℤ) (t : Track) (ts : List Track) (at z from : ℤ) (j number next : ℕ) → length ts ≤ length ss → WroteTo old now key value first s ss t ts at j number
    → j < length (places_on t) → get_or (places_on t) j None ≡ Some z → from ≡ at +ℤ (s *ℤ z) → WritesCells now after key (written value number (places_by ss ts from) (cells_of now key)) → next ≡ number + places_in ts → IsStore after
    → WroteTo old after key value first s ss t ts at (j + 1) next
wrote_more old now after key value first s ss t ts at z from j number next long so_far below read is step count lawful =
    let put : Option ℤ → List ℤ = behind s ss ts at in
    let done : List ℤ = flat_map put (take j (places_on t)) in
    let many : length done ≡ j * places_in ts = behind_many s ss ts at (take j (places_on t)) long ∙ ap (λ (n : ℕ). n * places_in ts) (length-take-le j (places_on t) (omega (arith, below))) in
    let here : put (get_or (places_on t) j None) ≡ places_by ss ts from = ap put read ∙ ap (places_by ss ts) (sym is) in
    let so : first + length done ≡ number = omega (arith, many, so_far.number_is) in
    let parts : flat_map put (take (j + 1) (places_on t)) ≡ done ++ places_by ss ts from =
    ap (flat_map put) (take_more (places_on t) j None below)
    ∙ sym (flat_map_more put [] (take j (places_on t)) (get_or (places_on t) j None))
    ∙ ap (λ (xs : List ℤ). done ++ xs) here in
    let more : written value first (flat_map put (take (j + 1) (places_on t))) (cells_of old key) ≡ written value number (places_by ss ts from) (cells_of now key) =
    ap (λ (zs : List ℤ). written value first zs (cells_of old key)) parts
    ∙ written-append value first done (places_by ss ts from) (cells_of old key)
    ∙ ap (λ (n : ℕ). written value n (places_by ss ts from) (written value first done (cells_of old key))) so
    ∙ ap (λ (zs : List ℤ). written value number (places_by ss ts from) zs) (sym so_far.cells.written) in
    record {
      cells = writes_same old after key _ _ (writes_then old now after key _ _ so_far.cells step) (sym more);
      number_is = omega (arith, count, so_far.number_is);
      store = lawful;
    }

pub wrote_all : (old now : StoreView) (key : ℕ) (value : ℕ → ℤ) (first : ℕ) (s : ℤ) (ss all : List ℤ) (t : Track) (ts tracks : List Track) (at : ℤ) (j number : ℕ) → WroteTo old now key value first s ss t ts at j number → length (places_on t) ≤ j
    → all ≡ s ∷ ss → tracks ≡ t ∷ ts → WritesCells old now key (written value first (places_by all tracks at) (cells_of old key))
wrote_all old now key value first s ss all t ts tracks at j number so_far end strides are =
    writes_same old now key _ _ so_far.cells
    (ap (λ (xs : List (Option ℤ)). written value first (flat_map (behind s ss ts at) xs) (cells_of old key)) (take_all j (places_on t) end)
    ∙ ap (λ (xs : List ℤ). written value first (picked (λ z. z) (pos 0) xs (places_on t ∷ map places_on ts) at) (cells_of old key)) (sym strides)
    ∙ ap (λ (xs : List Track). written value first (places_by all xs at) (cells_of old key)) (sym are))

-- ---- values

-- those of a part
pub has_part : (values : List ℤ) (first count from part : ℕ) → HasValues values first count → from + part ≤ first + count → HasValues values from part
has_part values first count from part (inl one) h = inl one
has_part values first count from part (inr many) h = inr (omega (arith, many, h))

-- the value of a number is a cell, where all values are
pub value_lawful : (k : Kind) (values : List ℤ) (q : ℕ) → All (IsCell k) values → HasValues values q 1 → IsCell k (value_by values q)
value_lawful k values q lawful h = by (length values == 1) refl h
  where
    by : (t : Bool) → (length values == 1) ≡ t → HasValues values q 1 → IsCell k (get_or values (if t then 0 else q) (pos 0))
    by true e has = lawful 0 (pos 0) (omega (arith, eqb-true (length values) 1 e))
    by false e (inl one) = absurd (let yes : (length values == 1) ≡ true = eq-eqb (length values) 1 one in cc)
    by false e (inr many) = lawful q (pos 0) (omega (arith, many))

-- the rest of the tracks
pub names_rest : (t : Track) (ts tracks : List Track) → tracks ≡ t ∷ ts → All NamesEach tracks → All NamesEach ts
names_rest t ts tracks are h =
    let both : All NamesEach (t ∷ ts) = subst (All NamesEach) are h in
    λ k d below. both (suc k) d (omega (arith, below))

pub names_first : (t : Track) (ts tracks : List Track) → tracks ≡ t ∷ ts → All NamesEach tracks → NamesEach t
names_first t ts tracks are h =
    let both : All NamesEach (t ∷ ts) = subst (All NamesEach) are h in
    both 0 t (omega arith)

-- the numbers behind one of the first track
pub inner_count : (t : Track) (ts tracks : List Track) (first j number : ℕ) → tracks ≡ t ∷ ts → j < length (places_on t) → number ≡ first + j * places_in ts → number + places_in ts ≤ first + places_in tracks
inner_count t ts tracks first j number are below is =
    let size : places_in tracks ≡ length (places_on t) * places_in ts = ap places_in are in
    let row = one_row j (length (places_on t)) (places_in ts) below in
    omega (arith, size, row, is)

-- ---- no track

pub no_tracks : (tracks : List Track) → length tracks ≡ 0 → tracks ≡ []
no_tracks [] h = refl
no_tracks (t ∷ ts) h = absurd (omega (arith, h))

pub one_written : (s t : StoreView) (key : ℕ) (value : ℕ → ℤ) (first : ℕ) (ss : List ℤ) (tracks : List Track) (at c : ℤ) → tracks ≡ [] → c ≡ value first → IsReadable s (owner_leaf key) at → t ≡ with_cell s key (unsigned_abs at) c
    → WritesCells s t key (written value first (places_by ss tracks at) (cells_of s key))
one_written s t key value first ss tracks at c none is reach step =
    let within : unsigned_abs at < length (cells_of s key) = magnitude-below at (length (cells_of s key)) reach.cell.1 reach.cell.2 in
    writes_same s t key _ _ (writes_one s t key (unsigned_abs at) c reach.cell.0 within step)
    (ap (λ (x : ℤ). slice_set (cells_of s key) (unsigned_abs at) x) is
    ∙ ap (λ (ts : List Track). written value first (places_by ss ts at) (cells_of s key)) (sym none))
