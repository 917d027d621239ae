-- A value that is written to the places that positions select.
use Rattle.std.proofs.Common.{◌≡◌, ◌≢◌, ◌⊎◌, ◌==◌, ℕ, zero, suc, ◌<◌, Bool, true, false, not, ◌&&◌, ℤ, pos, ◌-ℤ◌, inl, inr, List, [], ◌∷◌, length, map, get_or, Option, Some, None, refl, sym, ap, subst, ◌∙◌, arith}
use Rattle.std.specs.Prelude.{All}
use Rattle.std.proofs.lemmas.Bool.{eqb-true, ne_eqb}
use Rattle.std.proofs.lemmas.Int.{ints}
use Rattle.apl_base.specs.declared.cells.Kind.{Kind}
use Rattle.apl_base.specs.declared.cells.Kind.TheVariants.{Num, Char}
use Rattle.apl_base.specs.Array.{Array, size_of, place_at}
use Rattle.apl_base.specs.Elements.{indices}
use Rattle.apl_base.specs.Scalar.{is_same_kind}
use Rattle.apl_base.specs.Selection.{upward}
use Rattle.apl_base.proofs.Sizes.{place_at-below}
use Rattle.array_desc.specs.Desc.{DescView, IsWhole, number}
use Rattle.array_store.specs.Stores.{StoreView, holders_of, cells_of, kind_of}
use Rattle.array_store.specs.Counting.{OnlyCounted}
use Rattle.drag_along.specs.declared.leaves.Leaf.{Leaf}
use Rattle.drag_along.specs.declared.leaves.Leaf.TheVariants.{Stored, Gen}
use Rattle.e_machine.specs.Forced.{AreRead}
use Rattle.drag_along.specs.Nodes.{leaf_kind, leaf_shape}
use Rattle.drag_along.specs.Views.{owner_array}
use Rattle.leaf_names.specs.Variables.{array_of}
use Rattle.apl_model.specs.Subscript.{replaced}
use Rattle.made_picks.specs.declared.tracks.Track.{Track}
use Rattle.made_picks.specs.Picks.{picked, positions_of, lengths_on}
use Rattle.made_picks.specs.Tracks.{places_on, named_on, named_along}
use Rattle.made_picks.proofs.NamedLemmas.{picked-named}
use Rattle.made_picks.proofs.PositionLemmas.{positions-filled}
use Rattle.made_picks.proofs.GatherLemmas.{size-named, positions_some}
use Rattle.replacing_steps.specs.Checks.{CanReplace, FitsSelected}
use Rattle.apl_base.proofs.Elements.{tabulated-count}
use Rattle.drag_along.specs.Meaning.{leaf_cell}
use Rattle.made_fns.proofs.Lengths.{array_of-counted}
use Rattle.replacing_steps.specs.Writes.{written, value_by, places_by, places_in, NamesEach, HasValues, CanReach, WritesCells}
use Rattle.replacing_steps.proofs.WriteLemmas.{place_for, replaced_is, counted_writes, writes_same}

-- ---- tracks of positions

some_at : {X : Type 0} (f : X → ℤ) (xs : List X) (j : ℕ) → j < length (map (λ x. Some (f x)) xs) → (z : ℤ) × (get_or (map (λ x. Some (f x)) xs) j None ≡ Some z)
some_at f [] j h = absurd (omega (arith, h))
some_at f (x ∷ xs) zero h = (f x, refl)
some_at f (x ∷ xs) (suc j) h = some_at f xs j (omega (arith, h))

named_each_on : (o : ℤ) (n : ℕ) (p : Option Array) (t : Track) → places_on t ≡ named_on o n p → NamesEach t
named_each_on o n None t e = λ j below. subst (λ (xs : List (Option ℤ)). (z : ℤ) × (get_or xs j None ≡ Some z)) (sym e) (some_at (λ i. pos i) (upward 0 n) j (subst (λ (xs : List (Option ℤ)). j < length xs) e below))
named_each_on o n (Some a) t e = λ j below. subst (λ (xs : List (Option ℤ)). (z : ℤ) × (get_or xs j None ≡ Some z)) (sym e) (some_at (λ v. v -ℤ o) a.cells j (subst (λ (xs : List (Option ℤ)). j < length xs) e below))

each_cons : (t : Track) (ts : List Track) → NamesEach t → All NamesEach ts → All NamesEach (t ∷ ts)
each_cons t ts h rest zero d below = h
each_cons t ts h rest (suc k) d below = rest k d (omega (arith, below))

-- positions name a place at each number
pub named_each : (o : ℤ) (ns : List ℕ) (ps : List (Option Array)) (tracks : List Track) → map places_on tracks ≡ named_along o ns ps → All NamesEach tracks
named_each o ns ps [] e = λ k d below. absurd (omega (arith, below))
named_each o [] ps (t ∷ ts) e = absurd cc
named_each o (n ∷ ns) [] (t ∷ ts) e = absurd cc
named_each o (n ∷ ns) (p ∷ ps) (t ∷ ts) e =
    let here : places_on t ≡ named_on o n p = cc in
    let rest : map places_on ts ≡ named_along o ns ps = cc in
    each_cons t ts (named_each_on o n p t here) (named_each o ns ps ts rest)

-- ---- where the walk begins

pub start_reached : (s : StoreView) (key : ℕ) (d : DescView) → IsWhole d.shape d → holders_of s key ≡ 1 → length (cells_of s key) ≡ size_of d.shape → CanReach s key d 0 d.base
start_reached s key d whole alone fills = λ is index.
    let place : number d is ≡ pos (place_at d.shape is) = whole.places is index in
    let below : place_at d.shape is < size_of d.shape = place_at-below d.shape is index in
    record {
      number = whole.lawful.numbers is index;
      cell = (omega (arith, alone), omega (arith, ints, place), omega (arith, ints, place, below, fills));
    }

-- ---- how many there are

-- of the shape selected, and the elements of the array are some where places are selected
pub selected_size : (s : StoreView) (o : ℤ) (a b : Array) (positions : List (Option Leaf)) (ns : List ℕ) (tracks : List Track) → CanReplace o a (positions_of s positions) b ns → map places_on tracks ≡ named_along o a.shape (positions_of s positions) → places_in tracks ≡ size_of ns
selected_size s o a b positions ns tracks can are =
    ap (λ (xs : List (List (Option ℤ))). size_of (lengths_on xs)) are
    ∙ size-named o a.shape (positions_of s positions) (sym can.count) (positions-filled s positions)
    ∙ ap size_of (sym can.selected)

pub array_some : (s : StoreView) (o : ℤ) (a b : Array) (positions : List (Option Leaf)) (ns : List ℕ) → CanReplace o a (positions_of s positions) b ns → 0 < size_of ns → 0 < size_of a.shape
array_some s o a b positions ns can some =
    positions_some o a.shape (positions_of s positions) (sym can.count) (positions-filled s positions) can.on_axes (subst (λ (ms : List ℕ). 0 < size_of ms) can.selected some)

pub value_size : (b : Array) (ns : List ℕ) (tracks : List Track) → FitsSelected b ns → places_in tracks ≡ size_of ns → (size_of b.shape ≡ 1) ⊎ (size_of b.shape ≡ places_in tracks)
value_size b ns tracks (inl one) e = inl (eqb-true (size_of b.shape) 1 one)
value_size b ns tracks (inr same) e = inr (ap size_of same.1 ∙ sym e)

value_some : (b : Array) (ns : List ℕ) → FitsSelected b ns → 0 < size_of ns → 0 < size_of b.shape
value_some b ns (inl one) h = omega (arith, eqb-true (size_of b.shape) 1 one)
value_some b ns (inr same) h = subst (λ (ms : List ℕ). 0 < size_of ms) (sym same.1) h

-- ---- kinds

not_none : (n : ℕ) → 0 < n → (n == 0) ≡ false
not_none n h = ne_eqb n 0 (λ e. omega (arith, h, e))

kinds_are : (k l : Kind) (t u : Bool) → t ≡ false → u ≡ false → not t && not u && not (is_same_kind k l) ≡ false → l ≡ k
kinds_are k l true u none some h = absurd cc
kinds_are k l false true none some h = absurd cc
kinds_are Num Num false false none some h = refl
kinds_are Char Char false false none some h = refl
kinds_are Num Char false false none some h = absurd cc
kinds_are Char Num false false none some h = absurd cc

pub same_kind : (s : StoreView) (o : ℤ) (a b : Array) (positions : List (Option Leaf)) (ns : List ℕ) → CanReplace o a (positions_of s positions) b ns → 0 < size_of ns → b.kind ≡ a.kind
same_kind s o a b positions ns can some =
    kinds_are a.kind b.kind (size_of a.shape == 0) (size_of b.shape == 0)
    (not_none (size_of a.shape) (array_some s o a b positions ns can some)) (not_none (size_of b.shape) (value_some b ns can.fits some)) can.kinds

-- ---- what is written

pub selected_written : (s : StoreView) (key : ℕ) (d : DescView) (o : ℤ) (b : Array) (positions : List (Option Leaf)) (ns : List ℕ) (tracks : List Track) (cells : List ℤ)
    → IsWhole d.shape d → CanReplace o (owner_array s key d.shape) (positions_of s positions) b ns → map places_on tracks ≡ named_along o d.shape (positions_of s positions) → length b.cells ≡ size_of b.shape
    → written (value_by b.cells) 0 (places_by d.strides tracks d.base) cells ≡ replaced o (owner_array s key d.shape) (positions_of s positions) b (indices ns) cells
selected_written s key d o b positions ns tracks cells whole can are many =
    let a : Array = owner_array s key d.shape in
    let ps : List (Option Array) = positions_of s positions in
    let places : places_by d.strides tracks d.base ≡ map (place_for o a ps) (indices ns) =
    ap (λ (xs : List (List (Option ℤ))). picked (λ z. z) (pos 0) d.strides xs d.base) are
    ∙ picked-named (λ z. z) (pos 0) o d.shape ps d.strides d.base (λ is. pos (place_at d.shape is)) whole.lawful.strides (sym can.count) (positions-filled s positions) can.on_axes (λ is index. whole.places is index)
    ∙ ap (λ (ms : List ℕ). map (place_for o a ps) (indices ms)) (sym can.selected) in
    ap (λ (zs : List ℤ). written (value_by b.cells) 0 zs cells) places
    ∙ sym (replaced_is o a b ps ns cells many can.fits)

-- ---- a store that only counted

pub cells_counted : (s t : StoreView) (key : ℕ) → OnlyCounted s t → cells_of t key ≡ cells_of s key
cells_counted s t key only = ap (λ (x : StoreView). cells_of x key) only

pub kind_counted : (s t : StoreView) (key : ℕ) → OnlyCounted s t → kind_of t key ≡ kind_of s key
kind_counted s t key only = ap (λ (x : StoreView). kind_of x key) only

pub holders_counted : (s t : StoreView) (key : ℕ) → OnlyCounted s t → holders_of t key ≡ holders_of s key
holders_counted s t key only = ap (λ (x : StoreView). holders_of x key) only

-- ---- the whole

pub selected_all : (s t u : StoreView) (key : ℕ) (d : DescView) (o : ℤ) (value : Leaf) (positions : List (Option Leaf)) (ns : List ℕ) (tracks all : List Track) → OnlyCounted s t → IsWhole d.shape d
    → CanReplace o (owner_array s key d.shape) (positions_of s positions) (array_of s value) ns → map places_on tracks ≡ named_along o d.shape (positions_of s positions) → all ≡ tracks
    → WritesCells t u key (written (value_by (array_of t value).cells) 0 (places_by d.strides all d.base) (cells_of t key))
    → WritesCells s u key (replaced o (owner_array s key d.shape) (positions_of s positions) (array_of s value) (indices ns) (cells_of s key))
selected_all s t u key d o value positions ns tracks all only whole can are same w =
    let b : Array = array_of s value in
    writes_same s u key _ _ (counted_writes s t u key _ only w)
    (ap (λ (x : Array). written (value_by x.cells) 0 (places_by d.strides all d.base) (cells_of t key)) (array_of-counted s t value only)
    ∙ ap (λ (ts : List Track). written (value_by b.cells) 0 (places_by d.strides ts d.base) (cells_of t key)) same
    ∙ ap (λ (zs : List ℤ). written (value_by b.cells) 0 (places_by d.strides tracks d.base) zs) (cells_counted s t key only)
    ∙ selected_written s key d o b positions ns tracks (cells_of s key) whole can are (tabulated-count (leaf_kind value) (leaf_shape value) (leaf_cell s value)))

-- values that are there for all places
pub has_all : (values : List ℤ) (size count : ℕ) → length values ≡ size → size ≢ 1 → (size ≡ 1) ⊎ (size ≡ count) → HasValues values 0 count
has_all values size count long many (inl one) = absurd (many one)
has_all values size count long many (inr same) = inr (omega (arith, long, same))

-- a store from which cells were read
pub only_read : (old new : StoreView) (leaf : Leaf) (n : ℕ) → AreRead old new leaf n → OnlyCounted old new
only_read old new (Stored owner desc kind) n e = subst (λ (x : StoreView). x ≡ record old { counts = x.counts }) (sym e) refl
only_read old new (Gen desc kind) n e = subst (λ (x : StoreView). x ≡ record old { counts = x.counts }) (sym e) refl
