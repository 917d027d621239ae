-- Positions among the entries.
use Rattle.std.proofs.Common.{◌≡◌, ℕ, suc, ◌+◌, ◌-◌, ◌<◌, ◌≤◌, Bool, true, false, inl, inr, List, [], ◌∷◌, ◌++◌, length, map, take, drop, get_or, Option, Some, None, refl, sym, ap, subst, ◌∙◌, arith, append_assoc, add-one}
use Rattle.std.proofs.lemmas.List.{append-nil, map-append, length-append, length-map, length-take-le, take-append-drop, reverse-append, length-reverse}
use Rattle.std.proofs.lemmas.List.Sums.{sum_by-take-le, count_by_more_no, count_by_more_yes}
use Rattle.std.proofs.Math.Seq.{take-suc, take-length}
use Rattle.std.specs.Prelude.{reverse, slice_get, All, IfSome}
use Rattle.std.proofs.lemmas.Bool.{cases_lt}
use Rattle.std.proofs.lemmas.Option.{slice_get_within}
use Rattle.std.specs.List.{AllByRecursion, AllZip}
use Rattle.apl_base.specs.Array.{Array}
use Rattle.array_store.specs.Stores.{StoreView}
use Rattle.drag_along.specs.declared.leaves.Leaf.{Leaf}
use Rattle.drag_along.specs.Nodes.{functions_in}
use Rattle.drag_along.specs.Segments.{SegmentView, IsSegment}
use Rattle.drag_along.specs.Meaning.{Meaning, Means, entry}
use Rattle.drag_along.specs.Lawful.{IsLawful, IsLawfulLeaf}
use Rattle.drag_along.specs.Views.{only_leaf}
use Rattle.drag_along.proofs.OneLeafLemmas.{one_leaf_segment, one_leaf_means, one_leaf_lawful}
use Rattle.value_stack.specs.Stacks.{entries, IsLawfulStack}
use Rattle.leaf_names.specs.Variables.{array_of}
use Rattle.made_leaf.proofs.MadeLemmas.{all_places}
use Rattle.pending_steps.specs.declared.halts.Halt.{Halt}
use Rattle.pending_steps.specs.Shapes.{AreFewer}
use Rattle.pending_steps.specs.Steps.{IsNotComputed}
use Rattle.pending_steps.proofs.FewerLemmas.{none_stays}
use Rattle.pending_steps.proofs.StepLemmas.{lawful_parts}
use Rattle.indexing_steps.specs.Operands.{positions_in, spread, AreComputed, IsLeafEntry, ArePositions, arrays_of, AreOperands}
use Rattle.indexing_steps.proofs.MaskLemmas.{spread-no, spread-yes, spread-map, spread-all}
use Rattle.indexing_steps.proofs.FallLemmas.{HasNewest, has_newest}
use Rattle.value_stack.proofs.NewestLemmas.{get-behind}
use Rattle.drag_along.proofs.FirstLemmas.{leaf_alone}

-- ---- an entry without functions is a leaf

pub is_leaf : (s : SegmentView) → IsSegment s → functions_in s.nodes ≡ 0 → only_leaf s.nodes ≡ None → ⊥
is_leaf s h f none = leaf_alone s.nodes f h.whole none

-- ---- the positions are read

all_push : {A B : Type 0} (R : A → B → Type 0) (xs : List A) (ys : List B) (x : A) (y : B) → AllZip R xs ys → R x y → AllZip R (xs ++ x ∷ []) (ys ++ y ∷ [])
all_push R [] [] x y h r = (r, tt)
all_push R [] (z ∷ ys) x y h r = elim h [ ]
all_push R (z ∷ xs) [] x y h r = elim h [ ]
all_push R (z ∷ xs) (w ∷ ys) x y h r = (h.0, all_push R xs ys x y h.1 r)

pub all_long : {A B : Type 0} (R : A → B → Type 0) (xs : List A) (ys : List B) → AllZip R xs ys → length xs ≡ length ys
all_long R [] [] h = refl
all_long R [] (z ∷ ys) h = elim h [ ]
all_long R (z ∷ xs) [] h = elim h [ ]
all_long R (z ∷ xs) (w ∷ ys) h = ap suc (all_long R xs ys h.1)

-- the first k of the mask's positions are read, and the next one that is there is the entry below number `at`
pub record AreRead (mask : List Bool) (k : ℕ) (stack : List SegmentView) (end at : ℕ) (leaves : List (Option Leaf)) : Type 0 where
  pub there : List Leaf
  pub number : length there ≡ positions_in (take k mask)
  pub positions : leaves ≡ spread (take k mask) there
  pub older : List SegmentView
  pub segments : List SegmentView
  pub younger : List SegmentView
  pub whole : stack ≡ (older ++ reverse segments) ++ younger
  pub place : length older ≡ at
  pub end_is : at + positions_in (take k mask) ≡ end
  pub are : AllZip IsLeafEntry segments there

pub none_read : (mask : List Bool) (stack : List SegmentView) (end : ℕ) (leaves : List (Option Leaf)) → end ≤ length stack → leaves ≡ [] → AreRead mask 0 stack end end leaves
none_read mask stack end leaves low empty = record {
  there = [];
  number = refl;
  positions = empty;
  older = take end stack;
  segments = [];
  younger = drop end stack;
  whole = sym (take-append-drop end stack) ∙ ap (λ (xs : List SegmentView). xs ++ drop end stack) (sym (append-nil (take end stack)));
  place = length-take-le end stack low;
  end_is = omega arith;
  are = tt;
}

pub left_out_read : (mask : List Bool) (k : ℕ) (stack : List SegmentView) (end at : ℕ) (leaves after : List (Option Leaf)) → AreRead mask k stack end at leaves → k < length mask → get_or mask k false ≡ false → after ≡ leaves ++ None ∷ [] → AreRead mask (k + 1) stack end at after
left_out_read mask k stack end at leaves after r below out is =
    let more : take (k + 1) mask ≡ take k mask ++ false ∷ [] =
    rw add-one (take-suc mask k false below ∙ ap (λ (b : Bool). take k mask ++ b ∷ []) out) in
    let same : positions_in (take (k + 1) mask) ≡ positions_in (take k mask) = count_by_more_no (λ there. there) mask k false below out in
    record {
      there = r.there;
      number = r.number ∙ sym same;
      positions = is ∙ ap (λ (ps : List (Option Leaf)). ps ++ None ∷ []) r.positions ∙ sym (spread-no (take k mask) r.there) ∙ ap (λ (m : List Bool). spread m r.there) (sym more);
      older = r.older;
      segments = r.segments;
      younger = r.younger;
      whole = r.whole;
      place = r.place;
      end_is = omega (arith, r.end_is, same);
      are = r.are;
    }

pub there_read : (mask : List Bool) (k : ℕ) (stack : List SegmentView) (end at : ℕ) (leaves after : List (Option Leaf)) (leaf : Leaf) → AreRead mask k stack end at leaves → k < length mask → get_or mask k false ≡ true → positions_in mask ≤ end → ((s : SegmentView) → slice_get stack (at - 1) ≡ Some s → IsLeafEntry s leaf) → after ≡ leaves ++ Some leaf ∷ [] → AreRead mask (k + 1) stack end (at - 1) after
there_read mask k stack end at leaves after leaf r below in_there low one is =
    let more : take (k + 1) mask ≡ take k mask ++ true ∷ [] =
    rw add-one (take-suc mask k false below ∙ ap (λ (b : Bool). take k mask ++ b ∷ []) in_there) in
    let same : positions_in (take (k + 1) mask) ≡ positions_in (take k mask) + 1 = count_by_more_yes (λ there. there) mask k false below in_there in
    let most : positions_in (take (k + 1) mask) ≤ positions_in mask = sum_by-take-le _ mask (k + 1) in
    let some : 0 < length r.older = omega (arith, r.end_is, r.place, same, most) in
    let n : HasNewest r.older = has_newest r.older some in
    let long : length r.older ≡ length n.older + 1 = ap (λ (xs : List SegmentView). length xs) n.whole ∙ length-append n.older (n.newest ∷ []) in
    let split : stack ≡ n.older ++ n.newest ∷ (reverse r.segments ++ r.younger) =
    r.whole ∙ ap (λ (xs : List SegmentView). (xs ++ reverse r.segments) ++ r.younger) n.whole
    ∙ ap (λ (xs : List SegmentView). xs ++ r.younger) (append_assoc n.older (n.newest ∷ []) (reverse r.segments))
    ∙ append_assoc n.older (n.newest ∷ reverse r.segments) r.younger in
    let place : at - 1 ≡ length n.older = omega (arith, r.place, long) in
    let found : slice_get stack (at - 1) ≡ Some n.newest =
    ap (λ (i : ℕ). slice_get stack i) place ∙ ap (λ (xs : List SegmentView). slice_get xs (length n.older)) split
    ∙ get-behind n.older n.newest (reverse r.segments ++ r.younger) in
    record {
      there = r.there ++ leaf ∷ [];
      number = omega (arith, length-append r.there (leaf ∷ []), r.number, same);
      positions =
          is ∙ ap (λ (ps : List (Option Leaf)). ps ++ Some leaf ∷ []) r.positions ∙ sym (spread-yes (take k mask) r.there leaf r.number)
          ∙ ap (λ (m : List Bool). spread m (r.there ++ leaf ∷ [])) (sym more);
      older = n.older;
      segments = r.segments ++ n.newest ∷ [];
      younger = r.younger;
      whole =
          r.whole ∙ ap (λ (xs : List SegmentView). (xs ++ reverse r.segments) ++ r.younger) n.whole
          ∙ ap (λ (xs : List SegmentView). xs ++ r.younger) (append_assoc n.older (n.newest ∷ []) (reverse r.segments))
          ∙ ap (λ (xs : List SegmentView). (n.older ++ xs) ++ r.younger) (sym (reverse-append r.segments (n.newest ∷ [])));
      place = sym place;
      end_is = omega (arith, r.end_is, same, r.place, long);
      are = all_push IsLeafEntry r.segments r.there n.newest leaf r.are (one n.newest found);
    }

-- where one more is there, an entry is left for it, which is one of those that are computed
pub record IsLeft (mask : List Bool) (k end at : ℕ) : Type 0 where
  pub some : 0 < at
  pub low : end - positions_in mask ≤ at - 1
  pub high : at - 1 < end

pub one_left : (mask : List Bool) (k : ℕ) (stack : List SegmentView) (end at : ℕ) (leaves : List (Option Leaf)) → AreRead mask k stack end at leaves → k < length mask → get_or mask k false ≡ true → positions_in mask ≤ end → IsLeft mask k end at
one_left mask k stack end at leaves r below in_there low =
    let same : positions_in (take (k + 1) mask) ≡ positions_in (take k mask) + 1 = count_by_more_yes (λ there. there) mask k false below in_there in
    let most : positions_in (take (k + 1) mask) ≤ positions_in mask = sum_by-take-le _ mask (k + 1) in
    record { some = omega (arith, r.end_is, same, most); low = omega (arith, r.end_is, same, most); high = omega (arith, r.end_is, same) }

pub all_read : (mask : List Bool) (k : ℕ) (stack : List SegmentView) (end at : ℕ) (leaves : List (Option Leaf)) → AreRead mask k stack end at leaves → k ≡ length mask → ArePositions mask stack end leaves
all_read mask k stack end at leaves r done =
    let all : take k mask ≡ mask = ap (λ (n : ℕ). take n mask) done ∙ take-length mask in
    record {
      there = r.there;
      number = r.number ∙ ap positions_in all;
      positions = r.positions ∙ ap (λ (m : List Bool). spread m r.there) all;
      older = r.older;
      segments = r.segments;
      younger = r.younger;
      whole = r.whole;
      place = omega (arith, r.place, r.end_is, r.number, all_long IsLeafEntry r.segments r.there r.are);
      are = r.are;
    }

-- ---- what they mean

pub leaf_lawful : (store : StoreView) (s : SegmentView) (leaf : Leaf) → IsLeafEntry s leaf → IsLawful store s → IsLawfulLeaf store leaf
leaf_lawful store s leaf e l =
    ((one_leaf_lawful store leaf s.range).0 (subst (IsLawful store) (one_leaf_segment s leaf e.segment e.is) l)).0

pub there_lawful : (store : StoreView) (segments : List SegmentView) (there : List Leaf) → AllZip IsLeafEntry segments there → IsLawfulStack store segments → AllByRecursion (IsLawfulLeaf store) there
there_lawful store [] [] h l = tt
there_lawful store [] (leaf ∷ there) h l = elim h [ ]
there_lawful store (s ∷ segments) [] h l = elim h [ ]
there_lawful store (s ∷ segments) (leaf ∷ there) h l = (leaf_lawful store s leaf h.0 l.0, there_lawful store segments there h.1 l.1)

pub there_means : (store : StoreView) (segments : List SegmentView) (there : List Leaf) → AllZip IsLeafEntry segments there → entries store segments ≡ map (λ p. Means p) (map (array_of store) there)
there_means store [] [] h = refl
there_means store [] (leaf ∷ there) h = elim h [ ]
there_means store (s ∷ segments) [] h = elim h [ ]
there_means store (s ∷ segments) (leaf ∷ there) h =
    ap (λ (m : Meaning). m ∷ entries store segments) (one_leaf_means store s leaf h.0.segment h.0.is)
    ∙ ap (λ (ms : List Meaning). Means (array_of store leaf) ∷ ms) (there_means store segments there h.1)

pub map_reverse : {A B : Type 0} (f : A → B) (xs : List A) → map f (reverse xs) ≡ reverse (map f xs)
map_reverse f [] = refl
map_reverse {A} {B} f (x ∷ xs) =
    ap (map f) (reverse-append (x ∷ []) xs) ∙ map-append f (reverse xs) (x ∷ [])
    ∙ ap (λ (ys : List B). ys ++ f x ∷ []) (map_reverse f xs) ∙ sym (reverse-append (f x ∷ []) (map f xs))

pub lawful_reverse : (store : StoreView) (xs : List SegmentView) → IsLawfulStack store (reverse xs) → IsLawfulStack store xs
lawful_reverse store [] h = tt
lawful_reverse store (x ∷ xs) h =
    let two = lawful_parts store (reverse xs) (x ∷ []) (subst (IsLawfulStack store) (reverse-append (x ∷ []) xs) h) in
    (two.1.0, lawful_reverse store xs two.0)

pub positions_lawful : (store : StoreView) (mask : List Bool) (stack : List SegmentView) (end : ℕ) (leaves : List (Option Leaf)) → ArePositions mask stack end leaves → IsLawfulStack store stack → All (λ p. IfSome p (IsLawfulLeaf store)) leaves
positions_lawful store mask stack end leaves p l =
    let older_and = (lawful_parts store (p.older ++ reverse p.segments) p.younger (subst (IsLawfulStack store) p.whole l)).0 in
    let mine : IsLawfulStack store p.segments = lawful_reverse store p.segments (lawful_parts store p.older (reverse p.segments) older_and).1 in
    subst (All (λ q. IfSome q (IsLawfulLeaf store))) (sym p.positions)
    (all_places (λ q. IfSome q (IsLawfulLeaf store)) (spread mask p.there) (spread-all (IsLawfulLeaf store) mask p.there (there_lawful store p.segments p.there p.are mine)))

-- what stands above them, where that is one entry
one_more : (xs : List SegmentView) → length xs ≡ 1 → (s : SegmentView) × (xs ≡ s ∷ [])
one_more [] h = absurd (omega (arith, h))
one_more (s ∷ []) h = (s, refl)
one_more (s ∷ t ∷ xs) h = absurd (omega (arith, h))

-- the entries, and the positions among them
pub record AreAmong (store : StoreView) (mask : List Bool) (pending : List Meaning) (younger : List SegmentView) (ps : List (Option Array)) : Type 0 where
  pub there : List Array
  pub number : length there ≡ positions_in mask
  pub positions : ps ≡ spread mask there
  pub older : List Meaning
  pub are : pending ≡ (older ++ map (λ p. Means p) (reverse there)) ++ entries store younger

pub among : (store : StoreView) (mask : List Bool) (stack : List SegmentView) (end : ℕ) (leaves : List (Option Leaf)) → (p : ArePositions mask stack end leaves) → AreAmong store mask (entries store stack) p.younger (arrays_of store leaves)
among store mask stack end leaves p =
    let mean = λ (a : Array). Means a in record {
      there = map (array_of store) p.there;
      number = length-map p.there (array_of store) ∙ p.number;
      positions = ap (arrays_of store) p.positions ∙ sym (spread-map (array_of store) mask p.there);
      older = entries store p.older;
      are =
          ap (entries store) p.whole ∙ map-append (entry store) (p.older ++ reverse p.segments) p.younger
          ∙ ap (λ (ms : List Meaning). ms ++ entries store p.younger)
          (map-append (entry store) p.older (reverse p.segments)
          ∙ ap (λ (ms : List Meaning). entries store p.older ++ ms)
          (map_reverse (entry store) p.segments ∙ ap (λ (ms : List Meaning). reverse ms) (there_means store p.segments p.there p.are)
          ∙ sym (map_reverse mean (map (array_of store) p.there))));
    }

pub operands_are : (store : StoreView) (mask : List Bool) (stack : List SegmentView) (end : ℕ) (leaves : List (Option Leaf)) (s : SegmentView) (a : Array) → ArePositions mask stack end leaves → end + 1 ≡ length stack → slice_get stack end ≡ Some s → entry store s ≡ Means a → AreOperands mask (entries store stack) a (arrays_of store leaves)
operands_are store mask stack end leaves s a p long at e =
    let below : length (p.older ++ reverse p.segments) ≡ end = omega (arith, length-append p.older (reverse p.segments), length-reverse p.segments, p.place) in
    let above : length p.younger ≡ 1 =
    omega (arith, long, below, ap (λ (xs : List SegmentView). length xs) p.whole, length-append (p.older ++ reverse p.segments) p.younger) in
    let one = one_more p.younger above in
    let m : AreAmong store mask (entries store stack) p.younger (arrays_of store leaves) = among store mask stack end leaves p in
    let found : slice_get stack end ≡ Some one.0 =
    ap (λ (k : ℕ). slice_get stack k) (sym below)
    ∙ ap (λ (xs : List SegmentView). slice_get xs (length (p.older ++ reverse p.segments))) (p.whole ∙ ap (λ (ys : List SegmentView). (p.older ++ reverse p.segments) ++ ys) one.1)
    ∙ get-behind (p.older ++ reverse p.segments) one.0 [] in
    let same : one.0 ≡ s = cc in
    record {
      there = m.there;
      number = m.number;
      positions = m.positions;
      older = m.older;
      are =
          m.are ∙ ap (λ (ys : List SegmentView). (m.older ++ map (λ p. Means p) (reverse m.there)) ++ entries store ys) one.1
          ∙ ap (λ (x : Meaning). (m.older ++ map (λ p. Means p) (reverse m.there)) ++ x ∷ []) (ap (entry store) same ∙ e);
    }

-- ---- entries that are computed, one after the other

pub computed_none : (stack : List SegmentView) (first : ℕ) → AreComputed stack first first
computed_none stack first k s low high g = absurd (omega (arith, low, high))

pub computed_more : (before after : List SegmentView) (first at : ℕ) → AreComputed before first at → AreFewer before after → length after ≡ length before → ((s : SegmentView) → slice_get after at ≡ Some s → functions_in s.nodes ≡ 0) → AreComputed after first (at + 1)
computed_more before after first at h fewer long one k s low high g = elim (cases_lt k at) [
  | inl less ↦ none_stays before after k s fewer (omega (arith, slice_get_within after k s g, long)) (λ b f. h k b low less f) g
  | inr most ↦
      let same : k ≡ at = omega (arith, most, high) in
      one s (ap (λ (i : ℕ). slice_get after i) (sym same) ∙ g)
]

-- they stay so
pub computed_stays : (before after : List SegmentView) (first end : ℕ) → AreComputed before first end → AreFewer before after → length after ≡ length before → AreComputed after first end
computed_stays before after first end h fewer long k s low high g =
    none_stays before after k s fewer (omega (arith, slice_get_within after k s g, long)) (λ b f. h k b low high f) g

-- why an entry is not computed, said of the entries before
pub halted_back : (old s : StoreView) (before stack : List SegmentView) (why : Halt) → entries s stack ≡ entries old before → s.limit ≡ old.limit → IsNotComputed s.limit (entries s stack) why → IsNotComputed old.limit (entries old before) why
halted_back old s before stack why means limit h =
    subst (λ (ms : List Meaning). IsNotComputed old.limit ms why) means (subst (λ (n : ℕ). IsNotComputed n (entries s stack) why) limit h)
