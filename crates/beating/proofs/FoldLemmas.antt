-- What a segment of one leaf of numbers means, and what a function of one or two of them means.
use Rattle.std.proofs.Common.{◌≡◌, ℕ, zero, suc, ◌+◌, ◌<◌, ◌≤◌, Bool, true, false, IsTrue, ◌⊎◌, inl, inr, ℤ, negsuc, neg_ℤ, ◌*ℤ◌, List, [], ◌∷◌, map, Option, Some, None, if◌then◌else◌, refl, sym, ap, subst, ◌∙◌, arith}
use Rattle.std.specs.Option.{option_map}
use Rattle.std.specs.List.{zip}
use Rattle.std.proofs.lemmas.Int.{ints}
use Rattle.apl_base.specs.declared.cells.Elem.{Elem}
use Rattle.apl_base.specs.declared.cells.Kind.{Kind}
use Rattle.apl_base.specs.declared.cells.Kind.TheVariants.{Num, Char}
use Rattle.apl_base.specs.declared.cells.Interval.{Interval}
use Rattle.apl_base.specs.declared.cells.Interval.TheVariants.{Empty, Span}
use Rattle.apl_base.specs.declared.faults.Place.{Place}
use Rattle.apl_base.specs.declared.rows.Mon.{Mon}
use Rattle.apl_base.specs.declared.rows.Mon.TheVariants.{Minus}
use Rattle.apl_base.specs.declared.rows.Dya.{Dya}
use Rattle.apl_base.specs.Array.{IsIndex, size_of, index_at}
use Rattle.apl_base.specs.Number.{IsNumber, is_number}
use Rattle.apl_base.specs.Interval.{InInterval}
use Rattle.apl_base.specs.Elements.{all_defined}
use Rattle.apl_base.specs.Scalar.{in_range, scalar1, scalar2, number as element}
use Rattle.apl_base.specs.Selection.{upward}
use Rattle.apl_base.proofs.Sizes.{IsIndex-index_at}
use Rattle.apl_base.proofs.Elements.{all_defined-cons}
use Rattle.array_desc.specs.Desc.{DescView, IsDesc, number}
use Rattle.array_store.specs.Stores.{StoreView}
use Rattle.value_range.specs.declared.sides.Side.{Side}
use Rattle.value_range.specs.declared.sides.Ranged.{Ranged}
use Rattle.value_range.specs.Interval.{ranged1, ranged2}
use Rattle.value_range.specs.Sound.{IsMember, GivesWithin, IsSound2}
use Rattle.value_range.specs.Laws.Tests.{number_test, in_range-number}
use Rattle.drag_along.specs.declared.leaves.Leaf.{Leaf}
use Rattle.drag_along.specs.declared.leaves.Leaf.TheVariants.{Stored, Gen}
use Rattle.drag_along.specs.declared.nodes.Node.{Node}
use Rattle.drag_along.specs.declared.nodes.Node.TheVariants.{Operand, One, Two}
use Rattle.drag_along.specs.Nodes.{AllLeaves, kind_of_nodes}
use Rattle.drag_along.specs.Segments.{SegmentView, IsSegment, HasShape, side_of, leaf_segment}
use Rattle.drag_along.specs.Meaning.{Meaning, Means, pending, numbers_or, applied1, applied2, combined1, combined2, leaf_array, after_nodes, newest, entry}
use Rattle.drag_along.specs.Lawful.{LeafWithin, IsLawful}
use Rattle.drag_along.specs.Views.{only_numbers, only_leaf}
use Rattle.drag_along.proofs.OneLeafLemmas.{one_leaf_segment, one_leaf_lawful}
use Rattle.beating.specs.Folds.{AllRest, Keeps, exact_value, CanCombine, Combines, NumbersInRange, FoldsTo}

-- ---- a segment that is one leaf of numbers

pub record IsLine (s : SegmentView) (d : DescView) : Type 0 where
  pub nodes : s.nodes ≡ Operand (Gen d Num) ∷ []
  pub lawful : IsDesc d
  pub shape : d.shape ≡ s.shape
  pub kind : s.kind ≡ Num

nodes_are : (nodes : List Node) (d : DescView) → only_numbers nodes ≡ Some d → nodes ≡ Operand (Gen d Num) ∷ []
nodes_are [] d e = absurd (cc)
nodes_are (Operand (Gen desc Num) ∷ []) d e = let f : desc ≡ d = cc in ap (λ (x : DescView). let ns : List Node = Operand (Gen x Num) ∷ [] in ns) f
nodes_are (Operand (Gen desc Num) ∷ x ∷ xs) d e = absurd (cc)
nodes_are (Operand (Gen desc Char) ∷ []) d e = absurd (cc)
nodes_are (Operand (Gen desc Char) ∷ x ∷ xs) d e = absurd (cc)
nodes_are (Operand (Stored owner desc kind) ∷ []) d e = absurd (cc)
nodes_are (Operand (Stored owner desc kind) ∷ x ∷ xs) d e = absurd (cc)
nodes_are (One f p ∷ xs) d e = absurd (cc)
nodes_are (Two f p ∷ xs) d e = absurd (cc)

pub found_line : (s : SegmentView) (d : DescView) → only_numbers s.nodes ≡ Some d → IsSegment s → IsLine s d
found_line s d e seg =
    let nodes = nodes_are s.nodes d e in
    let leaf : HasShape s.shape (Gen d Num) = (subst (AllLeaves (HasShape s.shape)) nodes seg.leaves).0 in
    record {
      nodes = nodes;
      lawful = leaf.desc;
      shape = leaf.same;
      kind = seg.kind ∙ ap kind_of_nodes nodes;
    }

-- its numbers lie in the range, where it is lawful over a store
pub numbers_in_range : (store : StoreView) (s : SegmentView) → IsSegment s → IsLawful store s → NumbersInRange s
numbers_in_range store s seg lawful = λ d found.
    let one : s ≡ leaf_segment (Gen d Num) s.range = one_leaf_segment s (Gen d Num) seg (ap only_leaf (nodes_are s.nodes d found)) in
    ((one_leaf_lawful store (Gen d Num) s.range).0 (subst (IsLawful store) one lawful)).1

-- it means the array of the descriptor's numbers
line_means : (store : StoreView) (s : SegmentView) (d : DescView) → IsLine s d → entry store s ≡ Means (leaf_array store s.shape (Gen d Num))
unfolding entry
line_means store s d h = ap (λ (ns : List Node). newest (after_nodes store s.shape ns (pending []))) h.nodes

-- ---- a function at each place of a list

cells_back : (xs : List ℤ) → map (λ e. e.cell) (map element xs) ≡ xs
cells_back [] = refl
cells_back (x ∷ xs) = ap (λ (ys : List ℤ). x ∷ ys) (cells_back xs)

all1 : (f : Elem → Option Elem) (g k : ℕ → ℤ) (from n : ℕ) → ((p : ℕ) → from ≤ p → p < from + n → f (element (g p)) ≡ Some (element (k p))) → all_defined (map f (map element (map g (upward from n)))) ≡ Some (map element (map k (upward from n)))
all1 f g k from zero h = refl
all1 f g k from (suc n) h =
    all_defined-cons (f (element (g from))) (map f (map element (map g (upward (suc from) n)))) (element (k from)) (map element (map k (upward (suc from) n))) (h from (omega arith) (omega arith))
    (all1 f g k (suc from) n (λ p low high. h p (omega arith) (omega arith)))

all2 : (f : Elem → Elem → Option Elem) (g h k : ℕ → ℤ) (from n : ℕ) → ((p : ℕ) → from ≤ p → p < from + n → f (element (g p)) (element (h p)) ≡ Some (element (k p))) → all_defined (map (λ q. f q.0 q.1) (zip (map element (map g (upward from n))) (map element (map h (upward from n))))) ≡ Some (map element (map k (upward from n)))
all2 f g h k from zero e = refl
all2 f g h k from (suc n) e =
    all_defined-cons (f (element (g from)) (element (h from))) (map (λ (q : Elem × Elem). f q.0 q.1) (zip (map element (map g (upward (suc from) n))) (map element (map h (upward (suc from) n))))) (element (k from)) (map element (map k (upward (suc from) n))) (e from (omega arith) (omega arith))
    (all2 f g h k (suc from) n (λ p low high. e p (omega arith) (omega arith)))

-- the numbers of a descriptor, place by place
abbrev at : List ℕ → DescView → ℕ → ℤ
at sh d p = number d (index_at sh p)

array_of : (place : Place) (sh : List ℕ) (o : Option (List Elem)) (xs : List ℤ) → o ≡ Some (map element xs) → numbers_or place sh o ≡ Means (record { kind = Num; shape = sh; cells = xs })
array_of place sh o xs e =
    ap (numbers_or place sh) e ∙ ap (λ (cs : List ℤ). Means (record { kind = Num; shape = sh; cells = cs })) (cells_back xs)

applied_to_one : (f : Mon) (place : Place) (store : StoreView) (sh : List ℕ) (d new : DescView) → ((i : List ℕ) → IsIndex sh i → scalar1 f (element (number d i)) ≡ Some (element (number new i))) → Means (leaf_array store sh (Gen new Num)) ≡ applied1 f place (leaf_array store sh (Gen d Num))
applied_to_one f place store sh d new h =
    sym (array_of place sh _ (map (at sh new) (upward 0 (size_of sh)))
    (all1 (scalar1 f) (at sh d) (at sh new) 0 (size_of sh) (λ p low high. h (index_at sh p) (IsIndex-index_at sh p (omega arith)))))

applied_to_two : (f : Dya) (place : Place) (store : StoreView) (sh sh' : List ℕ) (a b new : DescView) → sh' ≡ sh → ((i : List ℕ) → IsIndex sh i → scalar2 f (element (number a i)) (element (number b i)) ≡ Some (element (number new i))) → Means (leaf_array store sh (Gen new Num)) ≡ applied2 f place (leaf_array store sh' (Gen a Num)) (leaf_array store sh (Gen b Num))
applied_to_two f place store sh sh' a b new e h =
    sym (array_of place sh _ (map (at sh new) (upward 0 (size_of sh)))
    (all2 (scalar2 f) (at sh a) (at sh b) (at sh new) 0 (size_of sh) (λ p low high. h (index_at sh p) (IsIndex-index_at sh p (omega arith)))))
    ∙ ap (λ (ns : List ℕ). applied2 f place (leaf_array store ns (Gen a Num)) (leaf_array store sh (Gen b Num))) (sym e)

-- ---- `- B`

minus_at : (x y : ℤ) → y ≡ x *ℤ negsuc 0 → scalar1 Minus (element x) ≡ Some (element y)
minus_at x y e = let f : neg_ℤ x ≡ y = omega (arith, ints, e) in ap (λ (z : ℤ). Some (element z)) f

pub minus_folds : (f : Mon) (place : Place) (s : SegmentView) (d new : DescView) (leaf : Leaf) → f ≡ Minus → IsLine s d → IsDesc new → new.shape ≡ d.shape → ((i : List ℕ) → IsIndex d.shape i → number new i ≡ number d i *ℤ negsuc 0) → leaf ≡ Gen new Num → FoldsTo s.shape leaf (λ store. combined1 f place (entry store s))
minus_folds f place s d new leaf e line lawful shape numbers is =
    let Q : List ℕ → List ℕ → Type 0 = λ i ns. IsIndex ns i in
    record {
      desc = new;
      is = is;
      shape = subst (HasShape s.shape) (sym is) (record { desc = lawful; same = shape ∙ line.shape });
      means = λ store.
          ap (λ (l : Leaf). Means (leaf_array store s.shape l)) is
          ∙ applied_to_one Minus place store s.shape d new (λ i q. minus_at (number d i) (number new i) (numbers i (subst (Q i) (sym line.shape) q)))
          ∙ ap (combined1 Minus place) (sym (line_means store s d line))
          ∙ ap (λ (g : Mon). combined1 g place (entry store s)) (sym e);
    }

-- where the numbers of B lie in its range, those of `- B` lie in the rule's
minus_in : (r : Interval) (x y : ℤ) → y ≡ x *ℤ negsuc 0 → InInterval r x → InInterval (ranged1 Minus (record { kind = Num; interval = r })).range y
minus_in Empty x y e h = absurd h
minus_in (Span lo hi) x y e h = (omega (arith, ints, e, h.1), omega (arith, ints, e, h.0))

pub minus_within : (f : Mon) (s : SegmentView) (d new : DescView) (leaf : Leaf) → f ≡ Minus → only_numbers s.nodes ≡ Some d → IsLine s d → new.shape ≡ d.shape → ((i : List ℕ) → IsIndex d.shape i → number new i ≡ number d i *ℤ negsuc 0) → leaf ≡ Gen new Num → NumbersInRange s → (store : StoreView) → LeafWithin store leaf (ranged1 f (side_of s)).range
minus_within f s d new leaf e found line shape numbers is inside store =
    let Q : List ℕ → List ℕ → Type 0 = λ i ns. IsIndex ns i in
    let side : side_of s ≡ record { kind = Num; interval = s.range } = ap (λ (k : Kind). let x : Side = record { kind = k; interval = s.range } in x) line.kind in
    let rule : ranged1 f (side_of s) ≡ ranged1 Minus (record { kind = Num; interval = s.range }) = ap (λ (g : Mon). ranged1 g (side_of s)) e ∙ ap (ranged1 Minus) side in
    let each : LeafWithin store (Gen new Num) (ranged1 Minus (record { kind = Num; interval = s.range })).range = λ i q.
    let p = subst (Q i) shape q in minus_in s.range (number d i) (number new i) (numbers i p) (inside d found i p) in
    subst (λ (l : Leaf). LeafWithin store l (ranged1 f (side_of s)).range) (sym is)
    (subst (λ (r : Ranged). LeafWithin store (Gen new Num) r.range) (sym rule) each)

-- ---- `A f B`

-- a function that keeps progressions is its operation, where that gives a number
kept_value : (f : Dya) (x y : ℤ) → Keeps f → scalar2 f (element x) (element y) ≡ option_map element (in_range (exact_value f x y))
kept_value f x y keeps =
    let P : Dya → Type 0 = λ g. scalar2 g (element x) (element y) ≡ option_map element (in_range (exact_value g x y)) in
    elim keeps [ inl e ↦ subst P (sym e) refl | inr rest ↦ elim rest [ inl e ↦ subst P (sym e) refl | inr e ↦ subst P (sym e) refl ] ]

defined_number : (z : ℤ) (v : Elem) → option_map element (in_range z) ≡ Some v → IsNumber z
defined_number z v e = by (is_number z) refl
  where
    by : (t : Bool) → is_number z ≡ t → IsNumber z
    by true f = number_test z f
    by false f =
        let g : option_map element (in_range z) ≡ None = ap (λ (t : Bool). option_map element (if t then Some z else None)) f in
        absurd (let h : Some v ≡ None = sym e ∙ g in cc)

-- the numbers of a line are elements of its side
in_side : (s : SegmentView) (d : DescView) → only_numbers s.nodes ≡ Some d → IsLine s d → NumbersInRange s → (i : List ℕ) → IsIndex d.shape i → IsMember (side_of s) (element (number d i))
in_side s d found line inside i q =
    record { kind = sym line.kind; cell = inside d found i q }

-- where a function is safe, its operation gives numbers
pub can_combine : (f : Dya) (left right : SegmentView) (a b : DescView) (one other_side : Side) (answer : Ranged) → only_numbers left.nodes ≡ Some a → only_numbers right.nodes ≡ Some b → IsSegment left → IsSegment right → left.shape ≡ right.shape → NumbersInRange left → NumbersInRange right → (AllRest a.strides ⊎ AllRest b.strides) → one ≡ side_of left → other_side ≡ side_of right → IsSound2 (scalar2 f) one other_side answer → IsTrue answer.safe → Keeps f → CanCombine (exact_value f) a b
can_combine f left right a b one other_side answer found other seg seg' same inside inside' rests is_left is_right sound safe keeps =
    let line = found_line left a found seg in
    let line' = found_line right b other seg' in
    let shape = line.shape ∙ same ∙ sym line'.shape in
    let Q : List ℕ → List ℕ → Type 0 = λ i ns. IsIndex ns i in
    record {
      left_lawful = line.lawful;
      right_lawful = line'.lawful;
      shape = shape;
      constant = rests;
      numbers = λ i q.
          let given = sound safe (element (number a i)) (element (number b i))
          (subst (λ (s : Side). IsMember s (element (number a i))) (sym is_left) (in_side left a found line inside i (subst (Q i) (sym shape) q)))
          (subst (λ (s : Side). IsMember s (element (number b i))) (sym is_right) (in_side right b other line' inside' i q)) in
          defined_number (exact_value f (number a i) (number b i)) given.0 (sym (kept_value f (number a i) (number b i) keeps) ∙ given.1);
    }

-- so at each index the function has the new descriptor's number
pair_value : (f : Dya) (left right : SegmentView) (a b new : DescView) → IsLine right b → Keeps f → Combines (exact_value f) a b new → (i : List ℕ) → IsIndex right.shape i → scalar2 f (element (number a i)) (element (number b i)) ≡ Some (element (number new i))
pair_value f left right a b new line keeps made i q =
    let Q : List ℕ → List ℕ → Type 0 = λ i ns. IsIndex ns i in
    let p = subst (Q i) (sym line.shape) q in
    let is_number : IsNumber (exact_value f (number a i) (number b i)) =
    subst IsNumber (made.numbers i p) (made.lawful.numbers i (subst (Q i) (sym made.shape) p)) in
    kept_value f (number a i) (number b i) keeps
    ∙ ap (option_map element) (in_range-number (exact_value f (number a i) (number b i)) is_number)
    ∙ ap (λ (z : ℤ). Some (element z)) (sym (made.numbers i p))

-- which the rule's range has
cell_within : (range : Interval) (o : Option Elem) (z : ℤ) → o ≡ Some (element z) → GivesWithin range o → InInterval range z
cell_within range o z e given =
    let same : given.0 ≡ element z = (let both : Some given.0 ≡ Some (element z) = sym given.1 ∙ e in cc) in
    subst (λ (v : Elem). InInterval range v.cell) same given.2.cell

pub pair_within : (f : Dya) (left right : SegmentView) (a b new : DescView) (one other_side : Side) (answer : Ranged) (leaf : Leaf) → only_numbers left.nodes ≡ Some a → only_numbers right.nodes ≡ Some b → IsSegment left → IsSegment right → left.shape ≡ right.shape → NumbersInRange left → NumbersInRange right → one ≡ side_of left → other_side ≡ side_of right → answer ≡ ranged2 f one other_side → IsSound2 (scalar2 f) one other_side answer → IsTrue answer.safe → Keeps f → Combines (exact_value f) a b new → leaf ≡ Gen new Num → (store : StoreView) → LeafWithin store leaf (ranged2 f (side_of left) (side_of right)).range
pair_within f left right a b new one other_side answer leaf found other seg seg' same inside inside' is_left is_right exact sound safe keeps made is store =
    let line = found_line left a found seg in
    let line' = found_line right b other seg' in
    let Q : List ℕ → List ℕ → Type 0 = λ i ns. IsIndex ns i in
    let each : LeafWithin store (Gen new Num) answer.range = λ i q.
    let p : IsIndex right.shape i = subst (Q i) (made.shape ∙ line'.shape) q in
    cell_within answer.range (scalar2 f (element (number a i)) (element (number b i))) (number new i) (pair_value f left right a b new line' keeps made i p)
    (sound safe (element (number a i)) (element (number b i))
    (subst (λ (s : Side). IsMember s (element (number a i))) (sym is_left) (in_side left a found line inside i (subst (Q i) (sym (line.shape ∙ same)) p)))
    (subst (λ (s : Side). IsMember s (element (number b i))) (sym is_right) (in_side right b other line' inside' i (subst (Q i) (sym line'.shape) p)))) in
    let rule : answer ≡ ranged2 f (side_of left) (side_of right) =
    exact ∙ ap (λ (s : Side). ranged2 f s other_side) is_left ∙ ap (ranged2 f (side_of left)) is_right in
    subst (λ (l : Leaf). LeafWithin store l (ranged2 f (side_of left) (side_of right)).range) (sym is)
    (subst (λ (r : Ranged). LeafWithin store (Gen new Num) r.range) rule each)

pub pair_folds : (f : Dya) (place : Place) (left right : SegmentView) (a b new : DescView) (leaf : Leaf) → only_numbers left.nodes ≡ Some a → only_numbers right.nodes ≡ Some b → IsSegment left → IsSegment right → left.shape ≡ right.shape → Keeps f → Combines (exact_value f) a b new → leaf ≡ Gen new Num → FoldsTo right.shape leaf (λ store. combined2 f place (entry store left) (entry store right))
pair_folds f place left right a b new leaf found other seg seg' same keeps made is =
    let line = found_line left a found seg in
    let line' = found_line right b other seg' in
    let value = pair_value f left right a b new line' keeps made in
    record {
      desc = new;
      is = is;
      shape = subst (HasShape right.shape) (sym is) (record { desc = made.lawful; same = made.shape ∙ line'.shape });
      means = λ store.
          ap (λ (l : Leaf). Means (leaf_array store right.shape l)) is
          ∙ applied_to_two f place store right.shape left.shape a b new same value
          ∙ ap (λ (m : Meaning). combined2 f place m (Means (leaf_array store right.shape (Gen b Num)))) (sym (line_means store left a line))
          ∙ ap (combined2 f place (entry store left)) (sym (line_means store right b line'));
    }
