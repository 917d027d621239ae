-- Lemmas on joins: what they mean, and that they are lawful where their parts are.
use Rattle.std.proofs.Common.{◌≡◌, ◌⊎◌, inl, inr, ℕ, ℤ, suc, ◌+◌, ◌≤◌, Bool, true, false, not, ◌&&◌, ◌||◌, IsTrue, List, [], ◌∷◌, ◌++◌, length, map, Option, Some, None, Result, Ok, Err, refl, sym, ap, ◌∙◌, subst, arith}
use Rattle.std.specs.Prelude.{◌==◌}
use Rattle.std.specs.Result.{IfOk}
use Rattle.std.proofs.lemmas.Bool.{eqb-true}
use Rattle.std.specs.Option.{option_map, option_and_then}
use Rattle.std.specs.List.{AllByRecursion, zip}
use Rattle.apl_base.specs.declared.cells.Kind.{Kind}
use Rattle.apl_base.specs.declared.cells.Kind.TheVariants.{Num}
use Rattle.apl_base.specs.declared.cells.Elem.{Elem}
use Rattle.apl_base.specs.declared.cells.Interval.{Interval}
use Rattle.apl_base.specs.declared.faults.Place.{Place}
use Rattle.apl_base.specs.declared.rows.Mon.{Mon}
use Rattle.apl_base.specs.declared.rows.Dya.{Dya}
use Rattle.apl_base.specs.Array.{Array, size_of}
use Rattle.apl_base.specs.Interval.{InInterval}
use Rattle.apl_base.specs.Elements.{element, elements, all_defined}
use Rattle.apl_base.specs.Scalar.{scalar1, scalar2}
use Rattle.value_range.specs.declared.sides.Side.{Side}
use Rattle.value_range.specs.declared.sides.Ranged.{Ranged}
use Rattle.value_range.specs.Interval.{ranged1, ranged2}
use Rattle.value_range.specs.Sound.{IsMember, GivesWithin, IsSound1, IsSound2}
use Rattle.array_store.specs.Stores.{StoreView}
use Rattle.drag_along.specs.declared.nodes.Node.{Node}
use Rattle.drag_along.specs.declared.nodes.Node.TheVariants.{Operand, One, Two}
use Rattle.drag_along.specs.Nodes.{functions_in, pending_after, kind_of_nodes}
use Rattle.drag_along.specs.Segments.{SegmentView, IsSegment, named_by, side_of, may_fail_at, joined1, joined2}
use Rattle.drag_along.specs.Meaning.{Meaning, Means, Faults, Pending, pending, put, numbers_or, applied1, applied2, combined1, combined2, leaf_array, after_nodes, newest, entry}
use Rattle.drag_along.specs.Lawful.{MeansWithin, IsLawfulLeaf, IsLawful}
use Rattle.drag_along.proofs.NodeLemmas.{AllLeaves-append, named_by_nodes-append, functions_in-append}
use Rattle.drag_along.proofs.MeaningLemmas.{after_nodes-stopped, entry-one, entry-two}
use Rattle.drag_along.proofs.LawfulLemmas.{FormIf, entry-form}

pub IfOk-weaker : {T E : Type 0} (P Q : T → Type 0) (r : Result T E) → IfOk r P → ((x : T) → P x → Q x) → IfOk r Q
IfOk-weaker P Q (Ok x) h weaker = weaker x h
IfOk-weaker P Q (Err e) h weaker = tt

-- ---- the kind of what a segment means

abbrev pub KindIf : Kind → Meaning → Type 0
KindIf k (Means a) = a.kind ≡ k
KindIf k (Faults p) = Unit {0}

numbers_or-kind : (p : Place) (sh : List ℕ) (o : Option (List Elem)) → KindIf Num (numbers_or p sh o)
numbers_or-kind p sh None = tt
numbers_or-kind p sh (Some es) = refl

put-kind : (v : Meaning) (us : List Array) → KindIf Num v → KindIf Num (newest (put v us))
put-kind (Means a) us h = h
put-kind (Faults p) us h = tt

-- where a node follows at least one value and one is left, the last node is a function
newest-number : (s : StoreView) (sh : List ℕ) (x : Node) (xs : List Node) (us : List Array) → 1 ≤ length us → pending_after (x ∷ xs) (length us) ≡ Some 1 → KindIf Num (newest (after_nodes s sh (x ∷ xs) (pending us)))
newest-number s sh (Operand leaf) [] us many h = let e : suc (length us) ≡ 1 = cc in absurd (omega (arith, e, many))
newest-number s sh (One f p) [] [] many h = absurd (omega (arith, many))
newest-number s sh (One f p) [] (b ∷ us) many h = put-kind (applied1 f p b) us (numbers_or-kind p b.shape (all_defined (map (scalar1 f) (elements b))))
newest-number s sh (Two f p) [] [] many h = absurd (omega (arith, many))
newest-number s sh (Two f p) [] (a ∷ []) many h = absurd (cc)
newest-number s sh (Two f p) [] (a ∷ b ∷ us) many h = put-kind (applied2 f p a b) us (numbers_or-kind p b.shape (all_defined (map (λ (q : Elem × Elem). scalar2 f q.0 q.1) (zip (elements a) (elements b)))))
newest-number s sh (Operand leaf) (y ∷ ys) us many h = newest-number s sh y ys (leaf_array s sh leaf ∷ us) (omega arith) h
newest-number s sh (One f p) (y ∷ ys) [] many h = absurd (omega (arith, many))
newest-number s sh (One f p) (y ∷ ys) (b ∷ us) many h =
    elim (applied1 f p b) as (λ v. KindIf Num (newest (after_nodes s sh (y ∷ ys) (put v us)))) [
      | Means c ↦ newest-number s sh y ys (c ∷ us) (omega arith) h
      | Faults q ↦ subst (λ (st : Pending). KindIf Num (newest st)) (sym (after_nodes-stopped s sh (y ∷ ys) q)) tt
    ]
newest-number s sh (Two f p) (y ∷ ys) [] many h = absurd (omega (arith, many))
newest-number s sh (Two f p) (y ∷ ys) (a ∷ []) many h = absurd (cc)
newest-number s sh (Two f p) (y ∷ ys) (a ∷ b ∷ us) many h =
    elim (applied2 f p a b) as (λ v. KindIf Num (newest (after_nodes s sh (y ∷ ys) (put v us)))) [
      | Means c ↦ newest-number s sh y ys (c ∷ us) (omega arith) h
      | Faults q ↦ subst (λ (st : Pending). KindIf Num (newest st)) (sym (after_nodes-stopped s sh (y ∷ ys) q)) tt
    ]

same_count : (n m : ℕ) → Some n ≡ Some m → n ≡ m
same_count n m h = cc

nodes-kind : (s : StoreView) (sh : List ℕ) (xs : List Node) → pending_after xs 0 ≡ Some 1 → KindIf (kind_of_nodes xs) (newest (after_nodes s sh xs (pending [])))
nodes-kind s sh [] h = absurd (omega (arith, same_count 0 1 h))
nodes-kind s sh (Operand leaf ∷ []) h = refl
nodes-kind s sh (Operand leaf ∷ x ∷ xs) h = newest-number s sh x xs (leaf_array s sh leaf ∷ []) (omega arith) h
nodes-kind s sh (One f p ∷ xs) h = absurd (cc)
nodes-kind s sh (Two f p ∷ xs) h = absurd (cc)

pub entry-kind : (s : StoreView) (g : SegmentView) → IsSegment g → KindIf g.kind (entry s g)
unfolding entry
entry-kind s g seg =
    subst (λ (k : Kind). KindIf k (newest (after_nodes s g.shape g.nodes (pending [])))) (sym seg.kind) (nodes-kind s g.shape g.nodes seg.whole)

-- ---- values within a range

abbrev pub AllGive : Interval → Option (List Elem) → Type 0
AllGive range None = ⊥
AllGive range (Some es) = AllByRecursion (InInterval range) (map (λ e. e.cell) es)

AllGive-cons : (range : Interval) (v : Elem) (o : Option (List Elem)) → InInterval range v.cell → AllGive range o → AllGive range (option_map (λ vs. v ∷ vs) o)
AllGive-cons range v None h g = g
AllGive-cons range v (Some es) h g = (h, g)

AllGive-next : (range : Interval) (o : Option Elem) (rest : Option (List Elem)) → GivesWithin range o → AllGive range rest → AllGive range (option_and_then (λ v. option_map (λ vs. v ∷ vs) rest) o)
AllGive-next range o rest given h =
    subst (λ (x : Option Elem). AllGive range (option_and_then (λ v. option_map (λ vs. v ∷ vs) rest) x)) (sym given.1)
    (AllGive-cons range given.0 rest given.2.cell h)

given1 : (g : Elem → Option Elem) (k : Kind) (r range : Interval) → ((y : Elem) → IsMember (record { kind = k; interval = r }) y → GivesWithin range (g y)) → (cells : List ℤ) → AllByRecursion (InInterval r) cells → AllGive range (all_defined (map g (map (element k) cells)))
given1 g k r range sound [] h = tt
given1 g k r range sound (c ∷ cs) h =
    AllGive-next range (g (record { kind = k; cell = c })) (all_defined (map g (map (element k) cs)))
    (sound (record { kind = k; cell = c }) (record { kind = refl; cell = h.0 })) (given1 g k r range sound cs h.1)

given2 : (g : Elem → Elem → Option Elem) (j k : Kind) (q r range : Interval) → ((x y : Elem) → IsMember (record { kind = j; interval = q }) x → IsMember (record { kind = k; interval = r }) y → GivesWithin range (g x y)) → (us bs : List ℤ) → AllByRecursion (InInterval q) us → AllByRecursion (InInterval r) bs → AllGive range (all_defined (map (λ (p : Elem × Elem). g p.0 p.1) (zip (map (element j) us) (map (element k) bs))))
given2 g j k q r range sound [] bs h i = tt
given2 g j k q r range sound (a ∷ us) [] h i = tt
given2 g j k q r range sound (a ∷ us) (b ∷ bs) h i =
    AllGive-next range (g (record { kind = j; cell = a }) (record { kind = k; cell = b }))
    (all_defined (map (λ (p : Elem × Elem). g p.0 p.1) (zip (map (element j) us) (map (element k) bs))))
    (sound (record { kind = j; cell = a }) (record { kind = k; cell = b }) (record { kind = refl; cell = h.0 }) (record { kind = refl; cell = i.0 }))
    (given2 g j k q r range sound us bs h.1 i.1)

numbers_or-within : (range : Interval) (p : Place) (sh : List ℕ) (o : Option (List Elem)) → AllGive range o → MeansWithin range (numbers_or p sh o)
numbers_or-within range p sh None h = h
numbers_or-within range p sh (Some es) h = h

none1 : (g : Elem → Option Elem) (k : Kind) (range : Interval) (cells : List ℤ) → length cells ≡ 0 → AllGive range (all_defined (map g (map (element k) cells)))
none1 g k range [] h = tt
none1 g k range (c ∷ cs) h = absurd (omega (arith, h))

none2 : (g : Elem → Elem → Option Elem) (j k : Kind) (range : Interval) (us bs : List ℤ) → length us ≡ 0 → AllGive range (all_defined (map (λ (p : Elem × Elem). g p.0 p.1) (zip (map (element j) us) (map (element k) bs))))
none2 g j k range [] bs h = tt
none2 g j k range (c ∷ cs) bs h = absurd (omega (arith, h))

-- a function of what a segment means stays within its range, where it is safe or there is no element
combined1-within : (f : Mon) (p : Place) (sh : List ℕ) (side : Side) (range : Interval) (m : Meaning) → MeansWithin side.interval m → FormIf sh m → KindIf side.kind m → (size_of sh ≡ 0) ⊎ ((y : Elem) → IsMember side y → GivesWithin range (scalar1 f y)) → MeansWithin range (combined1 f p m)
combined1-within f p sh side range (Faults q) within form kind sound = within
combined1-within f p sh side range (Means b) within form kind (inl none) =
    numbers_or-within range p b.shape (all_defined (map (scalar1 f) (elements b))) (none1 (scalar1 f) b.kind range b.cells (form.count ∙ none))
combined1-within f p sh side range (Means b) within form kind (inr sound) =
    numbers_or-within range p b.shape (all_defined (map (scalar1 f) (elements b)))
    (given1 (scalar1 f) b.kind side.interval range (λ y h. sound y (record { kind = h.kind ∙ kind; cell = h.cell })) b.cells within)

combined2-within : (f : Dya) (p : Place) (sh : List ℕ) (left right : Side) (range : Interval) (m n : Meaning) → MeansWithin left.interval m → MeansWithin right.interval n → FormIf sh m → KindIf left.kind m → KindIf right.kind n → (size_of sh ≡ 0) ⊎ ((x y : Elem) → IsMember left x → IsMember right y → GivesWithin range (scalar2 f x y)) → MeansWithin range (combined2 f p m n)
combined2-within f p sh left right range (Faults q) n g h form j k sound = absurd g
combined2-within f p sh left right range (Means a) (Faults q) g h form j k sound = absurd h
combined2-within f p sh left right range (Means a) (Means b) g h form j k (inl none) =
    numbers_or-within range p b.shape (all_defined (map (λ (q : Elem × Elem). scalar2 f q.0 q.1) (zip (elements a) (elements b))))
    (none2 (scalar2 f) a.kind b.kind range a.cells b.cells (form.count ∙ none))
combined2-within f p sh left right range (Means a) (Means b) g h form j k (inr sound) =
    numbers_or-within range p b.shape (all_defined (map (λ (q : Elem × Elem). scalar2 f q.0 q.1) (zip (elements a) (elements b))))
    (given2 (scalar2 f) a.kind b.kind left.interval right.interval range
    (λ x y u v. sound x y (record { kind = u.kind ∙ j; cell = u.cell }) (record { kind = v.kind ∙ k; cell = v.cell })) a.cells b.cells g h)

-- ---- the flag

or_false : (a b : Bool) → (a || b) ≡ false → (a ≡ false) × (b ≡ false)
or_false true b h = absurd (cc)
or_false false b h = (refl, h)

apart : true ≡ false → ⊥
apart e = absurd (cc)

empty_or_safe : (n : ℕ) (safe : Bool) → (not (n == 0) && not safe) ≡ false → (n ≡ 0) ⊎ IsTrue safe
empty_or_safe n true h = inr refl
empty_or_safe n false h = inl (is_empty (n == 0) refl h)
  where
    is_empty : (b : Bool) → (n == 0) ≡ b → (not b && not false) ≡ false → n ≡ 0
    is_empty true e g = eqb-true n 0 e
    is_empty false e g = absurd (apart g)

-- ---- joins

pub entry-joined1 : (s : StoreView) (f : Mon) (p : Place) (right : SegmentView) → IsSegment right → entry s (joined1 f p right) ≡ combined1 f p (entry s right)
unfolding entry
entry-joined1 s f p right seg = entry-one s right.shape right.nodes f p seg.whole

pub entry-joined2 : (s : StoreView) (f : Dya) (p : Place) (left right : SegmentView) → IsSegment left → IsSegment right → left.shape ≡ right.shape → entry s (joined2 f p left right) ≡ combined2 f p (entry s left) (entry s right)
unfolding entry
entry-joined2 s f p left right g h same =
    entry-two s right.shape right.nodes left.nodes f p h.whole g.whole
    ∙ ap (λ (sh : List ℕ). combined2 f p (newest (after_nodes s sh left.nodes (pending []))) (newest (after_nodes s right.shape right.nodes (pending [])))) (sym same)

pub IsLawful-joined1 : (s : StoreView) (f : Mon) (p : Place) (right : SegmentView) → IsSegment right → IsSound1 (scalar1 f) (side_of right) (ranged1 f (side_of right)) → IsLawful s right → IsLawful s (joined1 f p right)
IsLawful-joined1 s f p right seg sound lawful =
    let known : Ranged = ranged1 f (side_of right) in
    record {
      leaves = AllLeaves-append (IsLawfulLeaf s) right.nodes (One f p ∷ []) lawful.leaves tt;
      sound = λ no.
          let flags = or_false right.may_fail (may_fail_at right.shape known) no in
          let safe : (size_of right.shape ≡ 0) ⊎ ((y : Elem) → IsMember (side_of right) y → GivesWithin known.range (scalar1 f y)) =
          elim (empty_or_safe (size_of right.shape) known.safe flags.1) [ inl none ↦ inl none | inr is_safe ↦ inr (sound is_safe) ] in
          subst (MeansWithin known.range) (sym (entry-joined1 s f p right seg))
          (combined1-within f p right.shape (side_of right) known.range (entry s right) (lawful.sound flags.0) (entry-form s right seg) (entry-kind s right seg) safe);
    }

pub IsLawful-joined2 : (s : StoreView) (f : Dya) (p : Place) (left right : SegmentView) → IsSegment left → IsSegment right → left.shape ≡ right.shape → IsSound2 (scalar2 f) (side_of left) (side_of right) (ranged2 f (side_of left) (side_of right)) → IsLawful s left → IsLawful s right → IsLawful s (joined2 f p left right)
IsLawful-joined2 s f p left right g h same sound lawful_left lawful_right =
    let known : Ranged = ranged2 f (side_of left) (side_of right) in
    record {
      leaves = AllLeaves-append (IsLawfulLeaf s) (right.nodes ++ left.nodes) (Two f p ∷ [])
          (AllLeaves-append (IsLawfulLeaf s) right.nodes left.nodes lawful_right.leaves lawful_left.leaves) tt;
      sound = λ no.
          let outer = or_false (right.may_fail || left.may_fail) (may_fail_at right.shape known) no in
          let flags = or_false right.may_fail left.may_fail outer.0 in
          let safe : (size_of right.shape ≡ 0) ⊎ ((x y : Elem) → IsMember (side_of left) x → IsMember (side_of right) y → GivesWithin known.range (scalar2 f x y)) =
          elim (empty_or_safe (size_of right.shape) known.safe outer.1) [ inl none ↦ inl none | inr is_safe ↦ inr (sound is_safe) ] in
          let form : FormIf right.shape (entry s left) = subst (λ (sh : List ℕ). FormIf sh (entry s left)) same (entry-form s left g) in
          subst (MeansWithin known.range) (sym (entry-joined2 s f p left right g h same))
          (combined2-within f p right.shape (side_of left) (side_of right) known.range (entry s left) (entry s right) (lawful_left.sound flags.1) (lawful_right.sound flags.0) form (entry-kind s left g) (entry-kind s right h) safe);
    }

pub named_by-joined1 : (f : Mon) (p : Place) (right : SegmentView) (key : ℕ) → named_by (joined1 f p right) key ≡ named_by right key
named_by-joined1 f p right key = omega (arith, named_by_nodes-append right.nodes (One f p ∷ []) key)

pub named_by-joined2 : (f : Dya) (p : Place) (left right : SegmentView) (key : ℕ) → named_by (joined2 f p left right) key ≡ named_by right key + named_by left key
named_by-joined2 f p left right key =
    omega (arith, named_by_nodes-append (right.nodes ++ left.nodes) (Two f p ∷ []) key, named_by_nodes-append right.nodes left.nodes key)

pub functions_in-joined1 : (f : Mon) (p : Place) (right : SegmentView) → functions_in (joined1 f p right).nodes ≡ functions_in right.nodes + 1
functions_in-joined1 f p right = omega (arith, functions_in-append right.nodes (One f p ∷ []))

pub functions_in-joined2 : (f : Dya) (p : Place) (left right : SegmentView) → functions_in (joined2 f p left right).nodes ≡ functions_in right.nodes + functions_in left.nodes + 1
functions_in-joined2 f p left right =
    omega (arith, functions_in-append (right.nodes ++ left.nodes) (Two f p ∷ []), functions_in-append right.nodes left.nodes)
