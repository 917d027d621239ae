-- What a reduction answers, from what was done for it.
use Rattle.std.proofs.Common.{◌≡◌, ℕ, zero, suc, ◌-◌, ◌*◌, ◌<◌, ◌==◌, Bool, true, false, ℤ, pos, List, [], ◌∷◌, length, get_or, Option, Some, None, Result, Ok, Err, refl, sym, ap, ◌∙◌, subst, arith}
use Rattle.std.specs.Prelude.{remove}
use Rattle.std.specs.Prelude.{if◌then◌else◌}
use Rattle.std.proofs.lemmas.Bool.{eqb-true}
use Rattle.apl_model.specs.Made.{on_axis}
use Rattle.apl_base.specs.declared.cells.Kind.{Kind}
use Rattle.apl_base.specs.declared.faults.ErrorKind.TheVariants as error
use Rattle.apl_base.specs.declared.rows.Dya.{Dya}
use Rattle.apl_base.specs.Array.{Array, IsShape, size_of}
use Rattle.array_store.specs.Stores.{StoreView, HasRoom}
use Rattle.array_store.specs.Counting.{OnlyComputed}
use Rattle.array_store.proofs.CountingLemmas.{OnlyComputed-none}
use Rattle.drag_along.specs.declared.leaves.Leaf.{Leaf}
use Rattle.drag_along.specs.Nodes.{leaf_kind, leaf_shape}
use Rattle.e_machine.specs.Forced.{IsNewLeaf}
use Rattle.apl_model.specs.declared.functions.Axis.{Axis}
use Rattle.apl_model.specs.Whole.{Answer, within_limit, or_domain}
use Rattle.apl_model.specs.Product.{reduced_along, reduce_at}
use Rattle.leaf_names.specs.Variables.{array_of}
use Rattle.made_leaf.specs.declared.faults.MadeFault.{MadeFault}
use Rattle.made_leaf.specs.declared.faults.MadeFault.TheVariants as made
use Rattle.made_leaf.specs.Made.{IsMadeAsking, IsAnswered, IsRoomFault}
use Rattle.made_leaf.specs.Laws.{OnlyMade}
use Rattle.drag_along.specs.Views.{StandsForArray}
use Rattle.made_leaf.proofs.MadeLemmas.{leaf_made, made_only, made_stands}
use Rattle.product_fns.specs.Folding.{reduced_kind, rows_along, AreAllResults, HasUndefined}
use Rattle.product_fns.specs.Reduction.{reduce_of, axis_number, reduced_shape, reduce_applications, along_applications, Asks, AsksForShape, Applied, IsReducedAlong, IsAxisOf}
use Rattle.product_fns.proofs.GroupLemmas.{only_as}
use Rattle.product_fns.proofs.ReducedLemmas.{reduced-ok, reduced-domain}
use Rattle.apl_model_laws.proofs.Refusals.{passes_limit}

-- ---- room

-- lengths that make a shape ask for room
pub asks_within : {X : Type 0} (ns : List ℕ) (o : Option X) (make : X → Array) → IsShape ns → Asks (within_limit ns (λ _. or_domain o make))
asks_within {X = X} ns o make fits = subst Asks (sym (passes_limit ns (λ _. or_domain o make) fits)) (by o)
  where
    by : (p : Option X) → Asks (or_domain p make)
    by None = tt
    by (Some x) = tt

-- no room, or want of memory
pub room_refused : (old : StoreView) (functions cells : ℕ) (answer : Answer) (ns : List ℕ) (n : ℕ) (fault : MadeFault) → Asks answer → n ≡ size_of ns → IsRoomFault old n fault → IsMadeAsking (Applied old functions cells) (AsksForShape answer ns) old old answer (Err fault)
room_refused old functions cells answer ns n (made.Error kind) asks is refused = absurd refused
room_refused old functions cells answer ns n (made.WsFull live asked) asks is refused = record {
  asks = (asks, refused.1 ∙ is);
  held = refused.0;
  full = omega (arith, refused.1, refused.2);
  counted = OnlyComputed-none old functions cells;
}
room_refused old functions cells answer ns n made.NoMemory asks is refused = record {
  room = λ m asked. subst (HasRoom old) (is ∙ sym asked.1) refused;
  counted = OnlyComputed-none old functions cells;
}

-- ---- along an axis

pub along_refused : (old : StoreView) (f : Dya) (axis : ℕ) (b : Leaf) (left : List ℕ) (n : ℕ) (fault : MadeFault) → left ≡ remove (leaf_shape b) axis → IsShape left → n ≡ size_of left → IsRoomFault old n fault → IsReducedAlong old old f axis b (Err fault)
along_refused old f axis b left n fault is fits size refused =
    room_refused old _ _ (reduced_along f axis (array_of old b)) (remove (leaf_shape b) axis) n fault
    (asks_within (remove (leaf_shape b) axis) _ _ (subst IsShape is fits)) (size ∙ ap size_of is) refused

-- the counts, by other words for the same lengths
along_counted : (old now : StoreView) (axis : ℕ) (b : Leaf) (shape left : List ℕ) (many : ℕ) → shape ≡ leaf_shape b → left ≡ remove shape axis → many ≡ size_of left → OnlyComputed old now (many * (get_or shape axis 0 - 1)) (size_of shape) → Applied old (along_applications axis (leaf_shape b)) (size_of (leaf_shape b)) now
along_counted old now axis b shape left many is gone size counted =
    let lengths : left ≡ remove (leaf_shape b) axis = gone ∙ ap (λ (ns : List ℕ). remove ns axis) is in
    only_as old now _ _ _ _
    (ap (λ (m : ℕ). m * (get_or shape axis 0 - 1)) (size ∙ ap size_of lengths) ∙ ap (λ (ns : List ℕ). size_of (remove (leaf_shape b) axis) * (get_or ns axis 0 - 1)) is)
    (ap size_of is) counted

pub along_answered : (old between new : StoreView) (f : Dya) (axis : ℕ) (b : Leaf) (shape left : List ℕ) (cells results : List ℤ) (kind : Kind) (n many : ℕ) (leaf : Leaf) → shape ≡ leaf_shape b → left ≡ remove shape axis → IsShape left → axis < length shape → many ≡ size_of left → length results ≡ many → cells ≡ results → kind ≡ reduced_kind (leaf_kind b) n → n ≡ get_or shape axis 0 → AreAllResults (rows_along f axis (array_of old b)) results → OnlyComputed old between (many * (get_or shape axis 0 - 1)) (size_of shape) → IsNewLeaf (λ s. s ≡ between) new (record { kind = kind; shape = left; cells = cells }) leaf → IsReducedAlong old new f axis b (Ok leaf)
along_answered old between new f axis b shape left cells results kind n many leaf is gone fits within size long same kinds along all counted made_is =
    let ns : List ℕ = leaf_shape b in
    let lengths : left ≡ remove ns axis = gone ∙ ap (λ (ms : List ℕ). remove ms axis) is in
    let below : axis < length ns = subst (λ (ms : List ℕ). axis < length ms) is within in
    let answer = reduced-ok f axis (array_of old b) results below (subst IsShape lengths fits) (long ∙ size ∙ ap size_of lengths) all.values in
    let kind_is : kind ≡ reduced_kind (leaf_kind b) (get_or ns axis 0) = kinds ∙ ap (reduced_kind (leaf_kind b)) (along ∙ ap (λ (ms : List ℕ). get_or ms axis 0) is) in
    let array : Kind → List ℕ → List ℤ → Array = λ k ms zs. record { kind = k; shape = ms; cells = zs } in
    leaf_made (Applied old (along_applications axis ns) (size_of ns)) between new (reduced_along f axis (array_of old b)) (array (reduced_kind (leaf_kind b) (get_or ns axis 0)) (remove ns axis) results) (array kind left cells) leaf answer
    (ap (λ (k : Kind). array k left cells) kind_is ∙ ap (λ (ms : List ℕ). array (reduced_kind (leaf_kind b) (get_or ns axis 0)) ms cells) lengths ∙ ap (λ (zs : List ℤ). array (reduced_kind (leaf_kind b) (get_or ns axis 0)) (remove ns axis) zs) same)
    (along_counted old between axis b shape left many is gone size counted) made_is

pub along_undefined : (old now : StoreView) (f : Dya) (axis : ℕ) (b : Leaf) (shape left : List ℕ) (many : ℕ) → shape ≡ leaf_shape b → left ≡ remove shape axis → IsShape left → axis < length shape → many ≡ size_of left → HasRoom old (size_of left) → HasUndefined (rows_along f axis (array_of old b)) many → OnlyComputed old now (many * (get_or shape axis 0 - 1)) (size_of shape) → IsReducedAlong old now f axis b (Err (made.Error error.Domain))
along_undefined old now f axis b shape left many is gone fits within size room undefined counted =
    let ns : List ℕ = leaf_shape b in
    let lengths : left ≡ remove ns axis = gone ∙ ap (λ (ms : List ℕ). remove ms axis) is in
    let below : axis < length ns = subst (λ (ms : List ℕ). axis < length ms) is within in
    record {
      is = reduced-domain f axis (array_of old b) below (subst IsShape lengths fits) (subst (HasUndefined (rows_along f axis (array_of old b))) (size ∙ ap size_of lengths) undefined);
      room = λ m asked. subst (HasRoom old) (ap size_of lengths ∙ sym asked.1) room;
      counted = along_counted old now axis b shape left many is gone size counted;
    }

-- ---- along the axis that is named

remove-none : (k : ℕ) → remove {X = ℕ} [] k ≡ []
remove-none zero = refl
remove-none (suc k) = refl

pub scalar_answered : (old new : StoreView) (f : Dya) (axis : Axis) (b : Leaf) (result : Result Leaf MadeFault) → leaf_shape b ≡ [] → IsMadeAsking (Applied old 0 1) (AsksForShape (reduce_of old f axis b) []) old new (reduce_of old f axis b) result →
    IsMadeAsking (Applied old (reduce_applications axis (leaf_shape b)) (size_of (leaf_shape b))) (AsksForShape (reduce_of old f axis b) (reduced_shape axis (leaf_shape b))) old new (reduce_of old f axis b) result
scalar_answered old new f axis b result is answer =
    let shape : [] ≡ reduced_shape axis (leaf_shape b) = sym (remove-none (axis_number axis 0)) ∙ ap (reduced_shape axis) (sym is) in
    let none : 0 ≡ reduce_applications axis (leaf_shape b) = omega arith ∙ ap (reduce_applications axis) (sym is) in
    let one : 1 ≡ size_of (leaf_shape b) = ap size_of (sym is) in
    subst (λ (n : ℕ). IsMadeAsking (Applied old (reduce_applications axis (leaf_shape b)) n) (AsksForShape (reduce_of old f axis b) (reduced_shape axis (leaf_shape b))) old new (reduce_of old f axis b) result) one
    (subst (λ (n : ℕ). IsMadeAsking (Applied old n 1) (AsksForShape (reduce_of old f axis b) (reduced_shape axis (leaf_shape b))) old new (reduce_of old f axis b) result) none
    (subst (λ (ns : List ℕ). IsMadeAsking (Applied old 0 1) (AsksForShape (reduce_of old f axis b) ns) old new (reduce_of old f axis b) result) shape answer))

-- an axis that is named is one of at least one
reduce-along : (f : Dya) (axis : ℕ) (b : Array) → (length b.shape ≡ 0 → ⊥) → reduce_at f b axis ≡ reduced_along f axis b
reduce-along f axis b some = by (length b.shape == 0) refl
  where
    by : (t : Bool) → (length b.shape == 0) ≡ t → reduce_at f b axis ≡ reduced_along f axis b
    by true e = absurd (some (eqb-true (length b.shape) 0 e))
    by false e = ap (λ (t : Bool). if t then (let r : Answer = Ok b in r) else reduced_along f axis b) e

pub axis_answered : (old new : StoreView) (f : Dya) (axis : Axis) (b : Leaf) (number rank : ℕ) (result : Result Leaf MadeFault) → rank ≡ length (leaf_shape b) → (rank ≡ 0 → ⊥) → IsAxisOf axis rank number → IsReducedAlong old new f number b result →
    IsMadeAsking (Applied old (reduce_applications axis (leaf_shape b)) (size_of (leaf_shape b))) (AsksForShape (reduce_of old f axis b) (reduced_shape axis (leaf_shape b))) old new (reduce_of old f axis b) result
axis_answered old new f axis b number rank result is some named answer =
    let ns : List ℕ = leaf_shape b in
    let same : number ≡ axis_number axis (length ns) = named.is ∙ ap (axis_number axis) is in
    let value : reduced_along f number (array_of old b) ≡ reduce_of old f axis b =
    sym (reduce-along f number (array_of old b) (λ e. some (is ∙ e))) ∙ sym (subst (λ (r : ℕ). on_axis (pos 1) axis r (reduce_at f (array_of old b)) ≡ reduce_at f (array_of old b) number) is (named.makes (reduce_at f (array_of old b)))) in
    subst (λ (a : Answer). IsMadeAsking (Applied old (reduce_applications axis ns) (size_of ns)) (AsksForShape a (reduced_shape axis ns)) old new a result) value
    (subst (λ (k : ℕ). IsMadeAsking (Applied old (along_applications k ns) (size_of ns)) (AsksForShape (reduced_along f number (array_of old b)) (remove ns k)) old new (reduced_along f number (array_of old b)) result) same answer)

-- no axis
pub no_lengths : (ns : List ℕ) → length ns ≡ 0 → ns ≡ []
no_lengths [] h = refl
no_lengths (n ∷ ns) h = absurd (omega (arith, h))

-- ---- the leaf that was made

-- it stands for its array
pub answered_stands : (old new : StoreView) (functions cells : ℕ) (Room : ℕ → Type 0) (answer : Answer) (leaf : Leaf) → IsAnswered (Applied old functions cells) new answer leaf → (a : Array) × StandsForArray new leaf a
answered_stands old new functions cells Room answer leaf made =
    let only : OnlyMade old new (Ok leaf) = made_only (Applied old functions cells) Room old new answer (Ok leaf) (λ (s : StoreView) (counted : OnlyComputed old s functions cells). counted.only) made in
    (only.0, made_stands old new only.0 leaf only.1)
