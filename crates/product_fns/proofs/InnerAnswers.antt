-- What an inner product answers, from what was done for it.
use Rattle.std.proofs.Common.{◌≡◌, ℕ, ◌+◌, ◌-◌, ◌*◌, ℤ, List, length, Ok, Err, refl, sym, ap, ◌∙◌, subst}
use Rattle.apl_base.specs.declared.cells.Kind.TheVariants.{Num}
use Rattle.apl_base.specs.declared.faults.ErrorKind.TheVariants as error
use Rattle.apl_base.specs.declared.rows.Dya.{Dya}
use Rattle.apl_base.specs.Array.{Array, IsShape, size_of}
use Rattle.array_store.specs.Stores.{StoreView, HasRoom}
use Rattle.array_store.specs.Counting.{OnlyComputed}
use Rattle.array_store.proofs.CountingLemmas.{OnlyComputed-none}
use Rattle.drag_along.specs.declared.leaves.Leaf.{Leaf}
use Rattle.drag_along.specs.Nodes.{leaf_shape}
use Rattle.e_machine.specs.Forced.{IsNewLeaf}
use Rattle.leaf_names.specs.Variables.{array_of}
use Rattle.made_leaf.specs.declared.faults.MadeFault.{MadeFault}
use Rattle.made_leaf.specs.declared.faults.MadeFault.TheVariants as made
use Rattle.made_leaf.specs.Made.{IsRoomFault}
use Rattle.made_leaf.proofs.MadeLemmas.{leaf_made}
use Rattle.product_fns.specs.Reduction.{Asks, Applied}
use Rattle.product_fns.specs.Inner.{IsInnerProduct, IsLengthFault, HasLength, AreInnerResults, HasUndefinedInner, inner_of, inner_shape, inner_applications}
use Rattle.product_fns.proofs.GroupLemmas.{only_as}
use Rattle.product_fns.proofs.AnswerLemmas.{room_refused}
use Rattle.product_fns.proofs.InnerLemmas.{inner_asks, inner_passes, inner-length, inner-limit, inner-ok, inner-domain}

-- no room, or want of memory
pub inner_refused : (old : StoreView) (f g : Dya) (a b : Leaf) (shape : List ℕ) (n m : ℕ) (fault : MadeFault) → HasLength n (array_of old a) (array_of old b) → shape ≡ inner_shape (array_of old a) (array_of old b) → IsShape shape → m ≡ size_of shape → IsRoomFault old m fault → IsInnerProduct old old f g a b (Err fault)
inner_refused old f g a b shape n m fault goes is fits size refused =
    let ns : List ℕ = inner_shape (array_of old a) (array_of old b) in
    room_refused old _ _ (inner_of old f g a b) ns m fault
    (subst Asks (sym (inner_passes f g (array_of old a) (array_of old b) n goes)) (inner_asks f g (array_of old a) (array_of old b) (subst IsShape is fits))) (size ∙ ap size_of is) refused

-- the counts, by other words for the same numbers
inner_counted : (old now : StoreView) (a b : Leaf) (shape : List ℕ) (n many : ℕ) → HasLength n (array_of old a) (array_of old b) → shape ≡ inner_shape (array_of old a) (array_of old b) → many ≡ size_of shape →
    OnlyComputed old now (many * (n + (n - 1))) (size_of (leaf_shape a) + size_of (leaf_shape b)) → Applied old (inner_applications (array_of old a) (array_of old b)) (size_of (leaf_shape a) + size_of (leaf_shape b)) now
inner_counted old now a b shape n many goes is size counted =
    only_as old now _ _ _ _ (ap (λ (m : ℕ). m * (n + (n - 1))) (size ∙ ap size_of is) ∙ ap (λ (m : ℕ). size_of (inner_shape (array_of old a) (array_of old b)) * (m + (m - 1))) goes.is) refl counted

pub inner_answered : (old between new : StoreView) (f g : Dya) (a b : Leaf) (shape : List ℕ) (cells results : List ℤ) (n many : ℕ) (leaf : Leaf) → HasLength n (array_of old a) (array_of old b) → shape ≡ inner_shape (array_of old a) (array_of old b) → IsShape shape → many ≡ size_of shape → length results ≡ many → cells ≡ results →
    AreInnerResults f g (array_of old a) (array_of old b) results → OnlyComputed old between (many * (n + (n - 1))) (size_of (leaf_shape a) + size_of (leaf_shape b)) → IsNewLeaf (λ s. s ≡ between) new (record { kind = Num; shape = shape; cells = cells }) leaf → IsInnerProduct old new f g a b (Ok leaf)
inner_answered old between new f g a b shape cells results n many leaf goes is fits size long same all counted made_is =
    let ns : List ℕ = inner_shape (array_of old a) (array_of old b) in
    let answer = inner-ok f g (array_of old a) (array_of old b) n results goes (subst IsShape is fits) (long ∙ size ∙ ap size_of is) all in
    let array : List ℕ → List ℤ → Array = λ ms zs. record { kind = Num; shape = ms; cells = zs } in
    leaf_made (Applied old (inner_applications (array_of old a) (array_of old b)) (size_of (leaf_shape a) + size_of (leaf_shape b))) between new (inner_of old f g a b) (array ns results) (array shape cells) leaf answer
    (ap (λ (ms : List ℕ). array ms cells) is ∙ ap (array ns) same) (inner_counted old between a b shape n many goes is size counted) made_is

pub inner_undefined : (old now : StoreView) (f g : Dya) (a b : Leaf) (shape : List ℕ) (n many : ℕ) → HasLength n (array_of old a) (array_of old b) → shape ≡ inner_shape (array_of old a) (array_of old b) → IsShape shape → many ≡ size_of shape → HasRoom old (size_of shape) →
    HasUndefinedInner f g (array_of old a) (array_of old b) many → OnlyComputed old now (many * (n + (n - 1))) (size_of (leaf_shape a) + size_of (leaf_shape b)) → IsInnerProduct old now f g a b (Err (made.Error error.Domain))
inner_undefined old now f g a b shape n many goes is fits size room undefined counted = record {
  is = inner-domain f g (array_of old a) (array_of old b) n goes (subst IsShape is fits) (subst (HasUndefinedInner f g (array_of old a) (array_of old b)) (size ∙ ap size_of is) undefined);
  room = λ m asked. subst (HasRoom old) (ap size_of is ∙ sym asked.1) room;
  counted = inner_counted old now a b shape n many goes is size counted;
}

-- errors before room is asked for
pub inner_lengths : (old : StoreView) (f g : Dya) (a b : Leaf) → IsLengthFault (array_of old a) (array_of old b) → IsInnerProduct old old f g a b (Err (made.Error error.Length))
inner_lengths old f g a b fault =
    let is : inner_of old f g a b ≡ Err error.Length = inner-length f g (array_of old a) (array_of old b) fault in
    record { is = is; room = λ m asked. absurd (subst Asks is asked.0); counted = OnlyComputed-none old _ _ }

pub inner_limited : (old : StoreView) (f g : Dya) (a b : Leaf) (n : ℕ) → HasLength n (array_of old a) (array_of old b) → (IsShape (inner_shape (array_of old a) (array_of old b)) → ⊥) → IsInnerProduct old old f g a b (Err (made.Error error.Limit))
inner_limited old f g a b n goes apart =
    let is : inner_of old f g a b ≡ Err error.Limit = inner-limit f g (array_of old a) (array_of old b) n goes apart in
    record { is = is; room = λ m asked. absurd (subst Asks is asked.0); counted = OnlyComputed-none old _ _ }
