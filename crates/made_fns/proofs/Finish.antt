-- How a function that is made at once ends: with an error, without room, without memory, or with its leaf.
use Rattle.std.proofs.Common.{◌≡◌, ℕ, ℤ, List, length, Result, Ok, Err, sym, ap, ◌∙◌, subst, All}
use Rattle.std.specs.Result.{IsErrAnd, IfErr}
use Rattle.apl_base.specs.declared.faults.ErrorKind.{ErrorKind}
use Rattle.apl_base.specs.declared.cells.Kind.{Kind}
use Rattle.apl_base.specs.Array.{Array, IsArray}
use Rattle.apl_base.specs.Number.{IsCell}
use Rattle.array_store.specs.Stores.{StoreView, HasRoom}
use Rattle.array_store.specs.Counting.{OnlyFetched}
use Rattle.drag_along.specs.declared.leaves.Leaf.{Leaf}
use Rattle.e_machine.specs.Forced.{IsNewLeaf}
use Rattle.apl_model.specs.Whole.{Answer}
use Rattle.apl_model_laws.proofs.Arrays.{Gives}
use Rattle.made_leaf.specs.declared.faults.MadeFault.{MadeFault}
use Rattle.made_leaf.specs.declared.faults.MadeFault.TheVariants as made
use Rattle.made_leaf.specs.Made.{Fetched, IsAnswered, IsMadeBy, IsRoomFault}
use Rattle.made_leaf.proofs.MadeLemmas.{error_made, room_made, memory_made, leaf_made, all_places}

-- what is so of a fault is so of the result that is this fault
by_fault : (P : Result Leaf MadeFault → Type 0) (result : Result Leaf MadeFault) (fault : MadeFault) → IsErrAnd result (λ f. f ≡ fault) → P (Err fault) → P result
by_fault P (Ok leaf) fault is h = absurd is
by_fault P (Err f) fault is h = subst (λ (x : MadeFault). P (Err x)) (sym is) h

pub error_ends : (old new : StoreView) (most : ℕ) (answer : Answer) (kind : ErrorKind) (result : Result Leaf MadeFault) → IsErrAnd result (λ f. f ≡ made.Error kind) → answer ≡ Err kind → OnlyFetched old new most → IsMadeBy (Fetched old most) old new answer result
error_ends old new most answer kind result told is counted =
    by_fault (IsMadeBy (Fetched old most) old new answer) result (made.Error kind) told (error_made (Fetched old most) old new answer kind is counted)

pub room_ends : (old now : StoreView) (most : ℕ) (answer : Answer) (a : Array) (n : ℕ) (fault : MadeFault) (result : Result Leaf MadeFault) → IsErrAnd result (λ f. f ≡ fault) → answer ≡ Ok a → length a.cells ≡ n → OnlyFetched old now most → IsRoomFault now n fault → IsMadeBy (Fetched old most) old now answer result
room_ends old now most answer a n fault result told is many counted refused =
    by_fault (IsMadeBy (Fetched old most) old now answer) result fault told (room_made (Fetched old most) old now answer a n fault is many counted.only counted refused)

pub memory_ends : (old now new : StoreView) (most : ℕ) (answer : Answer) (a : Array) (n : ℕ) (result : Result Leaf MadeFault) → IsErrAnd result (λ f. f ≡ made.NoMemory) → answer ≡ Ok a → length a.cells ≡ n → HasRoom old n → OnlyFetched old now most → new ≡ now → IsMadeBy (Fetched old most) old new answer result
memory_ends old now new most answer a n result told is many room counted same =
    by_fault (IsMadeBy (Fetched old most) old new answer) result made.NoMemory told
    (memory_made (Fetched old most) old new answer a n is many room (subst (λ (s : StoreView). OnlyFetched old s most) (sym same) counted))

pub leaf_ends : (old between new : StoreView) (most : ℕ) (answer : Answer) (a b : Array) (leaf : Leaf) → answer ≡ Ok a → b ≡ a → OnlyFetched old between most → IsNewLeaf (λ s. s ≡ between) new b leaf → IsAnswered (Fetched old most) new answer leaf
leaf_ends old between new most answer a b leaf is same counted made = leaf_made (Fetched old most) between new answer a b leaf is same counted made

-- ---- the cells of an answer are lawful

-- an answer that is a lawful array, where it is one
pub array_lawful : (answer : Answer) (a : Array) → Gives answer → answer ≡ Ok a → IsArray a
array_lawful answer a given is = (subst Gives is given).answer

pub cells_lawful : (a : Array) (kind : Kind) (cells : List ℤ) → IsArray a → kind ≡ a.kind → cells ≡ a.cells → All (IsCell kind) cells
cells_lawful a kind cells lawful same are =
    subst (λ (k : Kind). All (IsCell k) cells) (sym same)
    (subst (λ (zs : List ℤ). All (IsCell a.kind) zs) (sym are) (all_places (IsCell a.kind) a.cells lawful.cells))

-- arrays of the same kind, shape and cells
pub same_array : {k l : Kind} {ns ms : List ℕ} {xs ys : List ℤ} → k ≡ l → ns ≡ ms → xs ≡ ys → (let a : Array = record { kind = k; shape = ns; cells = xs } in a) ≡ (let a : Array = record { kind = l; shape = ms; cells = ys } in a)
same_array {l = l} {ns = ns} {ms = ms} {xs = xs} p q r =
    ap (λ (k : Kind). let a : Array = record { kind = k; shape = ns; cells = xs } in a) p
    ∙ ap (λ (zs : List ℕ). let a : Array = record { kind = l; shape = zs; cells = xs } in a) q
    ∙ ap (λ (zs : List ℤ). let a : Array = record { kind = l; shape = ms; cells = zs } in a) r

-- what is so of an error is so of the result that is this error
pub by_error : {T E : Type 0} (P : E → Type 0) (result : Result T E) (e : E) → IsErrAnd result (λ f. f ≡ e) → P e → IfErr result P
by_error P (Ok x) e is h = absurd is
by_error P (Err f) e is h = subst P (sym is) h
