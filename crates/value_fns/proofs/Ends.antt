-- How a function that is made at once ends: without room, without memory, or with the leaf of its answer.
use Rattle.std.proofs.Common.{◌≡◌, ℕ, ℤ, List, Bool, true, false, length, Result, Ok, Err, refl, sym, ap, ◌∙◌, subst, arith}
use Rattle.std.specs.Result.{IsErrAnd}
use Rattle.apl_base.specs.declared.cells.Kind.{Kind}
use Rattle.apl_base.specs.declared.faults.ErrorKind.{ErrorKind}
use Rattle.apl_base.specs.Array.{Array, IsArray}
use Rattle.array_store.specs.Stores.{StoreView, HasRoom}
use Rattle.array_store.specs.Counting.{OnlyCounted, OnlyFetched}
use Rattle.array_store.proofs.CountingLemmas.{OnlyFetched-none}
use Rattle.drag_along.specs.declared.leaves.Leaf.{Leaf}
use Rattle.drag_along.specs.Lawful.{IsLawfulLeaf}
use Rattle.e_machine.proofs.WholeLemmas.{stands-made}
use Rattle.e_machine.specs.Forced.{IsNewLeaf}
use Rattle.apl_model.specs.Whole.{Answer, error_if}
use Rattle.apl_model_laws.specs.Lawful.{IsAnswer}
use Rattle.made_leaf.specs.declared.faults.MadeFault.{MadeFault}
use Rattle.made_leaf.specs.declared.faults.MadeFault.TheVariants as made
use Rattle.made_leaf.specs.Made.{Fetched, IsMadeBy, IsAnswered, IsRoomFault}
use Rattle.made_leaf.proofs.MadeLemmas.{room_made, memory_made, leaf_made}

-- an answer that is an error is this one
pub err_exit : (P : Result Leaf MadeFault → Type 0) (r : Result Leaf MadeFault) (fault : MadeFault) → IsErrAnd r (λ e. e ≡ fault) → P (Err fault) → P r
err_exit P (Ok leaf) fault h p = absurd h
err_exit P (Err e) fault h p = subst (λ (f : MadeFault). P (Err f)) (sym h) p

-- there was no room
pub no_room : (old : StoreView) (answer : Answer) (a : Array) (n most : ℕ) (r : Result Leaf MadeFault) (fault : MadeFault) → answer ≡ Ok a → length a.cells ≡ n → IsErrAnd r (λ e. e ≡ fault) → IsRoomFault old n fault → IsMadeBy (Fetched old most) old old answer r
no_room old answer a n most r fault is many h refused =
    err_exit (IsMadeBy (Fetched old most) old old answer) r fault h (room_made (Fetched old most) old old answer a n fault is many refl (OnlyFetched-none old most) refused)

-- memory was wanting after there was room
pub no_memory : (old new : StoreView) (answer : Answer) (a : Array) (n most : ℕ) (r : Result Leaf MadeFault) → answer ≡ Ok a → length a.cells ≡ n → HasRoom old n → OnlyFetched old new most → IsErrAnd r (λ e. e ≡ made.NoMemory) → IsMadeBy (Fetched old most) old new answer r
no_memory old new answer a n most r is many room counted h =
    err_exit (IsMadeBy (Fetched old most) old new answer) r made.NoMemory h (memory_made (Fetched old most) old new answer a n is many room counted)

-- the leaf of these cells was made
pub made_of : (old between new : StoreView) (answer : Answer) (a : Array) (most : ℕ) (kind : Kind) (shape : List ℕ) (cells : List ℤ) (leaf : Leaf) → answer ≡ Ok a → kind ≡ a.kind → shape ≡ a.shape → cells ≡ a.cells → OnlyFetched old between most → IsNewLeaf (λ s. s ≡ between) new (record { kind = kind; shape = shape; cells = cells }) leaf → IsAnswered (Fetched old most) new answer leaf
made_of old between new answer a most kind shape cells leaf is k s c counted made =
    leaf_made (Fetched old most) between new answer a (record { kind = kind; shape = shape; cells = cells }) leaf is
    (λ i. record { kind = k i; shape = s i; cells = c i }) counted made

-- a test that doesn't hold passes
pub passes : (e : ErrorKind) (b : Bool) (next : Answer) → b ≡ false → error_if e b next ≡ next
passes e b next h = ap (λ (t : Bool). error_if e t next) h

-- one that holds stops
pub stops : (e : ErrorKind) (b : Bool) (next : Answer) → b ≡ true → error_if e b next ≡ Err e
stops e b next h = ap (λ (t : Bool). error_if e t next) h

-- an array that is the answer is lawful where the answer is
pub lawful_array : (answer : Answer) (a : Array) → answer ≡ Ok a → IsAnswer answer → IsArray a
lawful_array answer a is h = subst IsAnswer is h

room_before : (old now : StoreView) (n : ℕ) → OnlyCounted old now → HasRoom now n → HasRoom old n
room_before old now n only room = omega (arith, room, ap (λ (s : StoreView). s.live) only, ap (λ (s : StoreView). s.limit) only)

-- what is made after some cells were fetched is made by the whole
pub widened : (old between new : StoreView) (answer later : Answer) (most : ℕ) (r : Result Leaf MadeFault) → answer ≡ later → OnlyFetched old between most → IsMadeBy (λ s. s ≡ between) between new later r → IsMadeBy (Fetched old most) old new answer r
widened old between new answer later most (Ok leaf) same f made = record {
  array = made.array;
  is = same ∙ made.is;
  comes = record {
    key = made.comes.key;
    count = made.comes.count;
    view = made.comes.view;
    made = record { between = made.comes.made.between; counts = subst (Fetched old most) (sym made.comes.made.counts) f; makes = made.comes.made.makes };
  };
}
widened old between new answer later most (Err (made.Error kind)) same f h = record {
  is = same ∙ h.is;
  room = λ n asks. room_before old between n f.only (h.room n (asks.0, sym same ∙ asks.1, asks.2));
  counted = subst (Fetched old most) (sym h.counted) f;
}
widened old between new answer later most (Err (made.WsFull live asked)) same f h = record {
  asks = (h.asks.0, same ∙ h.asks.1, h.asks.2);
  held = h.held ∙ ap (λ (s : StoreView). s.live) f.only;
  full = omega (arith, h.full, ap (λ (s : StoreView). s.live) f.only, ap (λ (s : StoreView). s.limit) f.only);
  counted = subst (Fetched old most) (sym h.counted) f;
}
widened old between new answer later most (Err made.NoMemory) same f h = record {
  room = λ n asks. room_before old between n f.only (h.room n (asks.0, sym same ∙ asks.1, asks.2));
  counted = subst (Fetched old most) (sym h.counted) f;
}

-- the leaf that is answered is lawful
pub answered_lawful : (old new : StoreView) (answer : Answer) (most : ℕ) (leaf : Leaf) → IsAnswered (Fetched old most) new answer leaf → IsLawfulLeaf new leaf
answered_lawful old new answer most leaf h =
    (stands-made h.comes.made.between new h.comes.key h.array.cells h.array.shape h.array.kind leaf h.comes.made.makes h.comes.count h.comes.view).lawful
