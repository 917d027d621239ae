-- What a function of whole arrays that is made at once answers, and what it leaves of a store.
use Rattle.std.specs.Prelude.{◌≡◌, ℕ, ◌+◌, ◌<◌, length, Result, Ok, Err}
use Rattle.apl_base.specs.declared.faults.ErrorKind.{ErrorKind}
use Rattle.apl_base.specs.Array.{Array}
use Rattle.array_store.specs.Stores.{StoreView, HasRoom}
use Rattle.array_store.specs.Counting.{OnlyFetched}
use Rattle.array_store.specs.declared.ids.BeginFault.{BeginFault}
use Rattle.array_store.specs.declared.ids.BeginFault.TheVariants as begin
use Rattle.drag_along.specs.declared.leaves.Leaf.{Leaf}
use Rattle.e_machine.specs.Forced.{IsNewLeaf}
use Rattle.apl_model.specs.Whole.{Answer}
use Rattle.made_leaf.specs.declared.faults.MadeFault.{MadeFault}
use Rattle.made_leaf.specs.declared.faults.MadeFault.TheVariants as made

-- the store only fetched, at most so many cells
abbrev pub Fetched : StoreView → ℕ → StoreView → Type 0
Fetched old most new = OnlyFetched old new most

-- where the answer is an array, room is asked for its cells, and for nothing else
abbrev pub AsksFor : Answer → ℕ → Type 0
AsksFor answer n = (a : Array) × (answer ≡ Ok a) × (n ≡ length a.cells)

-- ---- what is answered. `Counts` says of a store what may have been counted before it came to be; `Asks` says for
-- how many cells room is asked, which is done after the errors that come first and before anything else

-- the leaf reads a new owner with one holder and just the cells of the array that is the answer
pub record IsAnswered (Counts : StoreView → Type 0) (new : StoreView) (answer : Answer) (leaf : Leaf) : Type 0 where
  pub array : Array
  pub is : answer ≡ Ok array
  pub comes : IsNewLeaf Counts new array leaf

-- the answer is this error, and what was asked for has room
pub record IsErrorOf (Counts : StoreView → Type 0) (Asks : ℕ → Type 0) (old new : StoreView) (answer : Answer) (kind : ErrorKind) : Type 0 where
  pub is : answer ≡ Err kind
  pub room : (n : ℕ) → Asks n → HasRoom old n
  pub counted : Counts new

-- room is asked for so many cells, and there is none, as both numbers say
pub record IsWsFull (Counts : StoreView → Type 0) (Asks : ℕ → Type 0) (old new : StoreView) (live asked : ℕ) : Type 0 where
  pub asks : Asks asked
  pub held : live ≡ old.live
  pub full : old.limit < old.live + asked
  pub counted : Counts new

-- what was asked for has room
pub record IsNoMemory (Counts : StoreView → Type 0) (Asks : ℕ → Type 0) (old new : StoreView) : Type 0 where
  pub room : (n : ℕ) → Asks n → HasRoom old n
  pub counted : Counts new

-- what is answered where room is asked for so many cells
abbrev pub IsMadeAsking : (Counts : StoreView → Type 0) (Asks : ℕ → Type 0) (old new : StoreView) (answer : Answer) → Result Leaf MadeFault → Type 0
IsMadeAsking Counts Asks old new answer (Ok leaf) = IsAnswered Counts new answer leaf
IsMadeAsking Counts Asks old new answer (Err (made.Error kind)) = IsErrorOf Counts Asks old new answer kind
IsMadeAsking Counts Asks old new answer (Err (made.WsFull live asked)) = IsWsFull Counts Asks old new live asked
IsMadeAsking Counts Asks old new answer (Err made.NoMemory) = IsNoMemory Counts Asks old new

-- what is answered where room is asked for after every error, for the cells of the answer
abbrev pub IsMadeBy : (Counts : StoreView → Type 0) (old new : StoreView) (answer : Answer) → Result Leaf MadeFault → Type 0
IsMadeBy Counts old new answer result = IsMadeAsking Counts (AsksFor answer) old new answer result

-- what a store's refusal to make room is for these functions: the same cause with the same numbers
abbrev pub fault_of : BeginFault → MadeFault
fault_of (begin.WsFull live asked) = made.WsFull live asked
fault_of begin.NoMemory = made.NoMemory

-- ---- room

-- why there is no vector for so many cells: there is no room for them, or memory is wanting
abbrev pub IsRoomFault : StoreView → ℕ → MadeFault → Type 0
IsRoomFault store n (made.Error kind) = ⊥
IsRoomFault store n (made.WsFull live asked) = (live ≡ store.live) × (asked ≡ n) × (store.limit < store.live + n)
IsRoomFault store n made.NoMemory = HasRoom store n
