-- What functions made at once give into hand.
use Rattle.std.proofs.Common.{◌≡◌, ℕ, Ok, Err, refl, ap, arith}
use Rattle.std.specs.Prelude.{Result}
use Rattle.apl_base.specs.declared.faults.ErrorKind.{ErrorKind}
use Rattle.apl_base.specs.Array.{Array}
use Rattle.array_store.specs.Stores.{StoreView}
use Rattle.array_store.specs.Counting.{OnlyCounted, OnlyFetched}
use Rattle.array_store.specs.Follows.{LeafCounts, Follows, both, none}
use Rattle.array_store.proofs.CountingLemmas.{follows-counted}
use Rattle.array_store.proofs.FollowsLemmas.{follows_then, follows_beside, follows_after, follows_counted}
use Rattle.drag_along.specs.declared.leaves.Leaf.{Leaf}
use Rattle.drag_along.specs.Nodes.{named_by_leaf}
use Rattle.drag_along.specs.Lawful.{SameData}
use Rattle.e_machine.specs.Forced.{IsNewLeaf, named_by_answer}
use Rattle.apl_model.specs.Whole.{Answer}
use Rattle.made_leaf.specs.declared.faults.MadeFault.{MadeFault}
use Rattle.made_leaf.specs.declared.faults.MadeFault.TheVariants as made
use Rattle.made_leaf.specs.Made.{Fetched, AsksFor, IsMadeAsking, IsMadeBy}
use Rattle.made_leaf.proofs.MadeLemmas.{made_only, made_follows, made_stands}
use Rattle.made_fns.specs.Answers.{IsNumbersOf}
use Rattle.leaf_names.proofs.StandsLemmas.{stands_kept}
use Rattle.leaf_steps.specs.Making.{Answers, IsMade}

-- whatever was counted before the leaf came, nothing else was done
new_leaf_only : (Counts : StoreView → Type 0) (old new : StoreView) (a : Array) (leaf : Leaf) → ((s : StoreView) → Counts s → OnlyCounted old s) → IsNewLeaf Counts new a leaf → IsNewLeaf (OnlyCounted old) new a leaf
new_leaf_only Counts old new a leaf only made = record {
  key = made.key;
  count = made.count;
  view = made.view;
  made = record { between = made.made.between; counts = only made.made.between made.made.counts; makes = made.made.makes };
}

answers_so : (Counts : StoreView → Type 0) (Asks : ℕ → Type 0) (old new : StoreView) (answer : Answer) (result : Result Leaf MadeFault) → ((s : StoreView) → Counts s → OnlyCounted old s) → IsMadeAsking Counts Asks old new answer result → Answers old.limit new answer result
answers_so Counts Asks old new answer (Ok leaf) only made = record {
  array = made.array;
  is = made.is;
  stands = made_stands old new made.array leaf (new_leaf_only Counts old new made.array leaf only made.comes);
}
answers_so Counts Asks old new answer (Err (made.Error kind)) only made = made.is
answers_so Counts Asks old new answer (Err (made.WsFull live asked)) only made = omega (arith, made.held, made.full)
answers_so Counts Asks old new answer (Err made.NoMemory) only made = tt

pub made_so : (Counts : StoreView → Type 0) (Asks : ℕ → Type 0) (old new : StoreView) (answer : Answer) (result : Result Leaf MadeFault) → ((s : StoreView) → Counts s → OnlyCounted old s) → IsMadeAsking Counts Asks old new answer result → IsMade old new answer result
made_so Counts Asks old new answer result only made = record {
  answers = answers_so Counts Asks old new answer result only made;
  follows = made_follows old new result (made_only Counts Asks old new answer result only made);
}

-- functions that only fetch
pub made_by : (old new : StoreView) (most : ℕ) (answer : Answer) (result : Result Leaf MadeFault) → IsMadeBy (Fetched old most) old new answer result → IsMade old new answer result
made_by old new most answer result made = made_so (Fetched old most) (AsksFor answer) old new answer result (λ s f. f.only) made

-- a leaf of numbers that are not stored, or its error
pub numbers_by : (old new : StoreView) (most : ℕ) (answer : Answer) (leaf : Leaf) → OnlyFetched old new most → IsNumbersOf answer leaf → IsMade old new answer (Ok leaf)
numbers_by old new most answer leaf counted numbers = record {
  answers = record { array = numbers.array; is = numbers.is; stands = numbers.stands new };
  follows =
      follows_counted old new none none none (named_by_leaf leaf) (λ key. refl) (λ key. ap (λ (l : Leaf). named_by_leaf l key) numbers.numbers)
      (follows-counted old new counted.only);
}

pub error_by : (old new : StoreView) (most : ℕ) (answer : Answer) (kind : ErrorKind) → OnlyFetched old new most → answer ≡ Err kind → IsMade old new answer (Err (made.Error kind))
error_by old new most answer kind counted is = record { answers = is; follows = follows-counted old new counted.only }

-- ---- once the arguments are let go

-- arguments are let go, and what was made stays
pub let_go : (old made given : StoreView) (hand came : LeafCounts) → Follows old made none came → Follows made given hand none → Follows old given hand came
let_go old made given hand came first second =
    follows_counted old given (both hand none) (both none came) hand came (λ key. omega arith) (λ key. omega arith)
    (follows_then old made given (both hand none) (both hand came) (both none came) (follows_after old made none came hand first) (follows_beside made given hand none came second))

pub answers_kept : (limit : ℕ) (old new : StoreView) (answer : Answer) (result : Result Leaf MadeFault) → SameData old new (named_by_answer result) → Answers limit old answer result → Answers limit new answer result
answers_kept limit old new answer (Ok leaf) same answers = record { array = answers.array; is = answers.is; stands = stands_kept old new leaf answers.array same answers.stands }
answers_kept limit old new answer (Err (made.Error kind)) same answers = answers
answers_kept limit old new answer (Err (made.WsFull live asked)) same answers = answers
answers_kept limit old new answer (Err made.NoMemory) same answers = tt
