-- What a function that is made at once answers can be read.
use Rattle.std.proofs.Common.{ℕ, zero, suc, [], ◌∷◌, Option, Result, Ok, Err, IfOk, IfSome, All, arith}
use Rattle.array_store.specs.Stores.{StoreView}
use Rattle.drag_along.specs.declared.leaves.Leaf.{Leaf}
use Rattle.drag_along.specs.Lawful.{IsLawfulLeaf}
use Rattle.apl_model.specs.Whole.{Answer}
use Rattle.made_leaf.specs.declared.faults.MadeFault.{MadeFault}
use Rattle.made_leaf.specs.Made.{Fetched, IsMadeBy}
use Rattle.made_fns.proofs.TestLemmas.{answered_lawful}

pub made_lawful : (old new : StoreView) (most : ℕ) (answer : Answer) (result : Result Leaf MadeFault) → IsMadeBy (Fetched old most) old new answer result → IfOk result (IsLawfulLeaf new)
made_lawful old new most answer (Ok leaf) made = answered_lawful old new most answer leaf made
made_lawful old new most answer (Err why) made = tt

-- positions that are leaves, or left out
pub one_place : (store : StoreView) (p : Option Leaf) → IfSome p (IsLawfulLeaf store) → All (λ (q : Option Leaf). IfSome q (IsLawfulLeaf store)) (p ∷ [])
one_place store p h zero d below = h
one_place store p h (suc i) d below = absurd (omega (arith, below))

pub two_places : (store : StoreView) (p q : Option Leaf) → IfSome p (IsLawfulLeaf store) → IfSome q (IsLawfulLeaf store) → All (λ (r : Option Leaf). IfSome r (IsLawfulLeaf store)) (p ∷ q ∷ [])
two_places store p q h g zero d below = h
two_places store p q h g (suc zero) d below = g
two_places store p q h g (suc (suc i)) d below = absurd (omega (arith, below))
