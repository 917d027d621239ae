-- What products give into hand.
use Rattle.std.proofs.Common.{ℕ}
use Rattle.std.specs.Prelude.{Result}
use Rattle.array_store.specs.Stores.{StoreView}
use Rattle.drag_along.specs.declared.leaves.Leaf.{Leaf}
use Rattle.apl_model.specs.Whole.{Answer}
use Rattle.made_leaf.specs.declared.faults.MadeFault.{MadeFault}
use Rattle.made_leaf.specs.Made.{IsMadeAsking}
use Rattle.product_fns.specs.Reduction.{Applied}
use Rattle.leaf_steps.specs.Making.{IsMade}
use Rattle.leaf_steps.proofs.MakingLemmas.{made_so}

pub product_by : (Asks : ℕ → Type 0) (old new : StoreView) (functions cells : ℕ) (answer : Answer) (result : Result Leaf MadeFault) → IsMadeAsking (Applied old functions cells) Asks old new answer result → IsMade old new answer result
product_by Asks old new functions cells answer result made = made_so (Applied old functions cells) Asks old new answer result (λ s f. f.only) made
