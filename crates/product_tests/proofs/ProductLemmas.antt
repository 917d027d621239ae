-- What a product answers can be read.
use Rattle.std.proofs.Common.{ℕ, Result, Ok, Err, IfOk}
use Rattle.array_store.specs.Stores.{StoreView}
use Rattle.drag_along.specs.declared.leaves.Leaf.{Leaf}
use Rattle.drag_along.specs.Lawful.{IsLawfulLeaf}
use Rattle.apl_model.specs.Whole.{Answer}
use Rattle.made_leaf.specs.declared.faults.MadeFault.{MadeFault}
use Rattle.made_leaf.specs.Made.{IsMadeAsking}
use Rattle.product_fns.specs.Reduction.{Applied}
use Rattle.product_fns.proofs.AnswerLemmas.{answered_stands}

pub made_lawful : (old new : StoreView) (functions cells : ℕ) (Asks : ℕ → Type 0) (answer : Answer) (result : Result Leaf MadeFault) → IsMadeAsking (Applied old functions cells) Asks old new answer result → IfOk result (IsLawfulLeaf new)
made_lawful old new functions cells Asks answer (Ok leaf) made = (answered_stands old new functions cells Asks answer leaf made).1.lawful
made_lawful old new functions cells Asks answer (Err why) made = tt
