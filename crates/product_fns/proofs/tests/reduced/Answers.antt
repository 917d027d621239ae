use Rattle.std.proofs.Common.{ℕ}
use Rattle.product_fns.proofs.AnswerLemmas.{answered_stands}
use Rattle.product_fns.proofs.tests.reduced.Goals as goal

pub reduce-requires : goal.reduce-requires
reduce-requires c = c.numbers-b.ensures.lawful c.new-store.result

pub first_cell-requires : goal.first_cell-requires
first_cell-requires c =
    record { lawful = (answered_stands c.new-store.result c.reduce.new.store _ _ (λ (n : ℕ). Unit {0}) _ c.in-Ok.leaf c.in-Ok.ensures.answer).1.lawful }
