use Rattle.std.proofs.Common.{ℕ}
use Rattle.product_fns.proofs.AnswerLemmas.{answered_stands}
use Rattle.product_fns.proofs.tests.product_of_numbers.Goals as goal

pub inner-requires-clause-left : goal.inner-requires-clause-left
inner-requires-clause-left c = c.numbers-a.ensures.lawful c.new-store.result

pub inner-requires-clause-right : goal.inner-requires-clause-right
inner-requires-clause-right c = c.numbers-b.ensures.lawful c.new-store.result

pub first_cell-requires : goal.first_cell-requires
first_cell-requires c =
    record { lawful = (answered_stands c.new-store.result c.inner.new.store _ _ (λ (n : ℕ). Unit {0}) _ c.in-Ok.leaf c.in-Ok.ensures.answer).1.lawful }
