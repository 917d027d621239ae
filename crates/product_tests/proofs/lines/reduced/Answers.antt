use Rattle.std.proofs.Common.{ℕ}
use Rattle.product_fns.proofs.AnswerLemmas.{answered_stands}
use Rattle.product_tests.proofs.lines.reduced.Goals as goal

pub read_cells-requires : goal.read_cells-requires
read_cells-requires c =
    record { lawful = (answered_stands c.args.store.now c.reduce.new.store _ _ (λ (n : ℕ). Unit {0}) _ c.in_ok-made.made c.in_ok-made.ensures.answer).1.lawful }
