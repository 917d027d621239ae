use Rattle.apl_model.specs.Characters.{is_number_part}
use Rattle.apl_read.proofs.WordLemmas.{ArePassed}
use Rattle.apl_read.proofs.pieces.number_length.Given as goal

abbrev pub invariant-loop-at : goal.invariant-loop-at
invariant-loop-at l = ArePassed is_number_part l.rest l.at
