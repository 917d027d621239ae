use Rattle.apl_base.specs.Array.{place_at}
use Rattle.apl_base.proofs.Sizes.{RowMajor}
use Rattle.apl_base.proofs.shapes.row_major_place.Given as goal

abbrev pub invariant-loop-n : goal.invariant-loop-n
invariant-loop-n l =
    RowMajor l.n-iterator.a.rest.now l.n-iterator.b.rest.now l.place (place_at l.lengths l.index)
