use Rattle.std.proofs.Common.{arith}
use Rattle.std.proofs.lemmas.Int.{ints}
use Rattle.value_range.proofs.Equal.{always-same}
use Rattle.value_range.proofs.rows.one.MinusRowRangeRow.at.Goals as goal

pub returns : goal.returns
returns c =
    let l = c.requires.right.least in
    let m = c.requires.right.most in
    always-same c.always.result _ _ _ _ c.always.ensures (omega (arith, ints)) (omega (arith, ints))
