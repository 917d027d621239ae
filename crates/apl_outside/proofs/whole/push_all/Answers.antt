use Rattle.std.proofs.Common.{arith}
use Rattle.std.proofs.lemmas.List.{take_rest}
use Rattle.apl_outside.proofs.Parts.{gains_then, take_further}
use Rattle.apl_outside.proofs.whole.push_all.Goals as goal

pub loop-done-preserved : goal.loop-done-preserved
loop-done-preserved g c = record {
  within = omega (arith, c.in_ok-done.ensures.bound);
  added =
      rw (← take_further c.loop-done.done c.in_ok-done.field-0 c.args.piece.now)
      (gains_then _ _ _ _ _ c.loop-done.invariant.added (rw take_rest at c.in_ok-done.ensures.added));
  never_falls = omega (arith, c.loop-done.invariant.never_falls, c.in_ok-done.ensures.never_falls);
  untouched = λ none. absurd (omega (arith, none, c.in_ok-done.ensures.some));
}
