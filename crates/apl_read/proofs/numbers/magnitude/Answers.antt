use Rattle.std.proofs.Common.{◌≡◌, get_or, true, ap, sym, ◌∙◌, arith}
use Rattle.std.proofs.lemmas.Grind.{get_or_default_zero}
use Rattle.apl_model.specs.Characters.{is_digit}
use Rattle.apl_read.proofs.Digits.{too_many}
use Rattle.apl_read.proofs.numbers.magnitude.Goals as goal

pub returns-then-value-gt-MOST-clause-same : goal.returns-then-value-gt-MOST-clause-same
returns-then-value-gt-MOST-clause-same c =
    let digits = c.args.digits.now in
    let at = c.loop-c.c-index in
    let item : c.c-item.result ≡ get_or digits at 0 = c.c-item.is ∙ get_or_default_zero digits at c.c-item.result c.loop-c-test.true in
    let passes : is_digit (get_or digits at 0) ≡ true = sym (ap is_digit item) ∙ sym c.digit.ensures ∙ c.if-not-digit.false in
    let e = c.from.ensures in
    let f = c.from-in-loop-c.ensures in
    let g = c.if-value-gt-MOST.true in
    too_many digits at c.loop-c.value c.loop-c.invariant c.loop-c-test.true passes (omega arith)
