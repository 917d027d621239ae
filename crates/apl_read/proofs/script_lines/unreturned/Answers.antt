use Rattle.std.proofs.Common.{◌≡◌, ◌-◌, ◌<◌, length, get_or, sym, ap, ◌∙◌, arith}
use Rattle.std.proofs.lemmas.Bool.{eqb-false}
use Rattle.std.proofs.lemmas.Grind.{get_or_default_zero}
use Rattle.apl_read.proofs.LineLemmas.{returned, not_returned}
use Rattle.apl_read.proofs.script_lines.unreturned.Goals as goal

pub returns-then-line-front-eq13 : goal.returns-then-line-front-eq13
returns-then-line-front-eq13 c =
    let line = c.args.line.now in
    let front = length line - 1 in
    let some = eqb-false (length line) 0 (sym c.is_empty.ensures ∙ c.if-is_empty.false) in
    let inside : front < length line = omega arith in
    let item : c.index-line-front.result ≡ get_or line front 0 = c.index-line-front.is ∙ get_or_default_zero line front c.index-line-front.result inside in
    returned line (λ e. let z = ap length e in omega arith) (sym item ∙ c.if-line-front-eq13.true)

pub returns-else-line-front-eq13 : goal.returns-else-line-front-eq13
returns-else-line-front-eq13 c =
    let line = c.args.line.now in
    let front = length line - 1 in
    let some = eqb-false (length line) 0 (sym c.is_empty.ensures ∙ c.if-is_empty.false) in
    let inside : front < length line = omega arith in
    let item : c.index-line-front.result ≡ get_or line front 0 = c.index-line-front.is ∙ get_or_default_zero line front c.index-line-front.result inside in
    not_returned line (λ f. c.if-line-front-eq13.false (item ∙ f))
