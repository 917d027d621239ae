use Rattle.std.proofs.Common.{◌≡◌, pos, negsuc, ◌%◌, unsigned_abs, ap, ◌∙◌, sym, arith}
use Rattle.std.proofs.lemmas.Int.{ints}
use Rattle.scalar_table.proofs.Powers.{power-one, power-minus_one-even, power-minus_one-odd}
use Rattle.scalar_table.proofs.numbers.unit_power_of.Goals as goal

pub returns-then-base-eq1 : goal.returns-then-base-eq1
returns-then-base-eq1 c = let e : c.args.base ≡ pos 1 = omega (arith, ints) in rw e (sym (power-one c.args.exponent))

pub returns-then-unsigned_abs-eq0 : goal.returns-then-unsigned_abs-eq0
returns-then-unsigned_abs-eq0 c =
    let base : c.args.base ≡ negsuc 0 = omega (arith, ints) in
    let even : unsigned_abs c.args.exponent % 2 ≡ 0 = omega (arith, ints) in
    rw base (sym (power-minus_one-even c.args.exponent even))

pub returns-else-unsigned_abs-eq0 : goal.returns-else-unsigned_abs-eq0
returns-else-unsigned_abs-eq0 c =
    let base : c.args.base ≡ negsuc 0 = omega (arith, ints) in
    let same : c.unsigned_abs.result ≡ unsigned_abs c.args.exponent = omega (arith, ints) in
    let odd : unsigned_abs c.args.exponent % 2 ≡ 0 → ⊥ =
    λ e. c.if-unsigned_abs-eq0.false (ap (λ n. n % 2) same ∙ e) in
    rw base (sym (power-minus_one-odd c.args.exponent odd))
