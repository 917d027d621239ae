use Rattle.std.proofs.Common.{◌∙◌, ◌<◌, pos, get_or, length, ap, sym, subst, arith, rules, to_z, of_z, to_z-of_z, FitsSigned}
use Rattle.std.specs.Int.{w128}
use Rattle.std.proofs.lemmas.List.Elements.{All-set}
use Rattle.apl_base.specs.Number.{IsNumber}
use Rattle.apl_model.specs.Made.{carried}
use Rattle.value_fns.specs.Digits.{digit_of}
use Rattle.value_fns.proofs.Mapped.{mapped_more, still, row_more}
use Rattle.value_fns.proofs.digits.fill_row.Goals as goal

pub loop-i-preserved : goal.loop-i-preserved
loop-i-preserved c =
    let digit_fits : FitsSigned w128 c.digit.result = search rules in
    let carry_fits : FitsSigned w128 c.carry.result = search rules in
    let value_fits : FitsSigned w128 (get_or c.loop-i.values c.loop-i.i (pos 0)) = search rules in
    let base = to_z w128 (of_z w128 c.args.base) in
    let i = c.loop-i.i in
    let below : i < length c.args.values.now = omega arith in
    let under : i < length c.loop-i.values = omega arith in
    let in_row : i < length c.loop-i.row = omega arith in
    let same = to_z-of_z {w = w128} {z = get_or c.loop-i.values i (pos 0)} value_fits in
    let value = same ∙ still (carried base) c.args.values.now c.loop-i.values i (pos 0) below c.loop-i.invariant.left in
    record {
      row = row_more (digit_of base) c.args.values.now c.loop-i.row i _ below in_row c.loop-i.invariant.row (to_z-of_z {w = w128} {z = c.digit.result} digit_fits ∙ c.digit.ensures ∙ ap (digit_of base) value);
      left = mapped_more (carried base) c.args.values.now c.loop-i.values i _ below under c.loop-i.invariant.left (to_z-of_z {w = w128} {z = c.carry.result} carry_fits ∙ c.carry.ensures.left ∙ ap (carried base) same);
      numbers = All-set IsNumber c.loop-i.values i (to_z w128 (of_z w128 c.carry.result)) (subst IsNumber (sym (to_z-of_z {w = w128} {z = c.carry.result} carry_fits)) c.carry.ensures.number) c.loop-i.invariant.numbers;
    }
