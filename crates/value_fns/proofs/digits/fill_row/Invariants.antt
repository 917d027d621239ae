use Rattle.std.proofs.Common.{◌≡◌, ◌++◌, map, take, drop, All}
use Rattle.apl_base.specs.Number.{IsNumber}
use Rattle.apl_model.specs.Made.{carried}
use Rattle.value_fns.specs.Digits.{digit_of}
use Rattle.value_fns.proofs.digits.fill_row.Given as goal

abbrev pub invariant-loop-i : goal.invariant-loop-i
invariant-loop-i l = record {
  row : take l.i l.row ≡ map (digit_of l.base) (take l.i l.initial.values);
  left : l.values ≡ map (carried l.base) (take l.i l.initial.values) ++ drop l.i l.initial.values;
  numbers : All IsNumber l.values;
}
