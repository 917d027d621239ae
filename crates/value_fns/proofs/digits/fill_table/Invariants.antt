use Rattle.std.proofs.Common.{◌≡◌, ◌≤◌, ◌*◌, map, length, drop, All}
use Rattle.apl_base.specs.Number.{IsNumber}
use Rattle.value_fns.specs.Digits.{left_over, digit_table}
use Rattle.value_fns.proofs.digits.fill_table.Given as goal

abbrev pub invariant-loop-place : goal.invariant-loop-place
invariant-loop-place l = record {
  within : l.place ≤ length l.bases;
  end : l.end ≡ l.place * l.count;
  table : drop l.end l.into ≡ digit_table (drop l.place l.bases) l.initial.values;
  left : l.values ≡ map (left_over (drop l.place l.bases)) l.initial.values;
  numbers : All IsNumber l.values;
}

abbrev pub decreases-loop-place : goal.decreases-loop-place
decreases-loop-place l = l.place
