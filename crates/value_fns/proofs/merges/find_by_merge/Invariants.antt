use Rattle.std.proofs.Common.{◌≡◌, ◌≤◌, length, drop, pos}
use Rattle.apl_model.specs.Made.{counted_from}
use Rattle.value_fns.specs.Placed.{first_place}
use Rattle.value_fns.proofs.Merged.{EachMerged, AllBehind}
use Rattle.value_fns.proofs.merges.find_by_merge.Given as goal

abbrev pub invariant-loop-pair : goal.invariant-loop-pair
invariant-loop-pair l = record {
  each : EachMerged (λ z. counted_from (pos l.origin) (first_place l.cells z)) l.initial.wanted (drop l.pair-index l.order) l.wanted;
  behind : AllBehind l.index l.from l.order l.pair-index;
  within : l.from ≤ length l.index;
  long : length l.wanted ≡ length l.initial.wanted;
}
