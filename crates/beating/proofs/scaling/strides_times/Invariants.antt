use Rattle.std.proofs.Common.{◌≡◌, ℤ, ◌*ℤ◌, length, map, take}
use Rattle.std.specs.Int.{int_wrap}
use mir.Syntax.{w128}
use Rattle.beating.proofs.scaling.strides_times.Given as goal

-- the products so far
abbrev pub invariant-loop-stride : goal.invariant-loop-stride
invariant-loop-stride l = record {
  made : l.products.items ≡ map (λ (s : ℤ). int_wrap w128 (s *ℤ l.by)) (take l.stride-index l.stride-items);
  count : length l.products.items ≡ l.stride-index;
  room : l.products.capacity ≡ 8;
}
