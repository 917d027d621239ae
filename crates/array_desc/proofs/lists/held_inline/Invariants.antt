use Rattle.std.proofs.Common.{◌≡◌, length, take}
use Rattle.array_desc.proofs.lists.held_inline.Given as goal

-- the elements so far
abbrev pub invariant-loop-item : goal.invariant-loop-item
invariant-loop-item g l = record {
  held : l.held.items ≡ take l.item-index l.list;
  count : length l.held.items ≡ l.item-index;
  room : l.held.capacity ≡ 8;
}
