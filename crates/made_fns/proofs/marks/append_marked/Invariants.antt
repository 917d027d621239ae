use Rattle.std.proofs.Common.{◌≡◌, ◌++◌, ◌≤◌, take, vec_capacity}
use Rattle.made_fns.proofs.MarkLemmas.{marked}
use Rattle.made_fns.proofs.marks.append_marked.Given as goal

-- the items so far
abbrev pub invariant-loop-i : goal.invariant-loop-i
invariant-loop-i l =
    (l.cells.items ≡ l.fn.cells.items ++ marked (take l.i l.bits) (take l.i l.items))
    × (vec_capacity l.fn.cells ≤ vec_capacity l.cells)
