use Rattle.std.proofs.Common.{◌≡◌, ◌-◌, ◌≤◌, ◌%◌, ◌⊎◌, pos, map, vec_capacity, ◌<◌}
use Rattle.std.specs.Prelude.{slice_index_or}
use Rattle.apl_base.specs.Selection.{upward}
use Rattle.leaf_names.specs.Variables.{array_of}
use Rattle.made_fns.specs.Answers.{elements_in}
use Rattle.made_fns.proofs.reshapes.repeat.Given as goal

-- so many elements stand there: all of B a number of times, or as many as are wanted
abbrev pub invariant-loop-done : goal.invariant-loop-done
invariant-loop-done l =
    (l.cells.items ≡ map (λ p. slice_index_or (array_of l.fn.store l.b).cells (p % elements_in l.b) (pos 0)) (upward 0 l.done))
    × ((l.done ≡ l.size) ⊎ ((l.done % elements_in l.b ≡ 0) × (0 < l.done)))
    × (l.done ≤ l.size) × (l.size ≤ vec_capacity l.cells)

abbrev pub decreases-loop-done : goal.decreases-loop-done
decreases-loop-done l = l.size - l.done
