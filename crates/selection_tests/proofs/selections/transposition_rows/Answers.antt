use Rattle.std.proofs.Common.{[], ◌∷◌, refl, arith}
use Rattle.apl_base.specs.Selection.{AreAxes}
use Rattle.apl_base.proofs.Transposes.{each_held}
use Rattle.selection_tests.proofs.selections.transposition_rows.Goals as goal

swapped : AreAxes 2 (1 ∷ 0 ∷ [])
swapped = record {
  below = (omega arith, (omega arith, tt));
  each = each_held 2 (1 ∷ 0 ∷ []) ((0, omega arith, refl), ((1, omega arith, refl), tt));
}

diagonal : AreAxes 2 (0 ∷ 1 ∷ 0 ∷ [])
diagonal = record {
  below = (omega arith, (omega arith, (omega arith, tt)));
  each = each_held 2 (0 ∷ 1 ∷ 0 ∷ []) ((1, omega arith, refl), ((0, omega arith, refl), tt));
}

pub transposes-requires-clause-axes : goal.transposes-requires-clause-axes
transposes-requires-clause-axes g c = swapped

pub transposes-requires-2-clause-axes : goal.transposes-requires-2-clause-axes
transposes-requires-2-clause-axes g c = diagonal
