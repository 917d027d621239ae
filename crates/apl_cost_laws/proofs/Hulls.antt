-- Hulls and exact intervals: what lies in them.
use Rattle.std.proofs.Common.{ℤ, List, [], ◌∷◌, fold}
use Rattle.std.specs.List.{AllByRecursion}
use Rattle.apl_base.specs.declared.cells.Interval.{Interval}
use Rattle.apl_base.specs.declared.cells.Interval.TheVariants.{Empty}
use Rattle.apl_base.specs.Array.{Array, IsArray}
use Rattle.apl_base.specs.Interval.{IsInterval, InInterval, hull, exact_interval}
use Rattle.apl_base.specs.Number.{IsNumber, IsCell}
use Rattle.apl_base.proofs.Lists.{all_imp}
use Rattle.apl_cost.specs.Laws.{LiesIn}
use Rattle.array_store.proofs.IntervalLemmas.{InInterval-hull_new, InInterval-hull_old, IsInterval-hull, IsNumber-from_cell}

-- ---- cells more

pub hulls-keep : (zs : List ℤ) (i : Interval) (w : ℤ) → InInterval i w → InInterval (fold hull i zs) w
hulls-keep [] i w h = h
hulls-keep (z ∷ zs) i w h = hulls-keep zs (hull i z) w (InInterval-hull_old i z w h)

pub hulls-have : (zs : List ℤ) (i : Interval) → AllByRecursion (InInterval (fold hull i zs)) zs
hulls-have [] i = tt
hulls-have (z ∷ zs) i = (hulls-keep zs (hull i z) z (InInterval-hull_new i z), hulls-have zs (hull i z))

pub hulls-interval : (zs : List ℤ) (i : Interval) → IsInterval i → AllByRecursion IsNumber zs → IsInterval (fold hull i zs)
hulls-interval [] i h all = h
hulls-interval (z ∷ zs) i h all = hulls-interval zs (hull i z) (IsInterval-hull i z h all.0) all.1

-- ---- lawful arrays

-- the cells of a lawful array are numbers of the language
pub cells-numbers : (a : Array) → IsArray a → AllByRecursion IsNumber a.cells
cells-numbers a h = all_imp (IsCell a.kind) IsNumber a.cells (IsNumber-from_cell a.kind) h.cells

-- and lie in the exact interval
pub lies-exactly : (a : Array) → IsArray a → LiesIn (exact_interval a.cells) a
lies-exactly a h = record {
  lawful = hulls-interval a.cells Empty tt (cells-numbers a h);
  count = h.count;
  cells = hulls-have a.cells Empty;
}
