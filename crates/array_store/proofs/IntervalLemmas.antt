-- Lemmas on intervals, for this crate and its callers.
use Rattle.std.proofs.Common.{◌≡◌, ◌⊎◌, suc, ℤ, pos, negsuc, List, [], ◌∷◌, fold, refl, sym, subst, inl, inr, arith, All, Contains}
use Rattle.std.specs.Int.{int_min, int_max}
use Rattle.std.proofs.lemmas.Int.{ints, clamps, fold-int_min_reached, fold-int_max_reached}
use Rattle.std.proofs.lemmas.List.Elements.{All-nil, All-cons, All-head, All-tail}
use Rattle.std.proofs.Math.Utf8.{scalar_fits}
use Rattle.apl_base.specs.declared.cells.Kind.{Kind}
use Rattle.apl_base.specs.declared.cells.Kind.TheVariants.{Num, Char}
use Rattle.apl_base.specs.declared.cells.Interval.{Interval}
use Rattle.apl_base.specs.declared.cells.Interval.TheVariants.{Empty, Span}
use Rattle.apl_base.specs.Number.{IsNumber, IsCell}
use Rattle.apl_base.specs.Interval.{InInterval, IsInterval, hull, exact_interval}
use Rattle.apl_base.proofs.Numbers.{IsNumber-int_min, IsNumber-int_max}
use Rattle.array_store.specs.Laws.{IsLeastToGreatest}

-- a cell lies in each hull with it
pub InInterval-hull_new : (i : Interval) (c : ℤ) → InInterval (hull i c) c
InInterval-hull_new Empty c = (omega (arith, ints), omega (arith, ints))
InInterval-hull_new (Span lo hi) c = (omega (arith, ints, clamps), omega (arith, ints, clamps))

-- and a hull loses no cell
pub InInterval-hull_old : (i : Interval) (c x : ℤ) → InInterval i x → InInterval (hull i c) x
InInterval-hull_old Empty c x h = absurd h
InInterval-hull_old (Span lo hi) c x h = (omega (arith, ints, clamps), omega (arith, ints, clamps))

pub IsInterval-hull : (i : Interval) (c : ℤ) → IsInterval i → IsNumber c → IsInterval (hull i c)
IsInterval-hull Empty c h n = record { least = n; order = omega (arith, ints); most = n }
IsInterval-hull (Span lo hi) c h n =
    record { least = IsNumber-int_min lo c h.least n; order = omega (arith, ints, clamps); most = IsNumber-int_max hi c h.most n }

-- a character is a number too
pub IsNumber-from_cell : (k : Kind) (c : ℤ) → IsCell k c → IsNumber c
IsNumber-from_cell Num c h = h
IsNumber-from_cell Char (pos c) h =
    let small = scalar_fits c h in
    record { least = omega (arith, ints); most = omega (arith, ints) }
IsNumber-from_cell Char (negsuc c) h = absurd h

-- from any interval on: the hull with each cell of a list
pub All-fold_hull : (i : Interval) (cells : List ℤ) → All (InInterval (fold hull i cells)) cells
All-fold_hull i [] = All-nil _
All-fold_hull i (c ∷ cs) =
    All-cons (InInterval (fold hull (hull i c) cs)) c cs (InInterval-fold_hull (hull i c) cs c (InInterval-hull_new i c)) (All-fold_hull (hull i c) cs)
  where
    InInterval-fold_hull : (i : Interval) (cells : List ℤ) (x : ℤ) → InInterval i x → InInterval (fold hull i cells) x
    InInterval-fold_hull i [] x h = h
    InInterval-fold_hull i (c ∷ cs) x h = InInterval-fold_hull (hull i c) cs x (InInterval-hull_old i c x h)

IsInterval-fold_hull : (k : Kind) (i : Interval) (cells : List ℤ) → IsInterval i → All (IsCell k) cells → IsInterval (fold hull i cells)
IsInterval-fold_hull k i [] h cs = h
IsInterval-fold_hull k i (c ∷ cs) h all =
    IsInterval-fold_hull k (hull i c) cs (IsInterval-hull i c h (IsNumber-from_cell k c (All-head (IsCell k) c cs all))) (All-tail (IsCell k) c cs all)

-- each cell lies in the exact interval of the cells
pub All-exact_interval : (cells : List ℤ) → All (InInterval (exact_interval cells)) cells
All-exact_interval cells = All-fold_hull Empty cells

pub IsInterval-exact : (k : Kind) (cells : List ℤ) → All (IsCell k) cells → IsInterval (exact_interval cells)
IsInterval-exact k cells all = IsInterval-fold_hull k Empty cells tt all

fold-hull_span : (lo hi : ℤ) (cells : List ℤ) → fold hull (Span lo hi) cells ≡ Span (fold int_min lo cells) (fold int_max hi cells)
fold-hull_span lo hi [] = refl
fold-hull_span lo hi (c ∷ cs) = fold-hull_span (int_min lo c) (int_max hi c) cs

-- the exact interval is the one from the least of the cells to the greatest
pub IsLeastToGreatest-exact : (cells : List ℤ) → IsLeastToGreatest cells (exact_interval cells)
IsLeastToGreatest-exact [] = refl
IsLeastToGreatest-exact (c ∷ cs) =
    let spans : exact_interval (c ∷ cs) ≡ Span (fold int_min c cs) (fold int_max c cs) = fold-hull_span c c cs in
    subst (IsLeastToGreatest (c ∷ cs)) (sym spans) (
      Contains-first_or_rest c cs _ (fold-int_min_reached c cs _ refl),
      Contains-first_or_rest c cs _ (fold-int_max_reached c cs _ refl),
      subst (λ i. All (InInterval i) (c ∷ cs)) spans (All-exact_interval (c ∷ cs)),
    )
  where
    Contains-first_or_rest : (c : ℤ) (cs : List ℤ) (x : ℤ) → (x ≡ c) ⊎ Contains cs x → Contains (c ∷ cs) x
    Contains-first_or_rest c cs x (inl same) = (0, omega arith, sym same)
    Contains-first_or_rest c cs x (inr there) = (suc there.0, omega (arith, there.1), there.2)
