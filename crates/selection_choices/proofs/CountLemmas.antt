-- Counts that are taken or dropped.
use Rattle.std.proofs.Common.{◌≡◌, ◌==◌, ℕ, zero, suc, ◌+◌, ◌-◌, ◌<◌, ◌≤◌, ◌^◌, Bool, true, false, if◌then◌else◌, ℤ, pos, unsigned_abs, List, [], ◌∷◌, ◌++◌, length, replicate, take, get_or, Ok, refl, sym, ap, subst, ◌∙◌, arith}
use Rattle.std.specs.List.{AllByRecursion}
use Rattle.std.proofs.lemmas.List.{take_more, take-replicate}
use Rattle.std.proofs.lemmas.Bool.{eqb-true}
use Rattle.apl_base.specs.declared.cells.Kind.TheVariants.{Num}
use Rattle.apl_base.specs.Array.{Array, IsShape}
use Rattle.apl_base.specs.Selection.{CountsFit}
use Rattle.apl_base.proofs.Booleans.{eqb-same, eqb-other}
use Rattle.beating.specs.declared.selections.Selection.{Selection}
use Rattle.beating.specs.declared.selections.Selection.TheVariants as select
use Rattle.beating.specs.Selecting.{Fits, selected}
use Rattle.apl_model.specs.Whole.{Answer, rank}
use Rattle.apl_model.specs.Made.{taken_shape, take_or_pad, drop_from}
use Rattle.pending_laws.specs.Joins.{IsComplete}
use Rattle.pending_laws.specs.Selections.{TakesCounts, DropsCounts, taken_from, ListsCounts, capped, capped_counts}
use Rattle.pending_laws.proofs.CountLemmas.{taken_scalar_extends, taken_from_itself, taken_is_selected, dropped_is_selected}
use Rattle.selection_choices.specs.declared.choices.Choice.TheVariants as choice
use Rattle.selection_choices.specs.Choices.{ChoiceFits, chosen, IsOfShape, Chooses, axes_under, choice_from}
use Rattle.selection_choices.specs.Left.{Lists}
use Rattle.apl_base.proofs.ShapeLemmas.{no_axes}

-- ---- axes of length 1

ones-each : (n : ℕ) → AllByRecursion (λ m. m ≤ 2 ^ 40) (replicate n 1)
ones-each zero = tt
ones-each (suc n) = (omega arith, ones-each n)

-- eight of them begin with so many
pub first_ones : (k : ℕ) (ones : List ℕ) → k ≤ 8 → ones ≡ 1 ∷ 1 ∷ 1 ∷ 1 ∷ 1 ∷ 1 ∷ 1 ∷ 1 ∷ [] → take k ones ≡ replicate k 1
first_ones k ones h e = ap (λ (xs : List ℕ). take k xs) e ∙ take-replicate k 8 1 h

-- which axes there are
pub under_scalar : (n : ℕ) (ns : List ℕ) → length ns ≡ 0 → axes_under n ns ≡ replicate n 1
under_scalar n ns e = ap (λ (t : Bool). if t then replicate n 1 else ns) (eqb-same (length ns) 0 e)

pub under_axes : (n : ℕ) (ns : List ℕ) → 0 < length ns → axes_under n ns ≡ ns
under_axes n ns h = ap (λ (t : Bool). if t then replicate n 1 else ns) (eqb-other (length ns) 0 (length ns - 1) (omega (arith, h)))

-- ---- counts that fit

pub counts_fit : (ns : List ℕ) (counts : List ℤ) → length counts ≡ length ns → ((j : ℕ) → j < length ns → unsigned_abs (get_or counts j (pos 0)) ≤ get_or ns j 0) → CountsFit ns counts
counts_fit [] [] h each = tt
counts_fit [] (a ∷ counts) h each = absurd (omega (arith, h))
counts_fit (n ∷ ns) [] h each = absurd (omega (arith, h))
counts_fit (n ∷ ns) (a ∷ counts) h each = (each 0 (omega arith), counts_fit ns counts (omega (arith, h)) (λ j w. each (suc j) (omega (arith, w))))

pub counts_at : (ns : List ℕ) (counts : List ℤ) → CountsFit ns counts → (j : ℕ) → j < length ns → unsigned_abs (get_or counts j (pos 0)) ≤ get_or ns j 0
counts_at [] [] f j w = absurd (omega (arith, w))
counts_at [] (a ∷ counts) f j w = absurd f
counts_at (n ∷ ns) [] f j w = absurd f
counts_at (n ∷ ns) (a ∷ counts) f zero w = f.0
counts_at (n ∷ ns) (a ∷ counts) f (suc j) w = counts_at ns counts f.1 j (omega (arith, w))

-- ---- counts that are capped

pub capped-length : (ns : List ℕ) (counts : List ℤ) → length counts ≡ length ns → length (capped_counts ns counts) ≡ length ns
capped-length [] [] h = refl
capped-length [] (a ∷ counts) h = absurd (omega (arith, h))
capped-length (n ∷ ns) [] h = absurd (omega (arith, h))
capped-length (n ∷ ns) (a ∷ counts) h = ap suc (capped-length ns counts (omega (arith, h)))

capped-at : (ns : List ℕ) (counts : List ℤ) (j : ℕ) → length counts ≡ length ns → j < length ns → get_or (capped_counts ns counts) j (pos 0) ≡ capped (get_or ns j 0) (get_or counts j (pos 0))
capped-at [] counts j h w = absurd (omega (arith, w))
capped-at (n ∷ ns) [] j h w = absurd (omega (arith, h))
capped-at (n ∷ ns) (a ∷ counts) zero h w = refl
capped-at (n ∷ ns) (a ∷ counts) (suc j) h w = capped-at ns counts j (omega (arith, h)) (omega (arith, w))

-- one more
pub capped_more : (ns : List ℕ) (counts done : List ℤ) (j : ℕ) (z : ℤ) → length counts ≡ length ns → j < length ns → done ≡ take j (capped_counts ns counts) → z ≡ capped (get_or ns j 0) (get_or counts j (pos 0)) → done ++ z ∷ [] ≡ take (j + 1) (capped_counts ns counts)
capped_more ns counts done j z h w is e =
    ap (λ (xs : List ℤ). xs ++ z ∷ []) is
    ∙ ap (λ (x : ℤ). take j (capped_counts ns counts) ++ x ∷ []) (e ∙ sym (capped-at ns counts j h w))
    ∙ sym (take_more (capped_counts ns counts) j (pos 0) (omega (arith, capped-length ns counts h, w)))

-- ---- the choice

under_same : (numbers : List ℤ) (a b : Array) → Lists numbers a → taken_shape a b ≡ axes_under (length numbers) b.shape
under_same numbers a b l =
    ap (λ (n : ℕ). axes_under n b.shape) (sym l.list.complete ∙ ap (λ (zs : List ℤ). length zs) l.cells)

lists_counts : (numbers : List ℤ) (a b : Array) → Lists numbers a → length numbers ≡ length (axes_under (length numbers) b.shape) → ListsCounts a b
lists_counts numbers a b l asked = record {
  list = l.list;
  count = ap (λ (zs : List ℤ). length zs) l.cells ∙ asked ∙ ap (λ (ns : List ℕ). length ns) (sym (under_same numbers a b l));
}

some_axis : (r : ℕ) → (r == 0) ≡ false → 0 < r
some_axis zero g = absurd cc
some_axis (suc r) g = omega arith

-- a selection from the axes is one from what is taken from
widened : (axes : List ℕ) (by : Selection) (a b : Array) → axes ≡ taken_shape a b → IsComplete b → selected by (taken_from a b) ≡ chosen (choice_from axes by b.shape) b
widened axes by a b e complete = cases (rank b == 0) refl
  where
    cases : (t : Bool) → (rank b == 0) ≡ t → selected by (taken_from a b) ≡ chosen (if t then choice.Widen axes by else choice.Select by) b
    cases true f = ap (selected by) (taken_scalar_extends a b complete (eqb-true (rank b) 0 f) ∙ ap (λ (ns : List ℕ). selected (select.Extend ns) b) (sym e))
    cases false f = ap (selected by) (taken_from_itself a b (some_axis (rank b) f))

-- and it may be made
may_widen : (k : ℕ) (axes : List ℕ) (by : Selection) (ns : List ℕ) → axes ≡ axes_under k ns → Fits by axes → ChoiceFits (choice_from axes by ns) ns
may_widen k axes by ns e fits = cases (length ns == 0) refl e
  where
    cases : (t : Bool) → (length ns == 0) ≡ t → axes ≡ (if t then replicate k 1 else ns) → ChoiceFits (if t then choice.Widen axes by else choice.Select by) ns
    cases true f is = (no_axes ns (eqb-true (length ns) 0 f), fits)
    cases false f is = subst (Fits by) is fits

take_fits : (axes : List ℕ) (numbers : List ℤ) (by : Selection) → TakesCounts numbers by → CountsFit axes numbers → Fits by axes
take_fits axes numbers (select.Take given) t f = subst (CountsFit axes) (sym t) f
take_fits axes numbers other t f = absurd t

module _ (numbers : List ℤ) (ns axes : List ℕ) (by : Selection) (a : Array) (lists : Lists numbers a) (is : axes ≡ axes_under (length numbers) ns) (shape : IsShape axes) (asked : length numbers ≡ length axes) where
  -- for an array of the shape
  of_shape : (b : Array) → b.shape ≡ ns → axes ≡ taken_shape a b
  of_shape b e = is ∙ ap (axes_under (length numbers)) (sym e) ∙ sym (under_same numbers a b lists)

  counts_of : (b : Array) → b.shape ≡ ns → ListsCounts a b
  counts_of b e =
      lists_counts numbers a b lists (asked ∙ ap (λ (ms : List ℕ). length ms) (is ∙ ap (axes_under (length numbers)) (sym e)))

  answers : (f : Array → Answer) → ((b : Array) → b.shape ≡ ns → f b ≡ Ok (selected by (taken_from a b))) → (b : Array) → IsOfShape ns b → f b ≡ Ok (chosen (choice_from axes by ns) b)
  answers f h b o =
      let ok : Array → Answer = λ c. Ok c in
      h b o.shape ∙ ap ok (widened axes by a b (of_shape b o.shape) o.complete ∙ ap (λ (ms : List ℕ). chosen (choice_from axes by ms) b) o.shape)

  pub takes_choose : TakesCounts numbers by → CountsFit axes numbers → Chooses (take_or_pad a) ns (choice_from axes by ns)
  takes_choose takes fit = record {
    fits = may_widen (length numbers) axes by ns is (take_fits axes numbers by takes fit);
    answer =
        answers (take_or_pad a) (λ b e.
        taken_is_selected a b by (counts_of b e) (subst IsShape (of_shape b e) shape)
        (subst (λ (zs : List ℤ). TakesCounts zs by) (sym lists.cells) takes)
        (subst (Fits by) (of_shape b e) (take_fits axes numbers by takes fit)));
  }

  drops : (b : Array) → b.shape ≡ ns → DropsCounts (capped_counts axes numbers) by → DropsCounts (capped_counts (taken_shape a b) a.cells) by
  drops b e h =
      subst (λ (ms : List ℕ). DropsCounts (capped_counts ms a.cells) by) (of_shape b e)
      (subst (λ (zs : List ℤ). DropsCounts (capped_counts axes zs) by) (sym lists.cells) h)

  pub drops_choose : DropsCounts (capped_counts axes numbers) by → Chooses (drop_from a) ns (choice_from axes by ns)
  drops_choose h = record {
    fits =
        let any : Array = record { kind = Num; shape = ns; cells = [] } in
        may_widen (length numbers) axes by ns is
        (subst (Fits by) (sym (of_shape any refl)) (dropped_is_selected a any by (counts_of any refl) (subst IsShape (of_shape any refl) shape) (drops any refl h)).0);
    answer =
        answers (drop_from a) (λ b e.
        (dropped_is_selected a b by (counts_of b e) (subst IsShape (of_shape b e) shape) (drops b e h)).1);
  }
