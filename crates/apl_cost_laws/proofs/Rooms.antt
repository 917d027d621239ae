-- Where the peak of a script is over a limit, there is a first item in whose run a footprint is.
use Rattle.std.proofs.Common.{◌≡◌, ℕ, ◌<◌, ◌≤◌, inl, inr, List, [], ◌∷◌, ◌++◌, refl, sym, ap, subst, ◌∙◌, arith, append_assoc}
use Rattle.std.specs.List.{AllByRecursion}
use Rattle.std.proofs.lemmas.Bool.{cases_lt}
use Rattle.std.proofs.lemmas.List.{append-nil}
use Rattle.apl_model.specs.Tree.{Item, Script}
use Rattle.apl_cost.specs.Footprint.{measured_items, greatest, peak}
use Rattle.apl_cost.specs.Statements.{FirstOver}
use Rattle.apl_cost.proofs.Growing.{first_items}
use Rattle.apl_cost_laws.specs.Room.{PeaksOverHaveFirstItems, FirstItemsOverHavePeaks}
use Rattle.apl_cost_laws.proofs.Peaks.{greatest-more}

-- the greatest of numbers within a limit is, and numbers are whose greatest is
greatest-within : (limit : ℕ) (ns : List ℕ) → AllByRecursion (λ k. k ≤ limit) ns → greatest ns ≤ limit
greatest-within limit [] h = omega arith
greatest-within limit (n ∷ ns) h = let first : n ≤ limit = h.0 in omega (arith, greatest-within limit ns h.1, first)

within-greatest : (limit : ℕ) (ns : List ℕ) → greatest ns ≤ limit → AllByRecursion (λ k. k ≤ limit) ns
within-greatest limit [] h = tt
within-greatest limit (n ∷ ns) h = (omega (arith, h), within-greatest limit ns (omega (arith, h)))

module _ (limit : ℕ) (script : Script) (n : ℕ) where
  -- the greatest footprint in the run of these items
  abbrev most : List Item → ℕ
  most items = greatest (measured_items script items n).state.moments

  found : (before rest : List Item) → script.items ≡ before ++ rest → AllByRecursion (λ k. k ≤ limit) (measured_items script before n).state.moments →
      limit < most (before ++ rest) → FirstOver limit script n
  found before [] e within over =
      let same : most (before ++ []) ≡ most before = ap most (append-nil before) in
      absurd (omega (arith, over, same, greatest-within limit (measured_items script before n).state.moments within))
  found before (item ∷ rest) e within over =
      elim (cases_lt limit (most (before ++ item ∷ []))) [
        | inl here ↦ record { before = before; item = item; after = rest; items = e; within = within; over = here }
        | inr not_yet ↦
            let same : before ++ item ∷ rest ≡ (before ++ item ∷ []) ++ rest = sym (append_assoc before (item ∷ []) rest) in
            found (before ++ item ∷ []) rest (e ∙ same) (within-greatest limit (measured_items script (before ++ item ∷ []) n).state.moments not_yet)
            (subst (λ (is : List Item). limit < most is) same over)
      ]

pub peaks_over_have_first_items : PeaksOverHaveFirstItems
peaks_over_have_first_items limit script n over = found limit script n [] script.items refl tt over

pub first_items_over_have_peaks : FirstItemsOverHavePeaks
first_items_over_have_peaks limit script n h =
    let whole : script.items ≡ (h.before ++ h.item ∷ []) ++ h.after = h.items ∙ sym (append_assoc h.before (h.item ∷ []) h.after) in
    let older = first_items script (h.before ++ h.item ∷ []) h.after n in
    let more : greatest (measured_items script (h.before ++ h.item ∷ []) n).state.moments ≤ greatest
    (measured_items script ((h.before ++ h.item ∷ []) ++ h.after) n).state.moments =
    subst (λ (ms : List ℕ). greatest (measured_items script (h.before ++ h.item ∷ []) n).state.moments ≤ greatest ms) (sym older.1)
    (greatest-more older.0 (measured_items script (h.before ++ h.item ∷ []) n).state.moments) in
    let all : greatest (measured_items script ((h.before ++ h.item ∷ []) ++ h.after) n).state.moments ≡ peak script n =
    ap (λ (is : List Item). greatest (measured_items script is n).state.moments) (sym whole) in
    omega (arith, h.over, more, all)
