-- Outputs and branches after the newest entry was computed.
use Rattle.std.proofs.Common.{◌≡◌, ℕ, ◌<◌, List, [], ◌∷◌, ◌++◌, length, map, Option, Some, refl, sym, ap, ◌∙◌}
use Rattle.std.specs.Prelude.{◌-◌, slice_get}
use Rattle.apl_base.specs.Array.{Array}
use Rattle.apl_base.specs.declared.faults.Place.{Place}
use Rattle.drag_along.specs.Segments.{SegmentView}
use Rattle.drag_along.specs.Meaning.{Meaning, Means, entry}
use Rattle.machine_state.specs.declared.machines.Machine.{Machine}
use Rattle.machine_state.specs.Steps.{pending}
use Rattle.calling_steps.specs.declared.flows.Flow.{Flow}
use Rattle.calling_steps.specs.Branches.{Branches, LeadsTo}
use Rattle.calling_steps.specs.Outputs.{on_top, Prints, Shows}
use Rattle.value_stack.proofs.NewestLemmas.{last_there}

-- ---- the newest entry that goes

same_front : (xs ys : List Meaning) (x y : Meaning) → xs ++ x ∷ [] ≡ ys ++ y ∷ [] → xs ≡ ys
same_front [] [] x y e = refl
same_front [] (b ∷ []) x y e = absurd cc
same_front [] (b ∷ c ∷ ys) x y e = absurd cc
same_front (a ∷ []) [] x y e = absurd cc
same_front (a ∷ c ∷ xs) [] x y e = absurd cc
same_front (a ∷ xs) (b ∷ ys) x y e =
    let first : a ≡ b = cc in
    let rest : xs ++ x ∷ [] ≡ ys ++ y ∷ [] = cc in
    ap (λ (m : Meaning). m ∷ xs) first ∙ ap (λ (ms : List Meaning). b ∷ ms) (same_front xs ys x y rest)

-- what is left is what stood below
pub below_newest : (m0 m1 : Machine) (older : List Array) (array : Array) → 0 < length m0.stack → ((s : SegmentView) → slice_get m0.stack (length m0.stack - 1) ≡ Some s → pending m0 ≡ pending m1 ++ entry m0.store s ∷ []) → pending m0 ≡ on_top older array → pending m1 ≡ map (λ a. Means a) older
below_newest m0 m1 older array some dropped are =
    let last = last_there m0.stack some in
    same_front (pending m1) (map (λ a. Means a) older) (entry m0.store last.0) (Means array) (sym (dropped last.0 last.1) ∙ are)

pub printed : (there : List Meaning) (m0 m1 : Machine) (before after : Option (List ℕ)) → 0 < length m0.stack → ((s : SegmentView) → slice_get m0.stack (length m0.stack - 1) ≡ Some s → pending m0 ≡ pending m1 ++ entry m0.store s ∷ []) → Shows there (pending m0) before after → Prints there (pending m1) before after
printed there m0 m1 before after some dropped s = record {
  older = s.older;
  array = s.array;
  were = s.were;
  are = below_newest m0 m1 s.older s.array some dropped s.are;
  text = s.text;
}

pub branched : (place : Place) (to : Flow) (there : List Meaning) (m0 m1 : Machine) (older : List Array) (array : Array) → there ≡ on_top older array → pending m0 ≡ on_top older array → LeadsTo place array to → 0 < length m0.stack → ((s : SegmentView) → slice_get m0.stack (length m0.stack - 1) ≡ Some s → pending m0 ≡ pending m1 ++ entry m0.store s ∷ []) → Branches place to there (pending m1)
branched place to there m0 m1 older array were are leads some dropped = record {
  older = older;
  array = array;
  were = were;
  are = below_newest m0 m1 older array some dropped are;
  leads = leads;
}
