-- The step of an outer product, which stays pending.
use Rattle.std.proofs.Common.{◌≡◌, ◌⊎◌, inl, inr, ℕ, ◌+◌, ℤ, Bool, true, false, List, [], ◌∷◌, ◌++◌, map, Option, Some, None, Ok, Err, refl, sym, ap, ◌∙◌, arith}
use Rattle.std.proofs.lemmas.List.{map-append}
use Rattle.apl_base.specs.declared.cells.Elem.{Elem}
use Rattle.apl_base.specs.declared.faults.ErrorKind.{ErrorKind}
use Rattle.apl_base.specs.declared.faults.ErrorKind.TheVariants as error
use Rattle.apl_base.specs.declared.faults.Place.{Place}
use Rattle.apl_base.specs.declared.rows.Dya.{Dya}
use Rattle.apl_base.specs.Array.{Array}
use Rattle.array_store.specs.Stores.{StoreView}
use Rattle.array_store.specs.Follows.{LeafCounts, both, none}
use Rattle.array_store.proofs.FollowsLemmas.{follows_counted}
use Rattle.drag_along.specs.Segments.{SegmentView, named_by}
use Rattle.drag_along.specs.Meaning.{Meaning, Means, Faults, entry}
use Rattle.drag_along.specs.Lawful.{IsLawful}
use Rattle.value_stack.specs.Stacks.{named_on, entries}
use Rattle.apl_model.specs.Evaluation.{State}
use Rattle.apl_model.specs.Outcome.{Flow, fails}
use Rattle.apl_model.specs.Product.{outer}
use Rattle.apl_model.specs.Whole.{Answer, or_domain, error_or}
use Rattle.apl_compile.specs.declared.codes.Op.TheVariants as op
use Rattle.pending_laws.specs.Joins.{meaning_of}
use Rattle.standing.specs.Stand.{going, ended, push_on}
use Rattle.pending_steps.specs.Steps.{Moves}
use Rattle.pending_steps.proofs.StepLemmas.{pushed_lawful}
use Rattle.leaf_steps.specs.Origins.{StepsFrom}
use Rattle.leaf_steps.specs.Gives.{stand_with}
use Rattle.leaf_steps.specs.Taking.{Taken}
use Rattle.leaf_steps.proofs.GivesLemmas.{IsAnswerOf, gives_outer, steps_from}

-- ---- its errors

abbrev IsLimitOrDomain : ErrorKind → Type 0
IsLimitOrDomain kind = (kind ≡ error.Limit) ⊎ (kind ≡ error.Domain)

values_error : (values : Option (List Elem)) (made : List Elem → Array) (kind : ErrorKind) → or_domain values made ≡ Err kind → kind ≡ error.Domain
values_error None made kind e = cc
values_error (Some es) made kind e = absurd cc

limit_or_domain : (over : Bool) (values : Option (List Elem)) (made : List Elem → Array) (kind : ErrorKind) → error_or error.Limit over (λ _. or_domain values made) ≡ Err kind → IsLimitOrDomain kind
limit_or_domain true values made kind e = inl cc
limit_or_domain false values made kind e = inr (values_error values made kind e)

outer_errors : (f : Dya) (a b : Array) (kind : ErrorKind) → outer f a b ≡ Err kind → IsLimitOrDomain kind
outer_errors f a b kind e = limit_or_domain _ _ _ kind e

-- ---- it stays pending

error_stands : (f : Dya) (place : Place) (a b : Array) (vs : List Array) (to : Flow) (s : State) (kind : ErrorKind) → ¬ (outer f a b ≡ Err error.Limit) → outer f a b ≡ Err kind → IsLimitOrDomain kind → push_on (Faults place) (going vs to s) ≡ stand_with place (Err kind) vs to s
error_stands f place a b vs to s kind fits is (inl limit) = absurd (fits (is ∙ ap (λ (x : ErrorKind). let r : Answer = Err x in r) limit))
error_stands f place a b vs to s kind fits is (inr domain) = ap (λ (x : ErrorKind). ended (fails x place s)) (sym domain)

-- where it isn't LIMIT ERROR, what it means stands for the answer
outer_stands : (f : Dya) (place : Place) (a b : Array) (m : Meaning) → ¬ (outer f a b ≡ Err error.Limit) → m ≡ meaning_of place (outer f a b) → IsAnswerOf place (outer f a b) m
outer_stands f place a b m fits means vs to s =
    ap (λ (n : Meaning). push_on n (going vs to s)) means ∙ by (outer f a b) refl
  where
    by : (answer : Answer) → outer f a b ≡ answer → push_on (meaning_of place answer) (going vs to s) ≡ stand_with place answer vs to s
    by (Ok c) e = refl
    by (Err kind) e = error_stands f place a b vs to s kind fits e (outer_errors f a b kind e)

pub outer_step : (origin : ℤ) (f : Dya) (place : Place) (a b : Array) (old taken : StoreView) (before after last : List SegmentView) (hand : LeafCounts) (segment : SegmentView) → Taken old taken before after (b ∷ a ∷ []) hand → ¬ (outer f a b ≡ Err error.Limit) → entry taken segment ≡ meaning_of place (outer f a b) → last ≡ after ++ segment ∷ [] → StepsFrom origin (record { place = place; op = op.Outer f }) 2 1 (entries old before) (entries taken last)
outer_step origin f place a b old taken before after last hand segment took fits means is =
    steps_from origin (record { place = place; op = op.Outer f }) 2 (b ∷ a ∷ []) (outer f a b) (entry taken segment) (map (λ x. Means x) took.older) (entries old before) (entries taken last) refl took.was
    (ap (entries taken) is ∙ map-append (entry taken) after (segment ∷ []) ∙ ap (λ (ms : List Meaning). ms ++ entry taken segment ∷ []) took.is)
    (gives_outer origin f place a b) (outer_stands f place a b (entry taken segment) fits means)

pub outer_moves : (operands : List Array) (old taken : StoreView) (before after last : List SegmentView) (hand : LeafCounts) (segment : SegmentView) → Taken old taken before after operands hand → IsLawful taken segment → last ≡ after ++ segment ∷ [] → ((key : ℕ) → named_by segment key ≡ hand key) → ((key : ℕ) → named_on last key ≡ named_on after key + named_by segment key) → Moves old taken before last none none
outer_moves operands old taken before after last hand segment took lawful is names leaves = record {
  lawful = pushed_lawful taken last after segment is took.moves.lawful lawful;
  follows =
      follows_counted old taken (both (named_on before) none) (both (named_on after) hand) (both (named_on before) none) (both (named_on last) none) (λ key. refl)
      (λ key. omega (arith, names key, leaves key)) took.moves.follows;
}
