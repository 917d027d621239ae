-- Names that are declared one after the other, each unset.
use Rattle.std.proofs.Common.{◌≡◌, ℕ, ◌+◌, ◌<◌, false, ◌||◌, if◌then◌else◌, List, [], ◌∷◌, ◌++◌, map, length, take, drop, get_or, Option, None, refl, sym, ap, ◌∙◌, subst}
use Rattle.std.specs.List.{AllByRecursion, IsDistinct}
use Rattle.std.proofs.lemmas.List.{take-append-drop, take_more, map_push, drop_more}
use Rattle.std.proofs.lemmas.Map.Keys.{IsDistinct-head, IsDistinct-tail}
use Rattle.apl_model.specs.Environment.{Bindings, is_same_name, declares, bound_to}
use Rattle.apl_model.specs.Frames.{unset}
use Rattle.name_table.proofs.BindingLemmas.{false_or}

-- a name that differs from those before it
later_differs : (x n : List ℕ) (xs ys : List (List ℕ)) → AllByRecursion (λ y. is_same_name x y ≡ false) (xs ++ n ∷ ys) → is_same_name x n ≡ false
later_differs x n [] ys h = h.0
later_differs x n (y ∷ xs) ys h = later_differs x n xs ys h.1

module _ (A : Type 0) where
  abbrev unset_all : List (List ℕ) → Bindings A
  unset_all ns = map unset ns

  not_yet : (xs : List (List ℕ)) (n : List ℕ) (ys : List (List ℕ)) → IsDistinct is_same_name (xs ++ n ∷ ys) → declares (unset_all xs) n ≡ false
  not_yet [] n ys d = refl
  not_yet (x ∷ xs) n ys d =
      ap (λ t. t || declares (unset_all xs) n) (later_differs x n xs ys (IsDistinct-head is_same_name x (xs ++ n ∷ ys) d))
      ∙ not_yet xs n ys (IsDistinct-tail is_same_name x (xs ++ n ∷ ys) d)

  -- a name that doesn't stand there goes to the end
  bound_at_end : (bs : Bindings A) (name : List ℕ) (a : Option A) → declares bs name ≡ false → bound_to bs name a ≡ bs ++ (name, a) ∷ []
  bound_at_end [] name a lacks = refl
  bound_at_end (b ∷ bs) name a lacks =
      let no = false_or (is_same_name b.0 name) (declares bs name) lacks in
      ap (λ t. if t then (name, a) ∷ bs else b ∷ bound_to bs name a) no.0 ∙ ap (λ (cs : Bindings A). b ∷ cs) (bound_at_end bs name a no.1)

  module _ (declared : List (List ℕ)) (differ : IsDistinct is_same_name declared) (i : ℕ) (within : i < length declared) (name : List ℕ) (read : name ≡ get_or declared i name) where
    pub next_is_new : (scope : Bindings A) → scope ≡ map unset (take i declared) → declares scope name ≡ false
    next_is_new scope so_far =
        let split : declared ≡ take i declared ++ name ∷ drop (i + 1) declared =
        sym (take-append-drop i declared)
        ∙ ap (λ (xs : List (List ℕ)). take i declared ++ xs) (drop_more declared i name within ∙ ap (λ (n : List ℕ). n ∷ drop (i + 1) declared) (sym read)) in
        ap (λ (bs : Bindings A). declares bs name) so_far ∙ not_yet (take i declared) name (drop (i + 1) declared) (subst (IsDistinct is_same_name) split differ)

    pub next_is_unset : (scope new : Bindings A) → scope ≡ map unset (take i declared) → new ≡ bound_to scope name None → new ≡ map unset (take (i + 1) declared)
    next_is_unset scope new so_far put =
        put
        ∙ bound_at_end scope name None (next_is_new scope so_far)
        ∙ ap (λ (bs : Bindings A). bs ++ (name, None) ∷ []) so_far
        ∙ sym (ap (map unset) (take_more declared i name within ∙ ap (λ (n : List ℕ). take i declared ++ n ∷ []) (sym read)) ∙ map_push unset (take i declared) name)
