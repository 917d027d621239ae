-- Leaves that are let go: holders follow them.
use Rattle.std.proofs.Common.{◌≡◌, ℕ, ◌+◌, List, [], ◌∷◌, ◌++◌, String, Option, refl, sym, ap, arith}
use Rattle.std.proofs.lemmas.List.{map-append}
use Rattle.std.proofs.lemmas.List.Sums.{sum_by-append, sum_by-cons}
use Rattle.std.specs.Str.{chars}
use Rattle.std.specs.String.{string_bytes}
use Rattle.array_store.specs.Stores.{StoreView}
use Rattle.array_store.specs.Follows.{LeafCounts, Follows, Holds, none, both}
use Rattle.array_store.proofs.FollowsLemmas.{follows_then, follows_beside, follows_counted}
use Rattle.drag_along.specs.declared.leaves.Leaf.{Leaf}
use Rattle.apl_model.specs.Environment.{Bindings}
use Rattle.leaf_names.specs.Variables.{named_by_option, named_by_bindings}
use Rattle.name_table.specs.Scopes.{bindings_of}

module _ {Y : Type 0} where
  -- the leaves of a table
  abbrev pub named_in : List (String Y × Option Leaf) → LeafCounts
  named_in es key = named_by_bindings (bindings_of es) key

  named_in-last : (es : List (String Y × Option Leaf)) (e : String Y × Option Leaf) (key : ℕ) → named_in (es ++ e ∷ []) key ≡ named_in es key + named_by_option e.1 key
  named_in-last es e key =
      let entry : String Y × Option Leaf → List ℕ × Option Leaf = λ x. (chars (string_bytes x.0), x.1) in
      let count : List ℕ × Option Leaf → ℕ = λ b. named_by_option b.1 key in
      omega (arith, ap (λ (bs : Bindings Leaf). named_by_bindings bs key) (map-append entry es (e ∷ [])), sum_by-append count (bindings_of es) (entry e ∷ []), sum_by-cons count (entry e) [])

  -- what is so while the entries of a table are let go
  pub record Going (start now : StoreView) (before left : List (String Y × Option Leaf)) : Type 0 where
    pub follows : Follows start now (named_in before) (named_in left)
    pub held : Holds now (named_in left)

  pub going_start : (s : StoreView) (es : List (String Y × Option Leaf)) → Holds s (named_in es) → Going s s es es
  going_start s es held = record { follows = record { holders = λ key. refl; kept = λ key h. refl; limit = refl }; held = held }

  -- what the last entry is bound to is held
  pub going_held : (start now : StoreView) (before left rest : List (String Y × Option Leaf)) (key : String Y) (bound : Option Leaf) → left ≡ rest ++ (key, bound) ∷ [] → Going start now before left → Holds now (named_by_option bound)
  going_held start now before left rest name bound is g = λ key. omega (arith, ap (λ es. named_in es key) is, named_in-last rest (name, bound) key, g.held key)

  -- and is let go
  pub going_on : (start now next : StoreView) (before left rest : List (String Y × Option Leaf)) (key : String Y) (bound : Option Leaf) → left ≡ rest ++ (key, bound) ∷ [] → Going start now before left → Follows now next (named_by_option bound) none → Going start next before rest
  going_on start now next before left rest name bound is g f =
      let count : (key : ℕ) → named_in left key ≡ named_by_option bound key + named_in rest key = λ key. omega (arith, ap (λ es. named_in es key) is, named_in-last rest (name, bound) key) in
      let step : Follows now next (named_in left) (named_in rest) =
      follows_counted now next (both (named_by_option bound) (named_in rest)) (both none (named_in rest)) (named_in left) (named_in rest) count (λ key. omega arith) (follows_beside now next (named_by_option bound) none (named_in rest) f) in
      record {
        follows = follows_then start now next (named_in before) (named_in left) (named_in rest) g.follows step;
        held = λ key. omega (arith, f.holders key, g.held key, count key);
      }

  -- in the end all are gone
  pub going_ended : (start now : StoreView) (before left : List (String Y × Option Leaf)) (bindings : Bindings Leaf) → left ≡ [] → bindings_of before ≡ bindings → Going start now before left → Follows start now (named_by_bindings bindings) none
  going_ended start now before left bindings none_left view g =
      follows_counted start now (named_in before) (named_in left) (named_by_bindings bindings) none
      (λ key. sym (ap (λ (bs : Bindings Leaf). named_by_bindings bs key) view)) (λ key. sym (ap (λ es. named_in es key) none_left)) g.follows
