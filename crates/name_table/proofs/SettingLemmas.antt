-- A name that is set: the names afterwards, and what they stand for.
use Rattle.std.proofs.Common.{◌≡◌, ℕ, ◌+◌, ◌≤◌, ℤ, List, Option, refl, sym, ap, ◌∙◌, subst, arith}
use Rattle.apl_base.specs.Array.{Array}
use Rattle.array_store.specs.Stores.{StoreView, holders_of}
use Rattle.array_store.specs.Follows.{LeafCounts, Follows, Holds, none, both}
use Rattle.array_store.proofs.FollowsLemmas.{follows_then, follows_beside, follows_counted}
use Rattle.drag_along.specs.declared.leaves.Leaf.{Leaf}
use Rattle.drag_along.specs.Nodes.{named_by_leaf}
use Rattle.drag_along.specs.Lawful.{IsLawfulLeaf, SameData}
use Rattle.drag_along.specs.Meaning.{leaf_array}
use Rattle.drag_along.specs.Views.{StandsForArray}
use Rattle.drag_along.proofs.KeptLemmas.{follows_keeps}
use Rattle.apl_model.specs.Environment.{Environment, look_up, set_name}
use Rattle.leaf_names.specs.Variables.{named_by_option, named_by_names, AreLawfulNames, FillsOwner, FillOwners, array_of, variables_of}
use Rattle.leaf_names.proofs.CountLemmas.{set_name-named, look_up-named}
use Rattle.leaf_names.proofs.EachLemmas.{set_name-each}
use Rattle.leaf_names.proofs.KeptLemmas.{lawful_kept, filling_kept, variables_kept}
use Rattle.name_table.specs.Names.{IsPut, IsSet}
use Rattle.name_table.proofs.FittingLemmas.{put_later}
use Rattle.name_table.proofs.LettingLemmas.{variables-set}
use Rattle.leaf_names.proofs.StandsLemmas.{stands_kept}

-- names over a store in which a leaf beside them was exchanged for another
exchanged : (old new : StoreView) (before after : LeafCounts) (names : Environment Leaf) → Holds old (both (named_by_names names) before) → Follows old new before after → SameData old new (named_by_names names)
exchanged old new before after names held f =
    let beside : Holds old (both before (named_by_names names)) = λ key. omega (arith, held key) in
    follows_keeps old new before after (named_by_names names) (named_by_names names) f beside (λ key. omega arith)

-- what stands for an array has it
array_is : (s : StoreView) (leaf : Leaf) (a : Array) → StandsForArray s leaf a → array_of s leaf ≡ a
array_is s leaf a h = ap (λ (ns : List ℕ). leaf_array s ns leaf) h.shape.same ∙ h.array

-- a leaf is fitted, put for a name, and the one that was there is let go
module _ (old fit new : StoreView) (before after : Environment Leaf) (name : List ℕ) (leaf put : Leaf) (bound : Option Leaf) (lawful : AreLawfulNames old before) (held : Holds old (both (named_by_names before) (named_by_leaf leaf)))
    (comes : IsPut old fit leaf put) (stands : StandsForArray fit put (array_of old leaf)) (fits : Follows old fit (named_by_leaf leaf) (named_by_leaf put))
    (found : bound ≡ look_up before name) (is : after ≡ set_name before name put) (goes : Follows fit new (named_by_option bound) none) (same : new.counts ≡ fit.counts) where
  -- the leaf that goes and the names that are left are together the names as they were and the leaf that came
  count : (key : ℕ) → named_by_option bound key + named_by_names after key ≡ named_by_names before key + named_by_leaf put key
  count key =
      omega (arith, set_name-named before name put key, ap (λ (e : Environment Leaf). named_by_names e key) is, ap (λ (o : Option Leaf). named_by_option o key) found)

  held_then : Holds fit (both (named_by_option bound) (named_by_names after))
  held_then = λ key. omega (arith, held key, fits.holders key, count key)

  first : SameData old fit (named_by_names before)
  first = exchanged old fit (named_by_leaf leaf) (named_by_leaf put) before held fits

  second : SameData fit new (named_by_names after)
  second = follows_keeps fit new (named_by_option bound) none (named_by_names after) (named_by_names after) goes held_then (λ key. omega arith)

  unnamed : (key : ℕ) → holders_of old key ≡ 0 → named_by_option bound key ≡ 0
  unnamed key e = omega (arith, held key, e, look_up-named before name key, ap (λ (o : Option Leaf). named_by_option o key) found)

  put_counted : (key : ℕ) → named_by_leaf put key ≤ named_by_names after key
  put_counted key = omega (arith, count key, look_up-named before name key, ap (λ (o : Option Leaf). named_by_option o key) found)

  put_same : SameData fit new (named_by_leaf put)
  put_same = record {
    live = λ key h. second.live key (omega (arith, put_counted key));
    kept = λ key h. second.kept key (omega (arith, put_counted key));
  }

  pub set-is : IsSet old new before after name leaf
  set-is = record {
    put = put;
    names = is;
    comes = put_later old fit new leaf put (named_by_option bound) comes goes unnamed same;
    stands = stands_kept fit new put (array_of old leaf) put_same stands;
  }

  lawful_between : AreLawfulNames fit after
  lawful_between =
      subst (AreLawfulNames fit) (sym is) (set_name-each (IsLawfulLeaf fit) before name put (lawful_kept old fit before first lawful) stands.lawful)

  pub set-lawful : AreLawfulNames new after
  set-lawful = lawful_kept fit new after second lawful_between

  pub set-fills : FillsOwner fit put → FillOwners old before → FillOwners new after
  set-fills fills all =
      filling_kept fit new after second (subst (FillOwners fit) (sym is) (set_name-each (FillsOwner fit) before name put (filling_kept old fit before first all) fills))

  pub set-means : (origin : ℤ) → variables_of new origin after ≡ set_name (variables_of old origin before) name (array_of old leaf)
  set-means origin =
      variables_kept fit new after second lawful_between origin
      ∙ ap (variables_of fit origin) is
      ∙ variables-set fit origin before name put
      ∙ ap (λ (e : Environment Array). set_name e name (array_of fit put)) (variables_kept old fit before first lawful origin)
      ∙ ap (set_name (variables_of old origin before) name) (array_is fit put (array_of old leaf) stands)

  pub set-follows : Follows old new (both (named_by_names before) (named_by_leaf leaf)) (named_by_names after)
  set-follows =
      follows_then old fit new (both (named_by_names before) (named_by_leaf leaf)) (both (named_by_leaf put) (named_by_names before)) (named_by_names after)
      (follows_counted old fit (both (named_by_leaf leaf) (named_by_names before)) (both (named_by_leaf put) (named_by_names before)) (both (named_by_names before) (named_by_leaf leaf)) (both (named_by_leaf put) (named_by_names before))
      (λ key. omega arith) (λ key. refl) (follows_beside old fit (named_by_leaf leaf) (named_by_leaf put) (named_by_names before) fits))
      (follows_counted fit new (both (named_by_option bound) (named_by_names after)) (both none (named_by_names after)) (both (named_by_leaf put) (named_by_names before)) (named_by_names after)
      (λ key. omega (arith, count key)) (λ key. omega arith) (follows_beside fit new (named_by_option bound) none (named_by_names after) goes))
