-- A name that is bound to a copy of its leaf.
use Rattle.std.proofs.Common.{◌≡◌, ℕ, ◌+◌, ◌≤◌, ℤ, List, [], ◌∷◌, ◌++◌, length, Option, Some, None, refl, sym, ap, ◌∙◌, subst, arith}
use Rattle.std.specs.Prelude.{unwrap_or}
use Rattle.apl_base.specs.Array.{Array, size_of}
use Rattle.array_store.specs.Stores.{OwnerView, StoreView, AreCounts, owner_at, cells_of, no_owner, new_owner, counted}
use Rattle.array_store.specs.Follows.{LeafCounts, Follows, Holds, none, both}
use Rattle.array_store.specs.Came.{Came, Renews}
use Rattle.array_store.proofs.StoreLemmas.{owner_of-found}
use Rattle.array_store.proofs.FollowsLemmas.{follows_then, follows_beside, follows_counted}
use Rattle.array_store.proofs.CameLemmas.{renews_then, renews_made, renews_counted}
use Rattle.drag_along.specs.declared.leaves.Leaf.{Leaf}
use Rattle.drag_along.specs.Nodes.{leaf_shape, leaf_kind, named_by_leaf}
use Rattle.drag_along.specs.Views.{IsWholeView}
use Rattle.drag_along.specs.Meaning.{leaf_array}
use Rattle.drag_along.specs.Lawful.{IsLawfulLeaf, SameData}
use Rattle.drag_along.proofs.KeptLemmas.{follows_keeps}
use Rattle.apl_model.specs.Environment.{Environment, look_up, set_name, mapped, with_origin}
use Rattle.apl_model.proofs.Mapped.{set_name-mapped}
use Rattle.e_machine.specs.Forced.{IsCopy}
use Rattle.leaf_names.specs.Variables.{named_by_names, named_by_option, AreLawfulNames, FillsOwner, FillOwners, array_of, variables_of}
use Rattle.leaf_names.proofs.CountLemmas.{set_name-named, look_up-named}
use Rattle.leaf_names.proofs.EachLemmas.{look_up-each, set_name-each, set_again}
use Rattle.leaf_names.proofs.KeptLemmas.{lawful_kept, filling_kept, variables_kept, array_kept}
use Rattle.alias_force.specs.Moving.{ComputesAll, OwnersCame, IsOwnOf}
use Rattle.alias_force.specs.Writing.{CopiesName}
use Rattle.alias_force.proofs.EntryLemmas.{IsFresh, left, own_of}
use Rattle.array_store.proofs.GoneLemmas.{renews_gone}

-- ---- the leaf that a name is bound to

pub bound_lawful : (s : StoreView) (names : Environment Leaf) (name : List ℕ) (leaf : Leaf) → look_up names name ≡ Some leaf → AreLawfulNames s names → IsLawfulLeaf s leaf
bound_lawful s names name leaf bound lawful = look_up-each (IsLawfulLeaf s) names name lawful leaf bound

pub bound_named : (names : Environment Leaf) (name : List ℕ) (leaf : Leaf) (key : ℕ) → look_up names name ≡ Some leaf → named_by_leaf leaf key ≤ named_by_names names key
bound_named names name leaf key bound = omega (arith, look_up-named names name key, ap (λ (o : Option Leaf). named_by_option o key) bound)

pub bound_held : (s : StoreView) (names : Environment Leaf) (name : List ℕ) (leaf : Leaf) → look_up names name ≡ Some leaf → Holds s (named_by_names names) → Holds s (named_by_leaf leaf)
bound_held s names name leaf bound holds = λ key. omega (arith, holds key, bound_named names name leaf key bound)

-- ---- names beside which other leaves go and come

-- they are lawful, and mean and fill what they did
pub record AreStillNames (s t : StoreView) (names : Environment Leaf) : Type 0 where
  pub lawful : AreLawfulNames t names
  pub variables : (origin : ℤ) → variables_of t origin names ≡ variables_of s origin names
  pub filling : FillOwners s names → FillOwners t names

pub names_stay : (s t : StoreView) (names : Environment Leaf) (gone came : LeafCounts) → AreLawfulNames s names → Holds s (both gone (named_by_names names)) → Follows s t gone came → AreStillNames s t names
names_stay s t names gone came lawful holds follows =
    let same : SameData s t (named_by_names names) = follows_keeps s t gone came (named_by_names names) (named_by_names names) follows holds (λ key. omega arith) in
    record {
      lawful = lawful_kept s t names same lawful;
      variables = variables_kept s t names same lawful;
      filling = filling_kept s t names same;
    }

-- ---- a copy

pub fresh_copy : (s t : StoreView) (leaf copy : Leaf) → IsCopy s t leaf copy → IsFresh s t (leaf_array s (leaf_shape leaf) leaf) copy
fresh_copy s t leaf copy is =
    let made = is.made in
    let a : Array = leaf_array s (leaf_shape leaf) leaf in
    let same : owner_at s made.key ≡ None = ap (λ (x : StoreView). owner_at x made.key) (sym made.made.counts.only) ∙ made.made.makes.was_free in
    record {
      key = made.key;
      view = made.view;
      count = made.count;
      named = λ other. ap (λ (l : Leaf). named_by_leaf l other) made.view.is;
      free = ap (λ (o : Option OwnerView). (unwrap_or o no_owner).holders) same;
      owner = owner_of-found t made.key (new_owner a.cells a.kind) made.made.makes.made;
    }

copy_computes : (s t u : StoreView) (leaf copy : Leaf) → AreCounts s.counts → IsCopy s t leaf copy → u.counts ≡ t.counts → ComputesAll s u [] (size_of (leaf_shape leaf))
copy_computes s t u leaf copy small is same =
    let made = is.made.made in
    let n : ℕ = size_of (leaf_shape leaf) in
    let cells : List ℤ = (leaf_array s (leaf_shape leaf) leaf).cells in
    let count : length cells ≡ n = is.made.count in
    let applied : u.counts.applied ≡ made.between.counts.applied = ap (λ c. c.applied) same ∙ ap (λ c. c.applied) made.makes.counts in
    let fetched : u.counts.fetched ≡ made.between.counts.fetched = ap (λ c. c.fetched) same ∙ ap (λ c. c.fetched) made.makes.counts in
    let makes : u.counts.made ≡ counted made.between.counts.made (length cells) = ap (λ c. c.made) same ∙ ap (λ c. c.made) made.makes.counts in
    record {
      applied = omega (arith, applied, made.counts.applied, small.applied);
      made = makes ∙ ap (λ (k : ℕ). counted k (length cells)) made.counts.made ∙ ap (counted s.counts.made) (omega (arith, count));
      fetched = record { low = omega (arith, made.counts.fetched.low, fetched); high = omega (arith, made.counts.fetched.high, fetched) };
    }

copy_came : (s t u : StoreView) (leaf copy : Leaf) (gone : LeafCounts) → IsCopy s t leaf copy → Follows t u gone none → OwnersCame s u (size_of (leaf_shape leaf) ∷ [])
copy_came s t u leaf copy gone is follows =
    let made = is.made.made in
    let key : ℕ = is.made.key in
    let a : Array = leaf_array s (leaf_shape leaf) leaf in
    let one : Came = record { key = key; cells = length a.cells } in
    let first : Renews s t ([] ++ one ∷ []) =
    renews_then s made.between t [] (one ∷ []) (renews_counted s made.between made.counts.only) (renews_made made.between t key (new_owner a.cells a.kind) made.makes) in
    record {
      came = (one ∷ []) ++ [];
      renews = renews_then s t u (one ∷ []) [] first (renews_gone t u gone follows);
      cells = ap (λ (n : ℕ). n ∷ []) is.made.count;
    }

-- ---- the name is bound to it

-- the copy stands for the same variable
same_variables : (t : StoreView) (names : Environment Leaf) (name : List ℕ) (leaf copy : Leaf) (origin : ℤ) → look_up names name ≡ Some leaf → array_of t copy ≡ array_of t leaf → variables_of t origin (set_name names name copy) ≡ variables_of t origin names
same_variables t names name leaf copy origin bound same =
    ap (λ (e : Environment Array). with_origin origin e)
    (sym (set_name-mapped (array_of t) names name copy) ∙ ap (set_name (mapped (array_of t) names) name) same
    ∙ set_name-mapped (array_of t) names name leaf ∙ ap (mapped (array_of t)) (set_again names name leaf bound))

-- it stands for the array that the leaf stood for
copy_array : (s t : StoreView) (leaf copy : Leaf) → IsCopy s t leaf copy → array_of t copy ≡ array_of s leaf
copy_array s t leaf copy is =
    let shape : leaf_shape copy ≡ leaf_shape leaf = is.stands.shape.same in
    ap (λ (ns : List ℕ). leaf_array t ns copy) shape ∙ is.stands.array

-- it fills its owner
copy_filling : (s t : StoreView) (leaf copy : Leaf) → IsCopy s t leaf copy → FillsOwner t copy
unfolding fresh_copy
copy_filling s t leaf copy is =
    let fresh = fresh_copy s t leaf copy is in
    let key : ℕ = is.made.key in
    let cells : length (cells_of t key) ≡ size_of (leaf_shape leaf) = ap (λ (o : OwnerView). length o.cells) fresh.owner ∙ is.made.count in
    let shape : is.made.view.desc.shape ≡ leaf_shape leaf = is.made.view.whole.shape in
    subst (FillsOwner t) (sym is.made.view.is) (omega (arith, cells, ap size_of shape))

-- where a copy came, the leaf has the data that it had
leaf_stays : (s t : StoreView) (names : Environment Leaf) (name : List ℕ) (leaf copy : Leaf) → Holds s (named_by_names names) → look_up names name ≡ Some leaf → Follows s t none (named_by_leaf copy) → SameData s t (named_by_leaf leaf)
leaf_stays s t names name leaf copy holds bound came =
    follows_keeps s t none (named_by_leaf copy) (named_by_leaf leaf) (named_by_leaf leaf) came (λ key. omega (arith, holds key, bound_named names name leaf key bound)) (λ key. omega arith)

-- names of which one is bound to a copy, after its leaf was let go
pub record AreNewNames (s u : StoreView) (names after : Environment Leaf) : Type 0 where
  pub lawful : AreLawfulNames u after
  pub variables : (origin : ℤ) → variables_of u origin after ≡ variables_of s origin names
  pub filling : FillOwners s names → FillOwners u after
  pub follows : Follows s u (named_by_names names) (named_by_names after)

pub bound_to_copy : (s t u : StoreView) (names after : Environment Leaf) (name : List ℕ) (leaf copy : Leaf) → AreLawfulNames s names → Holds s (named_by_names names) → look_up names name ≡ Some leaf → IsCopy s t leaf copy → Follows s t none (named_by_leaf copy) → after ≡ set_name names name copy → Follows t u (named_by_leaf leaf) none → AreNewNames s u names after
bound_to_copy s t u names after name leaf copy lawful holds bound is came put gone =
    let first = names_stay s t names none (named_by_leaf copy) lawful (λ key. omega (arith, holds key)) came in
    let set_names_t : AreLawfulNames t (set_name names name copy) = set_name-each (IsLawfulLeaf t) names name copy first.lawful is.stands.lawful in
    let counts : (key : ℕ) → named_by_names (set_name names name copy) key + named_by_leaf leaf key ≡ named_by_names names key + named_by_leaf copy key = λ key.
    omega (arith, set_name-named names name copy key, ap (λ (o : Option Leaf). named_by_option o key) bound) in
    let held : Holds t (both (named_by_leaf leaf) (named_by_names (set_name names name copy))) = λ key. omega (arith, holds key, came.holders key, counts key) in
    let last = names_stay t u (set_name names name copy) (named_by_leaf leaf) none set_names_t held gone in
    let same_leaf : array_of t leaf ≡ array_of s leaf = array_kept s t leaf (leaf_stays s t names name leaf copy holds bound came) (bound_lawful s names name leaf bound lawful) in
    let middle : (origin : ℤ) → variables_of t origin (set_name names name copy) ≡ variables_of t origin names = λ origin.
    same_variables t names name leaf copy origin bound (copy_array s t leaf copy is ∙ sym same_leaf) in
    let to_after : set_name names name copy ≡ after = sym put in
    record {
      lawful = subst (AreLawfulNames u) to_after last.lawful;
      variables = λ origin. ap (variables_of u origin) put ∙ last.variables origin ∙ middle origin ∙ first.variables origin;
      filling = λ filling. subst (FillOwners u) to_after (last.filling (set_name-each (FillsOwner t) names name copy (first.filling filling) (copy_filling s t leaf copy is)));
      follows = follows_counted s u (both none (named_by_names names)) (both none (named_by_names (set_name names name copy))) (named_by_names names) (named_by_names after)
          (λ key. omega arith) (λ key. omega (arith, ap (λ (e : Environment Leaf). named_by_names e key) put))
          (follows_then s t u (both none (named_by_names names)) (both (named_by_leaf copy) (named_by_names names)) (both none (named_by_names (set_name names name copy)))
          (follows_beside s t none (named_by_leaf copy) (named_by_names names) came)
          (follows_counted t u (both (named_by_leaf leaf) (named_by_names (set_name names name copy))) (both none (named_by_names (set_name names name copy))) (both (named_by_leaf copy) (named_by_names names)) (both none (named_by_names (set_name names name copy)))
          (λ key. omega (arith, counts key)) (λ key. refl) (follows_beside t u (named_by_leaf leaf) none (named_by_names (set_name names name copy)) gone)));
    }

pub copies_name : (s t u : StoreView) (names after : Environment Leaf) (name : List ℕ) (leaf copy : Leaf) (key : ℕ) → AreCounts s.counts → Holds s (named_by_leaf leaf) → (is : IsCopy s t leaf copy) → key ≡ is.made.key → after ≡ set_name names name copy → Follows t u (named_by_leaf leaf) none → u.counts ≡ t.counts → CopiesName s u names after name leaf key
unfolding fresh_copy
copies_name s t u names after name leaf copy key small holds is its_key put gone same =
    let fresh = fresh_copy s t leaf copy is in
    let a : Array = leaf_array s (leaf_shape leaf) leaf in
    let now = left s t u (named_by_leaf leaf) a copy fresh holds gone in
    record {
      copy = copy;
      bound = put;
      view = subst (λ (k : ℕ). IsWholeView k (leaf_shape leaf) (leaf_kind leaf) copy) (sym its_key) is.made.view;
      own = subst (λ (k : ℕ). IsOwnOf u k (leaf_shape leaf)) (sym its_key) (own_of s t u a copy fresh now);
      computes = copy_computes s t u leaf copy small is same;
      came = copy_came s t u leaf copy (named_by_leaf leaf) is gone;
    }
