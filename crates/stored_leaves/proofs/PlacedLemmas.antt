-- Leaves that were made or selected from stay lawful, and so do the others.
use Rattle.std.proofs.Common.{◌≡◌, ℕ, ℤ, pos, List, [], ◌∷◌, length, Result, Ok, refl, sym, subst, arith}
use Rattle.std.specs.Prelude.{◌≤ℤ◌, ◌<ℤ◌}
use Rattle.apl_base.specs.declared.cells.Kind.{Kind}
use Rattle.apl_base.specs.Array.{Array, IsIndex}
use Rattle.apl_base.specs.Selection.{AreAxes}
use Rattle.apl_base.proofs.Transposes.{each_held}
use Rattle.array_desc.specs.Desc.{DescView, Selects}
use Rattle.array_store.specs.Stores.{StoreView, cells_of}
use Rattle.array_store.specs.Counting.{OnlyCounted}
use Rattle.array_store.specs.Follows.{Follows, none}
use Rattle.drag_along.specs.declared.leaves.Leaf.{Leaf}
use Rattle.drag_along.specs.Nodes.{named_by_leaf}
use Rattle.drag_along.specs.Lawful.{LiesIn, IsLawfulLeaf}
use Rattle.e_machine.specs.Forced.{IsNewLeaf}
use Rattle.made_leaf.specs.Laws.{OnlyMade}
use Rattle.made_leaf.specs.declared.faults.MadeFault.{MadeFault}
use Rattle.made_leaf.proofs.MadeLemmas.{made_stands, argument_kept, new_leaf_follows}

-- a leaf that was made at once
only_new : (old new : StoreView) (a : Array) (leaf : Leaf) → IsNewLeaf (λ between. between ≡ old) new a leaf → IsNewLeaf (OnlyCounted old) new a leaf
only_new old new a leaf made = record {
  key = made.key;
  count = made.count;
  view = made.view;
  made = record {
    between = made.made.between;
    counts = subst (OnlyCounted old) (sym made.made.counts) refl;
    makes = made.made.makes;
  };
}

pub new_lawful : (old new : StoreView) (a : Array) (leaf : Leaf) → IsNewLeaf (λ between. between ≡ old) new a leaf → IsLawfulLeaf new leaf
new_lawful old new a leaf made = (made_stands old new a leaf (only_new old new a leaf made)).lawful

-- beside it the others stay
pub beside_new : (old new : StoreView) (a : Array) (leaf other : Leaf) → IsNewLeaf (λ between. between ≡ old) new a leaf → IsLawfulLeaf old other → IsLawfulLeaf new other
beside_new old new a leaf other made lawful =
    let result : Result Leaf MadeFault = Ok leaf in
    let only : OnlyMade old new result = (a, only_new old new a leaf made) in
    (argument_kept old new result other only lawful).0

-- it is held once
pub new_follows : (old new : StoreView) (a : Array) (leaf : Leaf) → IsNewLeaf (λ between. between ≡ old) new a leaf → Follows old new none (named_by_leaf leaf)
new_follows old new a leaf made = new_leaf_follows old new a leaf (only_new old new a leaf made)

pub renamed_follows : (old new : StoreView) (leaf other : Leaf) → ((key : ℕ) → named_by_leaf other key ≡ named_by_leaf leaf key) → Follows old new none (named_by_leaf leaf) → Follows old new none (named_by_leaf other)
renamed_follows old new leaf other names follows = record {
  holders = λ key. omega (arith, follows.holders key, names key);
  kept = follows.kept;
  limit = follows.limit;
}

-- a leaf that is not stored
pub unstored_follows : (store : StoreView) (leaf : Leaf) → ((key : ℕ) → named_by_leaf leaf key ≡ 0) → Follows store store none (named_by_leaf leaf)
unstored_follows store leaf names = record {
  holders = λ key. omega (arith, names key);
  kept = λ key held. refl;
  limit = refl;
}

-- what is selected from places inside an owner lies inside it
pub lies_selected : (old new : DescView) (lengths : List ℕ) (read : List ℕ → List ℕ) → Selects old new lengths read → (store : StoreView) (owner : ℕ) (kind : Kind) → LiesIn store owner old kind → LiesIn store owner new kind
lies_selected old new lengths read s store owner kind lies = record {
  live = lies.live;
  kind = lies.kind;
  low = λ i index.
      let there : IsIndex lengths i = subst (λ (ns : List ℕ). IsIndex ns i) s.shape index in
      subst (λ (z : ℤ). pos 0 ≤ℤ z) (sym (s.number i there)) (lies.low (read i) (s.index i there));
  high = λ i index.
      let there : IsIndex lengths i = subst (λ (ns : List ℕ). IsIndex ns i) s.shape index in
      subst (λ (z : ℤ). z <ℤ pos (length (cells_of store owner))) (sym (s.number i there)) (lies.high (read i) (s.index i there));
}

-- the axes of a matrix exchanged, and its diagonal
pub exchanged : AreAxes 2 (1 ∷ 0 ∷ [])
exchanged = record {
  below = (omega arith, (omega arith, tt));
  each = each_held 2 (1 ∷ 0 ∷ []) ((0, omega arith, refl), ((1, omega arith, refl), tt));
}

pub diagonal : AreAxes 1 (0 ∷ 0 ∷ [])
diagonal = record {
  below = (omega arith, (omega arith, tt));
  each = each_held 1 (0 ∷ 0 ∷ []) ((0, omega arith, refl), tt);
}
