-- Names over another store in which their owners have the same data.
use Rattle.std.proofs.Common.{◌≡◌, ℕ, ◌<◌, ◌≤◌, ℤ, List, [], ◌∷◌, length, map, Option, Some, None, refl, sym, ap, ◌∙◌, subst, arith}
use Rattle.std.specs.Option.{ForSome, option_map}
use Rattle.std.specs.List.{AllByRecursion}
use Rattle.std.proofs.lemmas.Bool.{eq-eqb}
use Rattle.apl_base.specs.Array.{Array, size_of, index_at}
use Rattle.apl_base.proofs.Upward.{map-upward-same}
use Rattle.array_store.specs.Stores.{StoreView}
use Rattle.array_store.specs.Follows.{LeafCounts, one_of}
use Rattle.array_store.proofs.FollowsLemmas.{cells_of-kept}
use Rattle.drag_along.specs.declared.leaves.Leaf.{Leaf}
use Rattle.drag_along.specs.declared.leaves.Leaf.TheVariants.{Stored, Gen}
use Rattle.drag_along.specs.Nodes.{leaf_shape, leaf_kind, named_by_leaf}
use Rattle.drag_along.specs.Meaning.{leaf_cell}
use Rattle.drag_along.specs.Lawful.{IsLawfulLeaf, SameData}
use Rattle.drag_along.proofs.KeptLemmas.{lawful_leaf_kept, leaf_kept}
use Rattle.apl_model.specs.Environment.{Bindings, Environment, mapped_bindings}
use Rattle.leaf_names.specs.Variables.{named_by_option, named_by_bindings, named_by_names, AllBound, EachLeaf, AreLawfulNames, FillsOwner, FillOwners, array_of, variables_of}
use Rattle.leaf_names.proofs.CountLemmas.{named-cons, in_frames, frames-cons}

fewer : (old new : StoreView) (some more : LeafCounts) → ((key : ℕ) → some key ≤ more key) → SameData old new more → SameData old new some
fewer old new some more few same = record {
  live = λ key named. same.live key (omega (arith, few key));
  kept = λ key named. same.kept key (omega (arith, few key));
}

-- ---- what stays so

-- what is so of a leaf over the old store is so over the new one, where the owner that it names has the same data
abbrev Keeps : StoreView → StoreView → (StoreView → Leaf → Type 0) → Type 0
Keeps old new P = (leaf : Leaf) → SameData old new (named_by_leaf leaf) → P old leaf → P new leaf

option-kept : (P : StoreView → Leaf → Type 0) (old new : StoreView) → Keeps old new P → (o : Option Leaf) → SameData old new (named_by_option o) → ForSome o (P old) → ForSome o (P new)
option-kept P old new keeps None same all = λ x e. absurd (cc)
option-kept P old new keeps (Some leaf) same all =
    let here : P new leaf = keeps leaf same (all leaf refl) in
    λ x e. let is : leaf ≡ x = cc in subst (P new) is here

bindings-kept : (P : StoreView → Leaf → Type 0) (old new : StoreView) → Keeps old new P → (bs : Bindings Leaf) → SameData old new (named_by_bindings bs) → AllBound (P old) bs → AllBound (P new) bs
bindings-kept P old new keeps [] same all = tt
bindings-kept P old new keeps (b ∷ bs) same all =
    (option-kept P old new keeps b.1 (fewer old new (named_by_option b.1) (named_by_bindings (b ∷ bs)) (λ key. omega (arith, named-cons b bs key)) same) all.0, bindings-kept P old new keeps bs (fewer old new (named_by_bindings bs) (named_by_bindings (b ∷ bs)) (λ key. omega (arith, named-cons b bs key)) same) all.1)

frames-kept : (P : StoreView → Leaf → Type 0) (old new : StoreView) → Keeps old new P → (fs : List (Bindings Leaf)) → SameData old new (in_frames fs) → AllByRecursion (AllBound (P old)) fs → AllByRecursion (AllBound (P new)) fs
frames-kept P old new keeps [] same all = tt
frames-kept P old new keeps (f ∷ fs) same all =
    (bindings-kept P old new keeps f (fewer old new (named_by_bindings f) (in_frames (f ∷ fs)) (λ key. omega (arith, frames-cons f fs key)) same) all.0, frames-kept P old new keeps fs (fewer old new (in_frames fs) (in_frames (f ∷ fs)) (λ key. omega (arith, frames-cons f fs key)) same) all.1)

each-kept : (P : StoreView → Leaf → Type 0) (old new : StoreView) → Keeps old new P → (names : Environment Leaf) → SameData old new (named_by_names names) → EachLeaf (P old) names → EachLeaf (P new) names
each-kept P old new keeps names same each = record {
  globals = bindings-kept P old new keeps names.globals (fewer old new (named_by_bindings names.globals) (named_by_names names) (λ key. omega arith) same) each.globals;
  frames = frames-kept P old new keeps names.frames (fewer old new (in_frames names.frames) (named_by_names names) (λ key. omega arith) same) each.frames;
}

one_of-self : (owner : ℕ) → 0 < one_of owner owner
one_of-self owner = rw (eq-eqb owner owner refl) (omega arith)

filling_leaf : (old new : StoreView) → Keeps old new FillsOwner
filling_leaf old new (Stored owner desc kind) same fills =
    subst (λ (cells : List ℤ). length cells ≤ size_of desc.shape) (sym (cells_of-kept old new owner (same.kept owner (one_of-self owner)))) fills
filling_leaf old new (Gen desc kind) same fills = tt

pub filling_kept : (old new : StoreView) (names : Environment Leaf) → SameData old new (named_by_names names) → FillOwners old names → FillOwners new names
filling_kept old new names same fills = each-kept FillsOwner old new (filling_leaf old new) names same fills

pub lawful_kept : (old new : StoreView) (names : Environment Leaf) → SameData old new (named_by_names names) → AreLawfulNames old names → AreLawfulNames new names
lawful_kept old new names same lawful = each-kept IsLawfulLeaf old new (lawful_leaf_kept old new) names same lawful

-- ---- what they mean

pub array_kept : (old new : StoreView) (leaf : Leaf) → SameData old new (named_by_leaf leaf) → IsLawfulLeaf old leaf → array_of new leaf ≡ array_of old leaf
array_kept old new leaf same lawful =
    let shape : List ℕ = leaf_shape leaf in
    let cell : StoreView → ℕ → ℤ = λ s p. leaf_cell s leaf (index_at shape p) in
    ap (λ (cells : List ℤ). let a : Array = record { kind = leaf_kind leaf; shape = shape; cells = cells } in a)
    (map-upward-same (cell new) (cell old) 0 (size_of shape) (λ p low high. (leaf_kept old new leaf same lawful).1 (index_at shape p)))

option_means : (old new : StoreView) (o : Option Leaf) → SameData old new (named_by_option o) → ForSome o (IsLawfulLeaf old) → option_map (array_of new) o ≡ option_map (array_of old) o
option_means old new None same lawful = refl
option_means old new (Some leaf) same lawful = ap (λ (a : Array). Some a) (array_kept old new leaf same (lawful leaf refl))

bindings_mean : (old new : StoreView) (bs : Bindings Leaf) → SameData old new (named_by_bindings bs) → AllBound (IsLawfulLeaf old) bs → mapped_bindings (array_of new) bs ≡ mapped_bindings (array_of old) bs
bindings_mean old new [] same lawful = refl
bindings_mean old new (b ∷ bs) same lawful =
    ap (λ (o : Option Array). (b.0, o) ∷ mapped_bindings (array_of new) bs) (option_means old new b.1 (fewer old new (named_by_option b.1) (named_by_bindings (b ∷ bs)) (λ key. omega (arith, named-cons b bs key)) same) lawful.0)
    ∙ ap (λ (rest : Bindings Array). (b.0, option_map (array_of old) b.1) ∷ rest) (bindings_mean old new bs (fewer old new (named_by_bindings bs) (named_by_bindings (b ∷ bs)) (λ key. omega (arith, named-cons b bs key)) same) lawful.1)

frames_mean : (old new : StoreView) (fs : List (Bindings Leaf)) → SameData old new (in_frames fs) → AllByRecursion (AllBound (IsLawfulLeaf old)) fs → map (mapped_bindings (array_of new)) fs ≡ map (mapped_bindings (array_of old)) fs
frames_mean old new [] same lawful = refl
frames_mean old new (f ∷ fs) same lawful =
    ap (λ (g : Bindings Array). g ∷ map (mapped_bindings (array_of new)) fs) (bindings_mean old new f (fewer old new (named_by_bindings f) (in_frames (f ∷ fs)) (λ key. omega (arith, frames-cons f fs key)) same) lawful.0)
    ∙ ap (λ (rest : List (Bindings Array)). mapped_bindings (array_of old) f ∷ rest) (frames_mean old new fs (fewer old new (in_frames fs) (in_frames (f ∷ fs)) (λ key. omega (arith, frames-cons f fs key)) same) lawful.1)

pub variables_kept : (old new : StoreView) (names : Environment Leaf) → SameData old new (named_by_names names) → AreLawfulNames old names → (origin : ℤ) → variables_of new origin names ≡ variables_of old origin names
variables_kept old new names same lawful origin =
    ap (λ (globals : Bindings Array). let e : Environment Array = record { globals = globals; frames = map (mapped_bindings (array_of new)) names.frames; origin = origin } in e)
    (bindings_mean old new names.globals (fewer old new (named_by_bindings names.globals) (named_by_names names) (λ key. omega arith) same) lawful.globals)
    ∙ ap (λ (frames : List (Bindings Array)). let e : Environment Array = record { globals = mapped_bindings (array_of old) names.globals; frames = frames; origin = origin } in e)
    (frames_mean old new names.frames (fewer old new (in_frames names.frames) (named_by_names names) (λ key. omega arith) same) lawful.frames)
