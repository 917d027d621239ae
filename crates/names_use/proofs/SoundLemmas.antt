-- Names that hold all that is held in a store, while leaves come, are set and go.
use Rattle.std.proofs.Common.{◌≡◌, ℕ, ◌+◌, ◌-◌, ◌*◌, ◌^◌, ◌<◌, ◌≤◌, ℤ, pos, List, [], ◌∷◌, length, Option, Some, None, Result, Ok, Err, OnOk, OnErr, refl, sym, ap, ◌∙◌, subst, arith}
use Rattle.std.specs.Prelude.{◌≤ℤ◌, ◌<ℤ◌}
use Rattle.std.proofs.lemmas.Bool.{eq-eqb}
use Rattle.std.proofs.lemmas.Int.{ints}
use Rattle.apl_base.specs.declared.cells.Kind.{Kind}
use Rattle.apl_base.specs.Array.{IsIndex, size_of}
use Rattle.array_desc.specs.Desc.{DescView, number, Selects}
use Rattle.array_store.specs.Stores.{StoreView, empty_store, holders_of, cells_of, kind_of}
use Rattle.array_store.specs.Follows.{LeafCounts, Follows, Holds, none, both, one_of}
use Rattle.array_store.specs.declared.ids.Counts.{Counts}
use Rattle.array_store.proofs.FollowsLemmas.{follows_counts, cells_of-kept, kind_of-kept}
use Rattle.drag_along.specs.declared.leaves.Leaf.{Leaf}
use Rattle.drag_along.specs.declared.leaves.Leaf.TheVariants.{Stored, Gen}
use Rattle.drag_along.specs.Nodes.{named_by_leaf}
use Rattle.drag_along.specs.Lawful.{LiesIn, IsLawfulLeaf, SameData}
use Rattle.drag_along.proofs.KeptLemmas.{follows_keeps}
use Rattle.drag_along.specs.Holding.{HeldOnceMore}
use Rattle.e_machine.specs.Forced.{IsRead}
use Rattle.apl_model.specs.Environment.{Environment, look_up, no_variables}
use Rattle.leaf_names.specs.Variables.{named_by_option, named_by_names, AreLawfulNames, FillsOwner, FillOwners}
use Rattle.leaf_names.proofs.EachLemmas.{look_up-each}
use Rattle.leaf_names.proofs.CountLemmas.{look_up-named}
use Rattle.leaf_names.proofs.KeptLemmas.{lawful_kept, filling_kept}
use Rattle.name_table.specs.Scopes.{AreAllNames}
use Rattle.name_table.proofs.CountedLemmas.{named_at_most}
use Rattle.name_table.specs.Names.{LetsGo}
use Rattle.names_use.specs.Uses.{IsSound}

-- names beside leaves in hand
pub record Beside (store : StoreView) (names : Environment Leaf) (hand : LeafCounts) : Type 0 where
  pub lawful : AreLawfulNames store names
  pub fills : FillOwners store names
  pub held : (key : ℕ) → holders_of store key ≡ named_by_names names key + hand key

pub same_data : (old new : StoreView) (names : Environment Leaf) (came : LeafCounts) → IsSound old names → Follows old new none came → SameData old new (named_by_names names)
same_data old new names came sound f =
    let beside : Holds old (both none (named_by_names names)) = λ key. omega (arith, sound.held key) in
    follows_keeps old new none came (named_by_names names) (named_by_names names) f beside (λ key. omega arith)

-- leaves come
pub came_beside : (old new : StoreView) (names : Environment Leaf) (came : LeafCounts) → IsSound old names → Follows old new none came → Beside new names came
came_beside old new names came sound f = record {
  lawful = lawful_kept old new names (same_data old new names came sound f) sound.lawful;
  fills = filling_kept old new names (same_data old new names came sound f) sound.fills;
  held = λ key. omega (arith, sound.held key, f.holders key);
}

pub none_came : (store : StoreView) (names : Environment Leaf) → Beside store names none → IsSound store names
none_came store names b = record { lawful = b.lawful; fills = b.fills; held = λ key. omega (arith, b.held key) }

-- nothing but counting was done
counted : (old : StoreView) (c : Counts) (names : Environment Leaf) → IsSound old names → IsSound (record old { counts = c }) names
counted old c names sound = none_came (record old { counts = c }) names (came_beside old (record old { counts = c }) names none sound (follows_counts old c))

pub read_sound : (old new : StoreView) (leaf : Leaf) (names : Environment Leaf) → IsSound old names → IsRead old new leaf → IsSound new names
read_sound old new (Stored owner desc kind) names sound read = subst (λ (s : StoreView). IsSound s names) (sym read) (counted old _ names sound)
read_sound old new (Gen desc kind) names sound read = subst (λ (s : StoreView). IsSound s names) (sym read) sound

-- a leaf is set, or let go
pub set_sound : {T E : Type 0} (r : Result T E) (old new : StoreView) (names after : Environment Leaf) (leaf : Leaf) → Beside old names (named_by_leaf leaf)
    → OnOk r (Follows old new (both (named_by_names names) (named_by_leaf leaf)) (named_by_names after)) → OnOk r (AreLawfulNames new after) → OnOk r (FillOwners old names → FillOwners new after)
    → OnErr r (after ≡ names) → OnErr r (Follows old new (named_by_leaf leaf) none) → IsSound new after
set_sound (Ok v) old new names after leaf b f lawful fills same gone = record {
  lawful = lawful;
  fills = fills b.fills;
  held = λ key. omega (arith, f.holders key, b.held key);
}
set_sound (Err e) old new names after leaf b f lawful fills same gone =
    let beside : Holds old (both (named_by_leaf leaf) (named_by_names names)) = λ key. omega (arith, b.held key) in
    let kept : SameData old new (named_by_names names) = follows_keeps old new (named_by_leaf leaf) none (named_by_names names) (named_by_names names) gone beside (λ key. omega arith) in
    subst (IsSound new) (sym same) (record {
      lawful = lawful_kept old new names kept b.lawful;
      fills = filling_kept old new names kept b.fills;
      held = λ key. omega (arith, gone.holders key, b.held key);
    })

-- ---- a name's leaf

pub found_lawful : (store : StoreView) (names : Environment Leaf) (name : List ℕ) (leaf : Leaf) → IsSound store names → look_up names name ≡ Some leaf → IsLawfulLeaf store leaf
found_lawful store names name leaf sound found = look_up-each (IsLawfulLeaf store) names name sound.lawful leaf found

pub found_fills : (store : StoreView) (names : Environment Leaf) (name : List ℕ) (leaf : Leaf) → IsSound store names → look_up names name ≡ Some leaf → FillsOwner store leaf
found_fills store names name leaf sound found = look_up-each (FillsOwner store) names name sound.fills leaf found

-- its owner may be held once more
pub may_be_held : (store : StoreView) (names : Environment Leaf) → IsSound store names → AreAllNames names → (key : ℕ) → holders_of store key < 2 ^ 128 - 1
may_be_held store names sound are key = omega (arith, sound.held key, named_at_most names key are, are.deep)

one_of-self : (owner : ℕ) → 0 < one_of owner owner
one_of-self owner = rw (eq-eqb owner owner refl) (omega arith)

-- a leaf that reads the first cell of an owner
no_axis : (i : List ℕ) → IsIndex [] i → i ≡ []
no_axis [] h = refl
no_axis (k ∷ i) h = absurd h

pub first_lies_in : (old new : StoreView) (owner : ℕ) (desc first : DescView) (kind : Kind) → LiesIn old owner desc kind → SameData old new (one_of owner) → first.shape ≡ [] → number first [] ≡ pos 0 → 0 < length (cells_of old owner) → LiesIn new owner first kind
first_lies_in old new owner desc first kind lies same shape at some =
    let kept = same.kept owner (one_of-self owner) in
    let zero_at : (i : List ℕ) → IsIndex first.shape i → number first i ≡ pos 0 = λ i h. ap (number first) (no_axis i (subst (λ ns. IsIndex ns i) shape h)) ∙ at in
    let more : 0 < length (cells_of new owner) = subst (λ (cs : List ℤ). 0 < length cs) (sym (cells_of-kept old new owner kept)) some in
    record {
      live = same.live owner (one_of-self owner);
      kind = kind_of-kept old new owner kept ∙ lies.kind;
      low = λ i h. subst (λ z. pos 0 ≤ℤ z) (sym (zero_at i h)) (omega (arith, ints));
      high = λ i h. subst (λ z. z <ℤ pos (length (cells_of new owner))) (sym (zero_at i h)) (omega (arith, ints, more));
    }

-- ---- a leaf that is held once more

pub held_counts : (old new : StoreView) (leaf : Leaf) → HeldOnceMore old new leaf → new.counts ≡ old.counts
held_counts old new (Stored owner desc kind) h = ap (λ (s : StoreView). s.counts) h
held_counts old new (Gen desc kind) h = ap (λ (s : StoreView). s.counts) h

pub beside_fills : (store : StoreView) (names : Environment Leaf) (name : List ℕ) (leaf : Leaf) (hand : LeafCounts) → Beside store names hand → look_up names name ≡ Some leaf → FillsOwner store leaf
beside_fills store names name leaf hand b found = look_up-each (FillsOwner store) names name b.fills leaf found

-- the owner of a name's leaf is one of those that names name
pub owner_same : (old new : StoreView) (names : Environment Leaf) (name : List ℕ) (owner : ℕ) (desc : DescView) (kind : Kind) (came : LeafCounts) → IsSound old names → Follows old new none came → look_up names name ≡ Some (Stored owner desc kind) → SameData old new (one_of owner)
owner_same old new names name owner desc kind came sound f found =
    let all = same_data old new names came sound f in
    let few : (key : ℕ) → one_of owner key ≤ named_by_names names key = λ key. omega (arith, look_up-named names name key, ap (λ (o : Option Leaf). named_by_option o key) found) in
    record {
      live = λ key h. all.live key (omega (arith, few key));
      kept = λ key h. all.kept key (omega (arith, few key));
    }

-- names let leaves go
pub go_sound : (old new : StoreView) (before after : Environment Leaf) → IsSound old before → LetsGo old new before after → IsSound new after
go_sound old new before after sound go = record {
  lawful = go.lawful;
  fills = go.fills sound.fills;
  held = λ key. omega (arith, go.follows.holders key, sound.held key);
}

-- nothing is held where there is nothing
pub nothing_sound : (limit : ℕ) (store : StoreView) (names : Environment Leaf) → store ≡ empty_store limit → names ≡ no_variables → IsSound store names
nothing_sound limit store names e f =
    let start : IsSound (empty_store limit) no_variables = record {
      lawful = record { globals = tt; frames = tt };
      fills = record { globals = tt; frames = tt };
      held = λ key. refl;
    } in
    subst (λ (s : StoreView). IsSound s names) (sym e) (subst (IsSound (empty_store limit)) (sym f) start)

-- ---- a leaf that is turned round

pub selected_lies : (store : StoreView) (owner : ℕ) (old new : DescView) (kind : Kind) (lengths : List ℕ) (read : List ℕ → List ℕ) → Selects old new lengths read → LiesIn store owner old kind → LiesIn store owner new kind
selected_lies store owner old new kind lengths read s lies =
    let there : (i : List ℕ) → IsIndex new.shape i → IsIndex lengths i = λ i h. subst (λ (ns : List ℕ). IsIndex ns i) s.shape h in
    record {
      live = lies.live;
      kind = lies.kind;
      low = λ i h. subst (λ z. pos 0 ≤ℤ z) (sym (s.number i (there i h))) (lies.low (read i) (s.index i (there i h)));
      high = λ i h.
          subst (λ z. z <ℤ pos (length (cells_of store owner))) (sym (s.number i (there i h))) (lies.high (read i) (s.index i (there i h)));
    }

-- it fills its owner as it did
pub as_large_fills : (store : StoreView) (owner : ℕ) (old new : DescView) (kind : Kind) → new.shape ≡ old.shape → FillsOwner store (Stored owner old kind) → FillsOwner store (Stored owner new kind)
as_large_fills store owner old new kind shape fills = subst (λ (ns : List ℕ). length (cells_of store owner) ≤ size_of ns) (sym shape) fills
