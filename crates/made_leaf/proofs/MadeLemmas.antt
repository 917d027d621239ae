-- The answers of a function that is made at once, and what is so after each of them.
use Rattle.std.proofs.Common.{◌≡◌, ◌≢◌, ℕ, zero, suc, ◌+◌, ◌≤◌, ◌==◌, Bool, true, false, if◌then◌else◌, List, [], ◌∷◌, length, Option, Result, Ok, Err, refl, sym, ap, ◌∙◌, subst, All, arith}
use Rattle.std.specs.Prelude.{unwrap_or}
use Rattle.std.specs.Option.{option_map}
use Rattle.std.specs.List.{AllByRecursion}
use Rattle.std.proofs.lemmas.Bool.{eqb-true, eq-eqb, false≢true}
use Rattle.apl_base.specs.declared.faults.ErrorKind.{ErrorKind}
use Rattle.apl_base.specs.Array.{Array, IsArray}
use Rattle.apl_base.specs.Number.{IsCell}
use Rattle.apl_base.proofs.Elements.{tabulated-count, tabulated-each, tabulated-same}
use Rattle.array_desc.specs.Desc.{IsDesc}
use Rattle.array_store.specs.Stores.{OwnerView, StoreView, IsStore, HasRoom, Makes, new_owner, no_owner, owner_data, holders_of}
use Rattle.array_store.specs.Counting.{OnlyCounted}
use Rattle.array_store.specs.Follows.{LeafCounts, Follows, Holds, both, none, one_of}
use Rattle.array_store.proofs.CountingLemmas.{follows-counted}
use Rattle.array_store.proofs.FollowsLemmas.{follows_then}
use Rattle.drag_along.specs.declared.leaves.Leaf.{Leaf}
use Rattle.drag_along.specs.declared.leaves.Leaf.TheVariants.{Stored, Gen}
use Rattle.drag_along.specs.Nodes.{leaf_desc, leaf_kind, leaf_shape, named_by_leaf}
use Rattle.drag_along.specs.Segments.{SegmentView, named_by}
use Rattle.drag_along.specs.Meaning.{leaf_cell, entry}
use Rattle.drag_along.specs.Lawful.{IsLawfulLeaf, IsLawful, SameData}
use Rattle.drag_along.specs.Views.{StandsForArray}
use Rattle.drag_along.proofs.KeptLemmas.{follows_keeps, leaf_kept, segment_kept}
use Rattle.drag_along.proofs.LeafLemmas.{leaf_cells_lawful}
use Rattle.e_machine.specs.Forced.{IsNewLeaf, named_by_answer}
use Rattle.e_machine.proofs.WholeLemmas.{stands-made}
use Rattle.apl_model.specs.Whole.{Answer}
use Rattle.leaf_names.specs.Variables.{array_of}
use Rattle.made_leaf.specs.declared.faults.MadeFault.{MadeFault}
use Rattle.made_leaf.specs.declared.faults.MadeFault.TheVariants as made
use Rattle.made_leaf.specs.Made.{Fetched, AsksFor, IsAnswered, IsErrorOf, IsNoMemory, IsMadeAsking, IsMadeBy, IsRoomFault}
use Rattle.made_leaf.specs.Laws.{OnlyMade}

-- ---- lists

-- what is so of each element is so at each place
pub all_places : {X : Type 0} (P : X → Type 0) (xs : List X) → AllByRecursion P xs → All P xs
all_places P [] h k d below = absurd (omega arith)
all_places P (x ∷ xs) h zero d below = h.0
all_places P (x ∷ xs) h (suc k) d below = all_places P xs h.1 k d (omega arith)

-- ---- a lawful leaf stands for a lawful array

pub leaf_is_array : (store : StoreView) (leaf : Leaf) → IsStore store → IsDesc (leaf_desc leaf) → IsLawfulLeaf store leaf → IsArray (array_of store leaf)
leaf_is_array store leaf is desc lawful = record {
  shape = desc.shape;
  count = tabulated-count (leaf_kind leaf) (leaf_shape leaf) (leaf_cell store leaf);
  cells = tabulated-each (IsCell (leaf_kind leaf)) (leaf_kind leaf) (leaf_shape leaf) (leaf_cell store leaf) (λ i index. leaf_cells_lawful store leaf i is desc lawful index);
}

-- ---- the store after an answer

-- where an owner was made the limit is as before, and no leaf but the new one came
owner_follows : (old new : StoreView) (key : ℕ) (o : OwnerView) → o.holders ≡ 1 → Makes old new key o → (k : ℕ) (t : Bool) → (k == key) ≡ t → holders_of new k ≡ holders_of old k + (if t then 1 else 0)
owner_follows old new key o one makes k true e =
    let same : k ≡ key = eqb-true k key e in
    let now : holders_of new k ≡ o.holders = ap (holders_of new) same ∙ ap (λ (v : Option OwnerView). (unwrap_or v no_owner).holders) makes.made in
    let before : holders_of old k ≡ 0 = ap (holders_of old) same ∙ ap (λ (v : Option OwnerView). (unwrap_or v no_owner).holders) makes.was_free in
    omega (arith, now, before, one)
owner_follows old new key o one makes k false e =
    let apart : k ≢ key = λ same. false≢true (sym e ∙ eq-eqb k key same) in
    let same : holders_of new k ≡ holders_of old k = ap (λ (v : Option OwnerView). (unwrap_or v no_owner).holders) (makes.others k apart) in
    omega (arith, same)

pub owner_made_follows : (old new : StoreView) (key : ℕ) (o : OwnerView) → o.holders ≡ 1 → Makes old new key o → Follows old new none (one_of key)
owner_made_follows old new key o one makes = record {
  holders = λ k. omega (arith, owner_follows old new key o one makes k (k == key) refl);
  kept = λ k held.
      let apart : k ≢ key = λ same.
      let before : holders_of old k ≡ 0 = ap (holders_of old) same ∙ ap (λ (v : Option OwnerView). (unwrap_or v no_owner).holders) makes.was_free in
      omega (arith, held, before) in
      ap (option_map owner_data) (makes.others k apart);
  limit = makes.limit;
}

pub new_leaf_follows : (old new : StoreView) (a : Array) (leaf : Leaf) → IsNewLeaf (OnlyCounted old) new a leaf → Follows old new none (named_by_leaf leaf)
new_leaf_follows old new a leaf made =
    subst (λ (l : Leaf). Follows old new none (named_by_leaf l)) (sym made.view.is)
    (follows_then old made.made.between new none none (one_of made.key) (follows-counted old made.made.between made.made.counts)
    (owner_made_follows made.made.between new made.key (new_owner a.cells a.kind) refl made.made.makes))

pub made_follows : (old new : StoreView) (result : Result Leaf MadeFault) → OnlyMade old new result → Follows old new none (named_by_answer result)
made_follows old new (Ok leaf) made = new_leaf_follows old new made.0 leaf made.1
made_follows old new (Err why) only = follows-counted old new only

pub made_stands : (old new : StoreView) (a : Array) (leaf : Leaf) → IsNewLeaf (OnlyCounted old) new a leaf → StandsForArray new leaf a
made_stands old new a leaf made =
    stands-made made.made.between new made.key a.cells a.shape a.kind leaf made.made.makes made.count made.view

pub others_kept : (old new : StoreView) (result : Result Leaf MadeFault) (leaves : LeafCounts) → OnlyMade old new result → Holds old leaves → SameData old new leaves × Holds new leaves
others_kept old new result leaves made held =
    let follows = made_follows old new result made in
    let beside : Holds old (both none leaves) = λ key. omega (arith, held key) in (
      follows_keeps old new none (named_by_answer result) leaves leaves follows beside (λ key. omega arith),
      λ key. omega (arith, follows.holders key, held key),
    )

-- the owner of a lawful leaf is held
leaf_held : (store : StoreView) (leaf : Leaf) → IsLawfulLeaf store leaf → Holds store (named_by_leaf leaf)
leaf_held store (Gen desc kind) lawful key = omega arith
leaf_held store (Stored owner desc kind) lawful key = by (key == owner) refl
  where
    by : (t : Bool) → (key == owner) ≡ t → (if t then 1 else 0) ≤ holders_of store key
    by true e = omega (arith, lawful.live, ap (holders_of store) (eqb-true key owner e))
    by false e = omega arith

pub argument_kept : (old new : StoreView) (result : Result Leaf MadeFault) (leaf : Leaf) → OnlyMade old new result → IsLawfulLeaf old leaf → IsLawfulLeaf new leaf × (array_of new leaf ≡ array_of old leaf)
argument_kept old new result leaf made lawful =
    let same = (others_kept old new result (named_by_leaf leaf) made (leaf_held old leaf lawful)).0 in
    let kept = leaf_kept old new leaf same lawful in (
      kept.0,
      tabulated-same (leaf_kind leaf) (leaf_shape leaf) (leaf_cell new leaf) (leaf_cell old leaf) (λ i index. kept.1 i),
    )

pub pending_kept : (old new : StoreView) (result : Result Leaf MadeFault) (segment : SegmentView) → OnlyMade old new result → Holds old (named_by segment) → IsLawful old segment → IsLawful new segment × (entry new segment ≡ entry old segment)
pending_kept old new result segment made held lawful =
    segment_kept old new segment (others_kept old new result (named_by segment) made held).0 lawful

-- ---- whatever was counted, nothing else was done

new_leaf_only : (Counts : StoreView → Type 0) (old new : StoreView) (a : Array) (leaf : Leaf) → ((s : StoreView) → Counts s → OnlyCounted old s) → IsNewLeaf Counts new a leaf → IsNewLeaf (OnlyCounted old) new a leaf
new_leaf_only Counts old new a leaf only made = record {
  key = made.key;
  count = made.count;
  view = made.view;
  made = record { between = made.made.between; counts = only made.made.between made.made.counts; makes = made.made.makes };
}

pub made_only : (Counts : StoreView → Type 0) (Asks : ℕ → Type 0) (old new : StoreView) (answer : Answer) (result : Result Leaf MadeFault) → ((s : StoreView) → Counts s → OnlyCounted old s) → IsMadeAsking Counts Asks old new answer result → OnlyMade old new result
made_only Counts Asks old new answer (Ok leaf) only made = (made.array, new_leaf_only Counts old new made.array leaf only made.comes)
made_only Counts Asks old new answer (Err (made.Error kind)) only made = only new made.counted
made_only Counts Asks old new answer (Err (made.WsFull live asked)) only made = only new made.counted
made_only Counts Asks old new answer (Err made.NoMemory) only made = only new made.counted

pub made_is_only_made : (old new : StoreView) (most : ℕ) (answer : Answer) (result : Result Leaf MadeFault) → IsMadeBy (Fetched old most) old new answer result → OnlyMade old new result
made_is_only_made old new most answer result made =
    made_only (Fetched old most) (AsksFor answer) old new answer result (λ s f. f.only) made

-- ---- the answers of a function that asks for room for its answer alone

-- an error
pub error_made : (Counts : StoreView → Type 0) (old new : StoreView) (answer : Answer) (kind : ErrorKind) → answer ≡ Err kind → Counts new → IsErrorOf Counts (AsksFor answer) old new answer kind
error_made Counts old new answer kind is counted = record {
  is = is;
  room = λ n asks. absurd (apart asks.0 kind (sym asks.1 ∙ is));
  counted = counted;
}
  where
    apart : (a : Array) (k : ErrorKind) → (let r : Answer = Ok a in r) ≡ (let r : Answer = Err k in r) → ⊥
    apart a k e = cc

-- an answer that is an array is no other
one_array : (a b : Array) → (let r : Answer = Ok a in r) ≡ (let r : Answer = Ok b in r) → a ≡ b
one_array a b e = cc

-- room for its cells is room for what is asked for
asked_room : (old : StoreView) (answer : Answer) (a : Array) (n : ℕ) → answer ≡ Ok a → length a.cells ≡ n → HasRoom old n → (m : ℕ) → AsksFor answer m → HasRoom old m
asked_room old answer a n is many room m asks =
    omega (arith, room, many, asks.2, ap (λ (b : Array). length b.cells) (one_array a asks.0 (sym is ∙ asks.1)))

-- what was counted before the room was asked for leaves the live cells and the limit
pub counted_room : (old now : StoreView) (n : ℕ) → OnlyCounted old now → HasRoom now n → HasRoom old n
counted_room old now n only room = omega (arith, room, ap (λ (s : StoreView). s.live) only, ap (λ (s : StoreView). s.limit) only)

pub room_counted : (old now : StoreView) (n : ℕ) → OnlyCounted old now → HasRoom old n → HasRoom now n
room_counted old now n only room = omega (arith, room, ap (λ (s : StoreView). s.live) only, ap (λ (s : StoreView). s.limit) only)

-- no room for its cells, or want of memory
pub room_made : (Counts : StoreView → Type 0) (old now : StoreView) (answer : Answer) (a : Array) (n : ℕ) (fault : MadeFault) → answer ≡ Ok a → length a.cells ≡ n → OnlyCounted old now → Counts now → IsRoomFault now n fault → IsMadeBy Counts old now answer (Err fault)
room_made Counts old now answer a n (made.Error kind) is many only counted refused = absurd refused
room_made Counts old now answer a n (made.WsFull live asked) is many only counted refused =
    let same_live = ap (λ (s : StoreView). s.live) only in
    let same_limit = ap (λ (s : StoreView). s.limit) only in
    record {
      asks = (a, is, refused.1 ∙ sym many);
      held = refused.0 ∙ same_live;
      full = omega (arith, refused.1, refused.2, same_live, same_limit);
      counted = counted;
    }
room_made Counts old now answer a n made.NoMemory is many only counted refused = record {
  room = asked_room old answer a n is many (counted_room old now n only refused);
  counted = counted;
}

-- want of memory after there was room
pub memory_made : (Counts : StoreView → Type 0) (old new : StoreView) (answer : Answer) (a : Array) (n : ℕ) → answer ≡ Ok a → length a.cells ≡ n → HasRoom old n → Counts new → IsNoMemory Counts (AsksFor answer) old new
memory_made Counts old new answer a n is many room counted = record {
  room = asked_room old answer a n is many room;
  counted = counted;
}

-- the leaf that was made
pub leaf_made : (Counts : StoreView → Type 0) (between new : StoreView) (answer : Answer) (a b : Array) (leaf : Leaf) → answer ≡ Ok a → b ≡ a → Counts between → IsNewLeaf (λ s. s ≡ between) new b leaf → IsAnswered Counts new answer leaf
leaf_made Counts between new answer a b leaf is same counted made = record {
  array = b;
  is = is ∙ ap (λ (x : Array). let r : Answer = Ok x in r) (sym same);
  comes = record {
    key = made.key;
    count = made.count;
    view = made.view;
    made = record { between = made.made.between; counts = subst Counts (sym made.made.counts) counted; makes = made.made.makes };
  };
}
