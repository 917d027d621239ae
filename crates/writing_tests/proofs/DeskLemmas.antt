-- A desk on which leaves and entries come and go.
use Rattle.std.proofs.Common.{◌≡◌, ℕ, ◌+◌, ◌*◌, ◌≤◌, List, [], ◌∷◌, ◌++◌, length, Some, Result, Ok, Err, OnOk, refl, sym, subst, arith}
use Rattle.std.specs.List.{AllByRecursion}
use Rattle.std.proofs.lemmas.List.Sums.{sum_by-cons}
use Rattle.apl_base.proofs.Lists.{all_append}
use Rattle.array_store.specs.Stores.{StoreView, empty_store}
use Rattle.array_store.specs.Follows.{LeafCounts, Follows, Holds, both, none}
use Rattle.array_store.proofs.FollowsLemmas.{follows_counted}
use Rattle.drag_along.specs.declared.leaves.Leaf.{Leaf}
use Rattle.drag_along.specs.Nodes.{named_by_leaf}
use Rattle.drag_along.specs.Segments.{SegmentView, IsSegment, named_by}
use Rattle.drag_along.specs.Lawful.{SameData, IsLawful, IsLawfulLeaf}
use Rattle.drag_along.proofs.KeptLemmas.{follows_keeps}
use Rattle.drag_along.proofs.OneLeafLemmas.{named_at_most}
use Rattle.value_stack.specs.Stacks.{named_on, IsLawfulStack}
use Rattle.value_stack.proofs.EntriesLemmas.{stack_kept}
use Rattle.apl_model.specs.Environment.{Environment, no_variables, look_up}
use Rattle.leaf_names.specs.Variables.{named_by_names, AreLawfulNames, FillOwners}
use Rattle.leaf_names.proofs.EachLemmas.{look_up-each}
use Rattle.leaf_names.proofs.KeptLemmas.{lawful_kept, filling_kept}
use Rattle.alias_force.specs.Desk.{IsLawfulDesk}
use Rattle.alias_force.proofs.DeskLemmas.{desk_follows}

-- nothing is held where there is nothing
pub empty_desk : (limit : ℕ) (store : StoreView) (names : Environment Leaf) (stack : List SegmentView) → store ≡ empty_store limit → names ≡ no_variables → stack ≡ [] → IsLawfulDesk store names stack none
empty_desk limit store names stack e f g =
    let start : IsLawfulDesk (empty_store limit) no_variables [] none = record {
      lawful = record { globals = tt; frames = tt };
      filling = record { globals = tt; frames = tt };
      entries = tt;
      held = λ key. refl;
    } in
    subst (λ (s : StoreView). IsLawfulDesk s names stack none) (sym e)
    (subst (λ (n : Environment Leaf). IsLawfulDesk (empty_store limit) n stack none) (sym f)
    (subst (λ (es : List SegmentView). IsLawfulDesk (empty_store limit) no_variables es none) (sym g) start))

-- leaves come into hand
pub came_beside : (old new : StoreView) (names : Environment Leaf) (stack : List SegmentView) (came : LeafCounts) → IsLawfulDesk old names stack none → Follows old new none came → IsLawfulDesk new names stack came
came_beside old new names stack came desk f =
    let named : Holds old (both none (named_by_names names)) = λ key. omega (arith, desk.held key) in
    let pending : Holds old (both none (named_on stack)) = λ key. omega (arith, desk.held key) in
    let same : SameData old new (named_by_names names) = follows_keeps old new none came (named_by_names names) (named_by_names names) f named (λ key. omega arith) in
    let kept : SameData old new (named_on stack) = follows_keeps old new none came (named_on stack) (named_on stack) f pending (λ key. omega arith) in
    record {
      lawful = lawful_kept old new names same desk.lawful;
      filling = filling_kept old new names same desk.filling;
      entries = (stack_kept old new stack kept desk.entries).0;
      held = λ key. omega (arith, desk.held key, f.holders key);
    }

-- a leaf in hand is given to a name
pub given : (old new : StoreView) (names after : Environment Leaf) (stack : List SegmentView) (leaf : Leaf) → IsLawfulDesk old names stack (named_by_leaf leaf) → Follows old new (both (named_by_names names) (named_by_leaf leaf)) (named_by_names after) → AreLawfulNames new after → (FillOwners old names → FillOwners new after) → IsLawfulDesk new after stack none
given old new names after stack leaf desk f lawful fills =
    let pending : Holds old (both (both (named_by_names names) (named_by_leaf leaf)) (named_on stack)) = λ key. omega (arith, desk.held key) in
    let kept : SameData old new (named_on stack) = follows_keeps old new (both (named_by_names names) (named_by_leaf leaf)) (named_by_names after) (named_on stack) (named_on stack) f pending (λ key. omega arith) in
    record {
      lawful = lawful;
      filling = fills desk.filling;
      entries = (stack_kept old new stack kept desk.entries).0;
      held = λ key. omega (arith, desk.held key, f.holders key);
    }

-- an expression in hand comes as the newest entry
pub pushed : (store : StoreView) (names : Environment Leaf) (before after : List SegmentView) (s : SegmentView) → IsLawful store s → IsLawfulDesk store names before (named_by s) → after ≡ before ++ s ∷ [] → ((key : ℕ) → named_on after key ≡ named_on before key + named_by s key) → IsLawfulDesk store names after none
pushed store names before after s lawful desk is leaves = record {
  lawful = desk.lawful;
  filling = desk.filling;
  entries = subst (IsLawfulStack store) (sym is) (all_append (IsLawful store) before (s ∷ []) desk.entries (lawful, tt));
  held = λ key. omega (arith, desk.held key, leaves key);
}

-- the newest entry goes
newest_lawful : (store : StoreView) (stack : List SegmentView) (s : SegmentView) → IsLawfulStack store (stack ++ s ∷ []) → IsLawfulStack store stack × IsLawful store s
newest_lawful store [] s all = (tt, all.0)
newest_lawful store (g ∷ stack) s all =
    let rest = newest_lawful store stack s all.1 in ((all.0, rest.0), rest.1)

pub popped : (store : StoreView) (before after : List SegmentView) (s : SegmentView) → IsLawfulStack store before → before ≡ after ++ s ∷ [] → IsLawfulStack store after × IsLawful store s
popped store before after s all is = newest_lawful store after s (subst (IsLawfulStack store) is all)

-- into hand, beside others
pub taken : (store : StoreView) (names : Environment Leaf) (before after : List SegmentView) (s : SegmentView) (hand : LeafCounts) → IsLawfulDesk store names before hand → before ≡ after ++ s ∷ [] → ((key : ℕ) → named_on after key + named_by s key ≡ named_on before key) → IsLawfulDesk store names after (both (named_by s) hand)
taken store names before after s hand desk is leaves = record {
  lawful = desk.lawful;
  filling = desk.filling;
  entries = (popped store before after s desk.entries is).0;
  held = λ key. omega (arith, desk.held key, leaves key);
}

-- leaves in hand that are counted otherwise
pub hand_counted : (store : StoreView) (names : Environment Leaf) (stack : List SegmentView) (hand other : LeafCounts) → ((key : ℕ) → other key ≡ hand key) → IsLawfulDesk store names stack hand → IsLawfulDesk store names stack other
hand_counted store names stack hand other same desk = record {
  lawful = desk.lawful;
  filling = desk.filling;
  entries = desk.entries;
  held = λ key. omega (arith, desk.held key, same key);
}

-- a name's leaf
pub found_lawful : (store : StoreView) (names : Environment Leaf) (stack : List SegmentView) (name : List ℕ) (leaf : Leaf) → IsLawfulDesk store names stack none → look_up names name ≡ Some leaf → IsLawfulLeaf store leaf
found_lawful store names stack name leaf desk found = look_up-each (IsLawfulLeaf store) names name desk.lawful leaf found

-- 65 leaves an entry at most name an owner
pub few_named : (stack : List SegmentView) (key : ℕ) → AllByRecursion IsSegment stack → named_on stack key ≤ 65 * length stack
few_named [] key all = omega arith
few_named (g ∷ stack) key all =
    omega (arith, sum_by-cons (λ (x : SegmentView). named_by x key) g stack, named_at_most g key all.0, few_named stack key all.1)

-- entries are forced or copied where they stand
pub moved : (old new : StoreView) (names : Environment Leaf) (before after : List SegmentView) → IsLawfulDesk old names before none → Follows old new (named_on before) (named_on after) → IsLawfulStack new after → IsLawfulDesk new names after none
moved old new names before after desk f lawful =
    let counted : Follows old new (both (named_on before) none) (both (named_on after) none) =
    follows_counted old new (named_on before) (named_on after) _ _ (λ key. omega arith) (λ key. omega arith) f in
    let d = desk_follows old new names before after none none none (hand_counted old names before none (both none none) (λ key. refl) desk) counted lawful in
    hand_counted new names after (both none none) none (λ key. refl) d.0

-- ---- where a call succeeds

pub given_ok : {T E : Type 0} (r : Result T E) (old new : StoreView) (names after : Environment Leaf) (stack : List SegmentView) (leaf : Leaf) → IsLawfulDesk old names stack (named_by_leaf leaf)
    → OnOk r (Follows old new (both (named_by_names names) (named_by_leaf leaf)) (named_by_names after)) → OnOk r (AreLawfulNames new after) → OnOk r (FillOwners old names → FillOwners new after) → OnOk r (IsLawfulDesk new after stack none)
given_ok (Ok v) old new names after stack leaf desk f lawful fills = given old new names after stack leaf desk f lawful fills
given_ok (Err e) old new names after stack leaf desk f lawful fills = tt

pub pushed_ok : {T E : Type 0} (r : Result T E) (store : StoreView) (names : Environment Leaf) (before after : List SegmentView) (s : SegmentView) → IsLawful store s → IsLawfulDesk store names before (named_by s)
    → OnOk r (after ≡ before ++ s ∷ []) → OnOk r ((key : ℕ) → named_on after key ≡ named_on before key + named_by s key) → OnOk r (IsLawfulDesk store names after none)
pushed_ok (Ok v) store names before after s lawful desk is leaves = pushed store names before after s lawful desk is leaves
pushed_ok (Err e) store names before after s lawful desk is leaves = tt
