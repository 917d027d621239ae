-- What a machine stands for after the cells of a name's owner were written.
use Rattle.std.proofs.Common.{◌≡◌, ◌≢◌, ◌⊎◌, ℕ, ◌+◌, ◌<◌, ◌≤◌, Bool, true, false, ℤ, pos, List, [], ◌∷◌, length, map, Option, Some, None, Ok, Err, refl, sym, ap, subst, ◌∙◌, arith}
use Rattle.apl_base.specs.declared.cells.Kind.{Kind}
use Rattle.apl_base.specs.Array.{Array, size_of}
use Rattle.apl_base.specs.Elements.{indices}
use Rattle.array_desc.specs.Desc.{DescView}
use Rattle.array_store.specs.Stores.{StoreView, holders_of, cells_of, kind_of}
use Rattle.array_store.specs.Follows.{LeafCounts, Holds}
use Rattle.drag_along.specs.declared.leaves.Leaf.{Leaf}
use Rattle.drag_along.specs.declared.leaves.Leaf.TheVariants.{Stored, Gen}
use Rattle.drag_along.specs.Nodes.{named_by_leaf, leaf_shape, leaf_kind, leaf_desc}
use Rattle.drag_along.specs.Segments.{SegmentView}
use Rattle.drag_along.specs.Meaning.{Meaning}
use Rattle.drag_along.specs.Lawful.{IsLawfulLeaf, SameData}
use Rattle.drag_along.specs.Views.{IsWholeView, FillsShape, StandsForArray, owner_array}
use Rattle.drag_along.proofs.ViewLemmas.{whole_view_stands}
use Rattle.value_stack.specs.Stacks.{named_on, entries, IsLawfulStack}
use Rattle.value_stack.proofs.EntriesLemmas.{unread_is_unnamed, stack_kept}
use Rattle.apl_model.specs.Environment.{Environment, look_up, set_name}
use Rattle.apl_model.specs.Evaluation.{replace_in}
use Rattle.apl_model.specs.Subscript.{replaced}
use Rattle.leaf_names.specs.Variables.{named_by_names, AreLawfulNames, FillOwners, FillsOwner, array_of, variables_of}
use Rattle.alias_force.specs.Desk.{IsLawfulDesk}
use Rattle.alias_force.specs.Writing.{IsWritable}
use Rattle.alias_force.proofs.EntryLemmas.{one_of-self}
use Rattle.alias_force.proofs.NameLemmas.{bound_lawful, bound_named}
use Rattle.made_picks.specs.Picks.{positions_of}
use Rattle.machine_state.specs.declared.machines.Machine.{Machine}
use Rattle.machine_state.specs.StandsFor.{IsLawfulMachine, variables}
use Rattle.machine_state.specs.Steps.{pending}
use Rattle.machine_state.proofs.NameLemmas.{found_value}
use Rattle.replacing_steps.specs.Checks.{CanReplace}
use Rattle.replacing_steps.specs.Replaces.{AreReplacing, IsToWrite, WritesPlaces}
use Rattle.replacing_steps.specs.Writes.{WritesCells}
use Rattle.replacing_steps.proofs.CheckLemmas.{can_replace}
use Rattle.replacing_steps.proofs.VariableLemmas.{written_variables, written_names, IsNamedOnce}
use Rattle.replacing_steps.proofs.MachineLemmas.{one_way, IsSame}

-- ---- the leaf that has the owner

-- a leaf that has all of an owner stands for its cells
pub stands_for : (s : StoreView) (key : ℕ) (leaf : Leaf) → IsWholeView key (leaf_shape leaf) (leaf_kind leaf) leaf → FillsShape s key (leaf_shape leaf) → leaf_kind leaf ≡ kind_of s key → StandsForArray s leaf (owner_array s key (leaf_shape leaf))
stands_for s key leaf view fills kind = whole_view_stands s key (leaf_shape leaf) leaf fills (subst (λ (k : Kind). IsWholeView key (leaf_shape leaf) k leaf) kind view)

view_kind_of : (s : StoreView) (key : ℕ) (shape : List ℕ) (kind : Kind) (leaf : Leaf) → IsWholeView key shape kind leaf → IsLawfulLeaf s leaf → leaf_kind leaf ≡ kind_of s key
view_kind_of s key shape kind leaf view lawful = ap leaf_kind view.is ∙ sym (subst (IsLawfulLeaf s) view.is lawful).kind

view_named : (key : ℕ) (shape : List ℕ) (kind : Kind) (leaf : Leaf) → IsWholeView key shape kind leaf → named_by_leaf leaf key ≡ 1
view_named key shape kind leaf view = ap (λ (l : Leaf). named_by_leaf l key) view.is ∙ one_of-self key

view_fills : (s : StoreView) (key : ℕ) (kind : Kind) (leaf : Leaf) → IsWholeView key (leaf_shape leaf) kind leaf → length (cells_of s key) ≡ size_of (leaf_shape leaf) → FillsOwner s leaf
view_fills s key kind leaf view fills =
    let shape : leaf_shape leaf ≡ view.desc.shape = ap leaf_shape view.is in
    let few : length (cells_of s key) ≤ size_of view.desc.shape = omega (arith, fills, ap size_of shape) in
    subst (FillsOwner s) (sym view.is) few

-- ---- what is known before

pub record IsPlacing (m : Machine) (name : List ℕ) (mask : List Bool) (ns : List ℕ) (key : ℕ) (leaf : Leaf) (positions : List (Option Leaf)) (value : Leaf) : Type 0 where
  pub can : CanReplace m.origin (owner_array m.store key (leaf_shape leaf)) (positions_of m.store positions) (array_of m.store value) ns
  pub operands : AreReplacing mask (pending m) (array_of m.store value) (positions_of m.store positions)
  pub bound : look_up (variables m) name ≡ Some (owner_array m.store key (leaf_shape leaf))

pub placing : (m : Machine) (name : List ℕ) (mask : List Bool) (ns : List ℕ) (key : ℕ) (leaf : Leaf) (positions : List (Option Leaf)) (value : Leaf) (hand : LeafCounts) → IsLawfulMachine m hand → IsToWrite m name mask ns
    → look_up m.names name ≡ Some leaf → IsWholeView key (leaf_shape leaf) (leaf_kind leaf) leaf → FillsShape m.store key (leaf_shape leaf)
    → AreReplacing mask (pending m) (array_of m.store value) (positions_of m.store positions) → IsPlacing m name mask ns key leaf positions value
placing m name mask ns key leaf positions value hand lawful t found view fills are =
    let kind : leaf_kind leaf ≡ kind_of m.store key = view_kind_of m.store key (leaf_shape leaf) (leaf_kind leaf) leaf view (bound_lawful m.store m.names name leaf found lawful.desk.lawful) in
    let array : array_of m.store leaf ≡ owner_array m.store key (leaf_shape leaf) = (stands_for m.store key leaf view fills kind).array in
    let bound : look_up (variables m) name ≡ Some (owner_array m.store key (leaf_shape leaf)) = found_value m name (Some leaf) found ∙ ap (λ (a : Array). Some a) array in
    let twice : Some t.array ≡ Some (owner_array m.store key (leaf_shape leaf)) = sym t.bound ∙ bound in
    let same_array : t.array ≡ owner_array m.store key (leaf_shape leaf) = cc in
    let same : IsSame t.value (array_of m.store value) t.ps (positions_of m.store positions) = one_way mask (pending m) t.value (array_of m.store value) t.ps (positions_of m.store positions) t.operands are in
    record {
      can = subst (λ (a : Array). CanReplace m.origin a (positions_of m.store positions) (array_of m.store value) ns) same_array
          (subst (λ (qs : List (Option Array)). CanReplace m.origin t.array qs (array_of m.store value) ns) same.positions
          (subst (λ (b : Array). CanReplace m.origin t.array t.ps b ns) same.value t.can));
      operands = are;
      bound = bound;
    }

-- ---- what is so afterwards

-- the owner is named once, by the name
named_once : (m : Machine) (name : List ℕ) (key : ℕ) (hand : LeafCounts) → IsLawfulMachine m hand → IsWritable m.store m.names m.stack name key → IsNamedOnce m.store m.names m.stack key
named_once m name key hand lawful w =
    let unread : named_on m.stack key ≡ 0 = unread_is_unnamed m.stack key 0 w.unread in
    record {
      unread = unread;
      once = omega (arith, lawful.desk.held key, w.alone);
      holds = λ other. omega (arith, lawful.desk.held other);
      entries = λ other. omega (arith, lawful.desk.held other);
    }

-- the entries stay
entries_written : (old new : StoreView) (stack : List SegmentView) (key : ℕ) (cells : List ℤ) → WritesCells old new key cells → named_on stack key ≡ 0 → ((other : ℕ) → named_on stack other ≤ holders_of old other) → IsLawfulStack old stack
    → IsLawfulStack new stack × (entries new stack ≡ entries old stack)
entries_written old new stack key cells w unread holds lawful =
    let same : SameData old new (named_on stack) = record {
      live = λ other some. omega (arith, some, holds other, w.holders other);
      kept = λ other some. w.others other (λ e. omega (arith, some, unread, ap (named_on stack) e));
    } in
    stack_kept old new stack same lawful

-- the machine is lawful with all hands with which it was
lawful_written : (m0 m1 : Machine) (name : List ℕ) (key : ℕ) (leaf : Leaf) (cells : List ℤ) → m1.names ≡ m0.names → m1.stack ≡ m0.stack → m1.origin ≡ m0.origin → WritesCells m0.store m1.store key cells → IsWritable m0.store m0.names m0.stack name key
    → look_up m0.names name ≡ Some leaf → IsWholeView key (leaf_shape leaf) (leaf_kind leaf) leaf → FillsShape m0.store key (leaf_shape leaf) → (hand : LeafCounts) → IsLawfulMachine m0 hand → IsLawfulMachine m1 hand
lawful_written m0 m1 name key leaf cells names stack origin w writable found view fills hand lawful =
    let once = named_once m0 name key hand lawful writable in
    let long : length (cells_of m1.store key) ≡ size_of (leaf_shape leaf) = ap (λ (zs : List ℤ). length zs) w.written ∙ w.count ∙ fills.count in
    let kind : leaf_kind leaf ≡ kind_of m1.store key = view_kind_of m0.store key (leaf_shape leaf) (leaf_kind leaf) leaf view (bound_lawful m0.store m0.names name leaf found lawful.desk.lawful) ∙ sym w.kind in
    let now : FillsShape m1.store key (leaf_shape leaf) = record { live = omega (arith, fills.live, w.holders key); count = long } in
    let named = written_names m0.store m1.store m0.names m0.stack key cells name leaf w found once (view_named key (leaf_shape leaf) (leaf_kind leaf) leaf view) lawful.desk.lawful lawful.desk.filling
    (stands_for m1.store key leaf view now kind).lawful (view_fills m1.store key (leaf_kind leaf) leaf view long) in
    let there = entries_written m0.store m1.store m0.stack key cells w once.unread once.entries lawful.desk.entries in
    let desk : IsLawfulDesk m1.store m0.names m0.stack hand = record {
      lawful = named.0;
      filling = named.1;
      entries = there.0;
      held = λ other. w.holders other ∙ lawful.desk.held other;
    } in
    record {
      desk = subst (λ (e : Environment Leaf). IsLawfulDesk m1.store e m1.stack hand) (sym names) (subst (λ (s : List SegmentView). IsLawfulDesk m1.store m0.names s hand) (sym stack) desk);
      origin = subst (λ (o : ℤ). (o ≡ pos 0) ⊎ (o ≡ pos 1)) (sym origin) lawful.origin;
    }

pub placed : (m0 m1 : Machine) (name : List ℕ) (mask : List Bool) (ns : List ℕ) (key : ℕ) (leaf : Leaf) (positions : List (Option Leaf)) (value : Leaf) → IsPlacing m0 name mask ns key leaf positions value
    → m1.names ≡ m0.names → m1.stack ≡ m0.stack → m1.origin ≡ m0.origin → m1.store.limit ≡ m0.store.limit
    → WritesCells m0.store m1.store key (replaced m0.origin (owner_array m0.store key (leaf_shape leaf)) (positions_of m0.store positions) (array_of m0.store value) (indices ns) (cells_of m0.store key))
    → IsWritable m0.store m0.names m0.stack name key → look_up m0.names name ≡ Some leaf → IsWholeView key (leaf_shape leaf) (leaf_kind leaf) leaf → FillsShape m0.store key (leaf_shape leaf) → (hand : LeafCounts) → IsLawfulMachine m0 hand
    → WritesPlaces m0 m1 name mask
placed m0 m1 name mask ns key leaf positions value p names stack origin limit w writable found view fills hand lawful =
    let a : Array = owner_array m0.store key (leaf_shape leaf) in
    let ps : List (Option Array) = positions_of m0.store positions in
    let b : Array = array_of m0.store value in
    let cells : List ℤ = replaced m0.origin a ps b (indices ns) (cells_of m0.store key) in
    let once = named_once m0 name key hand lawful writable in
    let there = entries_written m0.store m1.store m0.stack key cells w once.unread once.entries lawful.desk.entries in
    let long : length (cells_of m1.store key) ≡ size_of (leaf_shape leaf) = ap (λ (zs : List ℤ). length zs) w.written ∙ w.count ∙ fills.count in
    let kind : leaf_kind leaf ≡ kind_of m1.store key = view_kind_of m0.store key (leaf_shape leaf) (leaf_kind leaf) leaf view (bound_lawful m0.store m0.names name leaf found lawful.desk.lawful) ∙ sym w.kind in
    let now : FillsShape m1.store key (leaf_shape leaf) = record { live = omega (arith, fills.live, w.holders key); count = long } in
    let out : array_of m1.store leaf ≡ record a { cells = cells } =
    (stands_for m1.store key leaf view now kind).array
    ∙ ap (λ (k : Kind). let x : Array = record { kind = k; shape = leaf_shape leaf; cells = cells_of m1.store key } in x) w.kind
    ∙ ap (λ (zs : List ℤ). let x : Array = record { kind = kind_of m0.store key; shape = leaf_shape leaf; cells = zs } in x) w.written in
    record {
      value = b;
      ps = ps;
      operands = p.operands;
      array = record a { cells = cells };
      answer = ap (λ (x : Option Array). replace_in m0.origin x ps b) p.bound ∙ can_replace m0.origin a b ps ns p.can;
      lawful = lawful_written m0 m1 name key leaf cells names stack origin w writable found view fills;
      variables_are = λ h is.
          let again = named_once m0 name key h is writable in
          ap (λ (e : Environment Leaf). variables_of m1.store m1.origin e) names
          ∙ ap (λ (o : ℤ). variables_of m1.store o m0.names) origin
          ∙ written_variables m0.store m1.store key cells m0.names m0.stack name leaf m0.origin w found again (view_named key (leaf_shape leaf) (leaf_kind leaf) leaf view) is.desk.lawful
          ∙ ap (set_name (variables m0) name) out;
      pending_is = ap (entries m1.store) stack ∙ there.1;
      limit = limit;
    }

-- a name has one leaf
pub one_leaf : (names : Environment Leaf) (name : List ℕ) (a b : Leaf) → look_up names name ≡ Some a → look_up names name ≡ Some b → a ≡ b
one_leaf names name a b p q =
    let both : Some a ≡ Some b = sym p ∙ q in
    cc
