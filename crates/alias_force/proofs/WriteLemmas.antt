-- A name that may be written: what became of it, of the entries, and of all that is held.
use Rattle.std.proofs.Common.{◌≡◌, ℕ, ◌≤◌, List, None, Some, refl, sym, ap, ◌∙◌, subst, inl, inr, arith}
use Rattle.std.specs.Prelude.{Result, Ok, Err, IfOk, IfErr, OnErr}
use Rattle.std.proofs.lemmas.Bool.{cases_lt}
use Rattle.apl_base.specs.declared.cells.Kind.{Kind}
use Rattle.array_store.specs.Stores.{StoreView, holders_of}
use Rattle.array_store.specs.Follows.{LeafCounts, Follows, Holds, both, one_of}
use Rattle.array_store.proofs.FollowsLemmas.{follows_then, follows_beside, follows_after}
use Rattle.array_store.specs.declared.ids.BeginFault.{BeginFault}
use Rattle.array_store.specs.declared.ids.BeginFault.TheVariants as begin
use Rattle.drag_along.specs.declared.leaves.Leaf.{Leaf}
use Rattle.drag_along.specs.Nodes.{leaf_shape, leaf_kind, named_by_leaf}
use Rattle.drag_along.specs.Segments.{SegmentView}
use Rattle.drag_along.specs.Views.{IsWholeView, FillsShape}
use Rattle.drag_along.proofs.KeptLemmas.{follows_keeps}
use Rattle.value_stack.specs.Stacks.{named_on, entries, Reads, IsLeastOrNone, IsLawfulStack}
use Rattle.value_stack.proofs.EntriesLemmas.{stack_kept}
use Rattle.apl_model.specs.Environment.{Environment, look_up, set_name}
use Rattle.e_machine.specs.Forced.{IsCopyFault}
use Rattle.leaf_names.specs.Variables.{named_by_names, AreLawfulNames, FillOwners}
use Rattle.leaf_names.proofs.CountLemmas.{set_name-named}
use Rattle.leaf_names.proofs.EachLemmas.{set_name-found}
use Rattle.alias_force.specs.Desk.{IsLawfulDesk}
use Rattle.alias_force.specs.Moving.{AreMoved}
use Rattle.alias_force.specs.Writing.{reads, HasAlone, IsWritable, ClearsReaders, CopiesName, GetsCopy, IsNoCopy, StopsAtName}
use Rattle.alias_force.proofs.EntryLemmas.{view_shape, view_kind, named_key}
use Rattle.alias_force.proofs.PassLemmas.{ComesElsewhere, all_kept}
use Rattle.alias_force.proofs.ReaderLemmas.{unnamed_unread}

-- ---- clauses on what is answered

pub if_ok_both : {A E : Type 0} (r : Result A E) (P Q R : A → Type 0) → ((x : A) → P x → Q x → R x) → IfOk r P → IfOk r Q → IfOk r R
if_ok_both (Ok x) P Q R follows p q = follows x p q
if_ok_both (Err e) P Q R follows p q = tt

pub if_err_with : {A E Q : Type 0} (r : Result A E) (P R : E → Type 0) → ((e : E) → P e → Q → R e) → IfErr r P → OnErr r Q → IfErr r R
if_err_with (Ok x) P R follows p q = tt
if_err_with (Err e) P R follows p q = follows e p q

-- ---- all that is held

pub desk_after : (s t : StoreView) (names after : Environment Leaf) (before stack : List SegmentView) (hand : LeafCounts) → AreLawfulNames t after → (FillOwners s names → FillOwners t after) → IsLawfulStack t stack → Follows s t (both (named_on before) (named_by_names names)) (both (named_on stack) (named_by_names after)) → IsLawfulDesk s names before hand → IsLawfulDesk t after stack hand
desk_after s t names after before stack hand lawful filling entries follows desk = record {
  lawful = lawful;
  filling = filling desk.filling;
  entries = entries;
  held = λ key. omega (arith, desk.held key, follows.holders key);
}

-- ---- entries beside which a name is bound anew

pub entries_stay : (s t : StoreView) (stack : List SegmentView) (gone came : LeafCounts) → IsLawfulStack s stack → Holds s (both gone (named_on stack)) → Follows s t gone came → IsLawfulStack t stack × (entries t stack ≡ entries s stack)
entries_stay s t stack gone came lawful holds follows =
    stack_kept s t stack (follows_keeps s t gone came (named_on stack) (named_on stack) follows holds (λ key. omega arith)) lawful

-- the copy comes to an owner that nobody held
copy_elsewhere : (s : StoreView) (names after : Environment Leaf) (name : List ℕ) (copy : Leaf) (owner : ℕ) (shape : List ℕ) (kind : Kind) → after ≡ set_name names name copy → IsWholeView owner shape kind copy → holders_of s owner ≡ 0 → ComesElsewhere s (named_by_names names) (named_by_names after)
copy_elsewhere s names after name copy owner shape kind put view free key once none_gone =
    let by_copy : named_by_leaf copy key ≡ one_of owner key = ap (λ (l : Leaf). named_by_leaf l key) view.is in
    let counts = set_name-named names name copy key in
    let few : named_by_names after key ≤ one_of owner key = omega (arith, ap (λ (e : Environment Leaf). named_by_names e key) put, counts, by_copy, none_gone) in
    elim (cases_lt 0 (one_of owner key)) [
      | inl some ↦ absurd (omega (arith, ap (holders_of s) (named_key owner key some), free, once))
      | inr less ↦ omega (arith, few, less)
    ]

pub moved_still : (s t : StoreView) (names after : Environment Leaf) (before stack : List SegmentView) (name : List ℕ) (leaf : Leaf) (owner : ℕ) → AreMoved (reads leaf) s before stack → Holds s (both (named_on stack) (named_by_names names)) → Follows s t (named_by_names names) (named_by_names after) → CopiesName s t names after name leaf owner → holders_of s owner ≡ 0 → AreMoved (reads leaf) t before stack
moved_still s t names after before stack name leaf owner moved holds follows copies free =
    all_kept (reads leaf) s t before stack (named_by_names names) (named_by_names after) moved holds follows
    (copy_elsewhere s names after name copies.copy owner (leaf_shape leaf) (leaf_kind leaf) copies.bound copies.view free)

-- ---- the name may be written

-- it has its leaf
pub kept_writable : (t : StoreView) (names : Environment Leaf) (stack : List SegmentView) (name : List ℕ) (leaf : Leaf) (key : ℕ) → look_up names name ≡ Some leaf → IsWholeView key (leaf_shape leaf) (leaf_kind leaf) leaf → FillsShape t key (leaf_shape leaf) → holders_of t key ≡ 1 → IsLeastOrNone (Reads key) stack 0 None → IsWritable t names stack name key
kept_writable t names stack name leaf key bound view fills alone unread = record { leaf = leaf; bound = bound; view = view; fills = fills; alone = alone; unread = unread }

-- it has a copy
pub copy_writable : (s t : StoreView) (names after : Environment Leaf) (stack : List SegmentView) (name : List ℕ) (leaf : Leaf) (key : ℕ) → Holds s (named_on stack) → holders_of s key ≡ 0 → CopiesName s t names after name leaf key → IsWritable t after stack name key
copy_writable s t names after stack name leaf key holds free copies =
    let copy : Leaf = copies.copy in
    let shape : leaf_shape copy ≡ leaf_shape leaf = view_shape key (leaf_shape leaf) (leaf_kind leaf) copy copies.view in
    let kind : leaf_kind copy ≡ leaf_kind leaf = view_kind key (leaf_shape leaf) (leaf_kind leaf) copy copies.view in
    let shaped : IsWholeView key (leaf_shape copy) (leaf_kind leaf) copy = subst (λ (ns : List ℕ). IsWholeView key ns (leaf_kind leaf) copy) (sym shape) copies.view in
    record {
      leaf = copy;
      bound = ap (λ (e : Environment Leaf). look_up e name) copies.bound ∙ set_name-found names name copy;
      view = subst (λ (k : Kind). IsWholeView key (leaf_shape copy) k copy) (sym kind) shaped;
      fills = subst (FillsShape t key) (sym shape) copies.own.fills;
      alone = copies.own.alone;
      unread = unnamed_unread stack key (omega (arith, holds key, free));
    }

-- ---- the name is refused a copy

pub no_copy : (s t : StoreView) (leaf : Leaf) (fault : BeginFault) → IsCopyFault s t leaf fault → IsNoCopy t leaf fault
no_copy s t leaf (begin.WsFull live asked) why =
    let held : t.live ≡ s.live = ap (λ (x : StoreView). x.live) why.unchanged in
    let limit : t.limit ≡ s.limit = ap (λ (x : StoreView). x.limit) why.unchanged in
    record { live = why.live ∙ sym held; asked = why.asked; full = omega (arith, why.full, held, limit); unchanged = refl }
no_copy s t leaf begin.NoMemory why = omega (arith, why.0, ap (λ (x : StoreView). x.live) why.1.only, ap (λ (x : StoreView). x.limit) why.1.only)

pub stops_at_name : (s0 s t : StoreView) (names : Environment Leaf) (before stack : List SegmentView) (leaf : Leaf) (fault : BeginFault) → ((key : ℕ) → HasAlone s0 before leaf key → ⊥) → AreMoved (reads leaf) s before stack → Holds s (both (named_on stack) (named_by_names names)) → Follows s t (named_by_names names) (named_by_names names) → IsCopyFault s t leaf fault → StopsAtName s0 t before stack leaf fault
stops_at_name s0 s t names before stack leaf fault lacks moved holds follows why = record {
  lacks = lacks;
  moved = all_kept (reads leaf) s t before stack (named_by_names names) (named_by_names names) moved holds follows (λ key once none_gone. none_gone);
  refused = no_copy s t leaf fault why;
}

-- ---- the name got a copy

pub gets_copy : (old s t : StoreView) (names after : Environment Leaf) (before stack : List SegmentView) (name : List ℕ) (leaf : Leaf) (key : ℕ) → ((other : ℕ) → HasAlone old before leaf other → ⊥) → ClearsReaders old s before stack leaf → Holds s (both (named_on stack) (named_by_names names)) → Follows s t (named_by_names names) (named_by_names after) → CopiesName s t names after name leaf key → holders_of s key ≡ 0 → GetsCopy old t names after before stack name leaf key
gets_copy old s t names after before stack name leaf key lacks clears holds follows copies free = record {
  lacks = lacks;
  between = s;
  clears = clears;
  copies = copies;
  moved = moved_still s t names after before stack name leaf key clears.moved holds follows copies free;
}

-- holders follow the entries, then the names
pub follows_both : (old s t : StoreView) (names after : Environment Leaf) (before stack : List SegmentView) → Follows old s (named_on before) (named_on stack) → Follows s t (named_by_names names) (named_by_names after) → Follows old t (both (named_on before) (named_by_names names)) (both (named_on stack) (named_by_names after))
follows_both old s t names after before stack first second =
    follows_then old s t (both (named_on before) (named_by_names names)) (both (named_on stack) (named_by_names names)) (both (named_on stack) (named_by_names after))
    (follows_beside old s (named_on before) (named_on stack) (named_by_names names) first)
    (follows_after s t (named_by_names names) (named_by_names after) (named_on stack) second)
