use Rattle.std.proofs.Common.{◌≡◌, ℕ, List, Some, inr, sym, ◌∙◌, subst, arith}
use Rattle.std.specs.Prelude.{◌⊎◌}
use Rattle.array_store.specs.Stores.{StoreView, holders_of}
use Rattle.array_store.specs.Follows.{both, Follows, Holds}
use Rattle.array_store.proofs.FollowsLemmas.{follows_beside}
use Rattle.drag_along.specs.declared.leaves.Leaf.{Leaf}
use Rattle.drag_along.specs.Segments.{SegmentView}
use Rattle.value_stack.specs.Stacks.{named_on}
use Rattle.apl_model.specs.Environment.{Environment, look_up}
use Rattle.leaf_names.specs.Variables.{named_by_names}
use Rattle.e_machine.specs.Forced.{IsCopyFault}
use Rattle.alias_force.specs.Writing.{IsWritable, CopiesName, KeepsLeaf, GetsCopy, StopsAtName, IsNotWritable}
use Rattle.alias_force.proofs.NameLemmas.{bound_lawful, bound_named, names_stay}
use Rattle.alias_force.proofs.WriteLemmas.{if_ok_both, if_err_with, desk_after, follows_both, entries_stay, copy_writable, gets_copy, stops_at_name}
use Rattle.alias_force.proofs.writing.before_write.Goals as goal

pub clear_readers-requires-clause-leaf : goal.clear_readers-requires-clause-leaf
clear_readers-requires-clause-leaf g c = bound_lawful _ _ _ _ (sym c.in-Some.ensures) c.requires.lawful_names

pub clear_readers-requires-clause-held : goal.clear_readers-requires-clause-held
clear_readers-requires-clause-held g c = λ key.
    omega (arith, c.requires.held key, bound_named (g.H.Holder.names c.args.holder.now) c.args.name.now c.in-Some.leaf.now key (sym c.in-Some.ensures))

pub returns-in_err-owner-clause-variables : goal.returns-in_err-owner-clause-variables
returns-in_err-owner-clause-variables g c =
    (names_stay c.args.store.now c.clear_readers.new.store (g.H.Holder.names c.args.holder.now) (named_on c.args.stack.now) (named_on c.clear_readers.new.stack) c.requires.lawful_names c.requires.held c.clear_readers.ensures.follows).variables

pub returns-in_err-owner-clause-lawful_names : goal.returns-in_err-owner-clause-lawful_names
returns-in_err-owner-clause-lawful_names g c =
    (names_stay c.args.store.now c.clear_readers.new.store (g.H.Holder.names c.args.holder.now) (named_on c.args.stack.now) (named_on c.clear_readers.new.stack) c.requires.lawful_names c.requires.held c.clear_readers.ensures.follows).lawful

pub returns-in_err-owner-clause-filling : goal.returns-in_err-owner-clause-filling
returns-in_err-owner-clause-filling g c =
    (names_stay c.args.store.now c.clear_readers.new.store (g.H.Holder.names c.args.holder.now) (named_on c.args.stack.now) (named_on c.clear_readers.new.stack) c.requires.lawful_names c.requires.held c.clear_readers.ensures.follows).filling

pub returns-in_err-owner-clause-desk : goal.returns-in_err-owner-clause-desk
returns-in_err-owner-clause-desk g c = λ hand desk.
    let names : Environment Leaf = g.H.Holder.names c.args.holder.now in
    let still = names_stay c.args.store.now c.clear_readers.new.store names (named_on c.args.stack.now) (named_on c.clear_readers.new.stack) c.requires.lawful_names c.requires.held c.clear_readers.ensures.follows in
    desk_after c.args.store.now c.clear_readers.new.store names names c.args.stack.now c.clear_readers.new.stack hand still.lawful still.filling c.clear_readers.ensures.lawful
    (follows_beside c.args.store.now c.clear_readers.new.store (named_on c.args.stack.now) (named_on c.clear_readers.new.stack) (named_by_names names) c.clear_readers.ensures.follows) desk

pub returns-in-Some-2-clause-variables : goal.returns-in-Some-2-clause-variables
returns-in-Some-2-clause-variables g c =
    (names_stay c.args.store.now c.clear_readers.new.store (g.H.Holder.names c.args.holder.now) (named_on c.args.stack.now) (named_on c.clear_readers.new.stack) c.requires.lawful_names c.requires.held c.clear_readers.ensures.follows).variables

pub returns-in-Some-2-clause-lawful_names : goal.returns-in-Some-2-clause-lawful_names
returns-in-Some-2-clause-lawful_names g c =
    (names_stay c.args.store.now c.clear_readers.new.store (g.H.Holder.names c.args.holder.now) (named_on c.args.stack.now) (named_on c.clear_readers.new.stack) c.requires.lawful_names c.requires.held c.clear_readers.ensures.follows).lawful

pub returns-in-Some-2-clause-filling : goal.returns-in-Some-2-clause-filling
returns-in-Some-2-clause-filling g c =
    (names_stay c.args.store.now c.clear_readers.new.store (g.H.Holder.names c.args.holder.now) (named_on c.args.stack.now) (named_on c.clear_readers.new.stack) c.requires.lawful_names c.requires.held c.clear_readers.ensures.follows).filling

pub returns-in-Some-2-clause-desk : goal.returns-in-Some-2-clause-desk
returns-in-Some-2-clause-desk g c = λ hand desk.
    let names : Environment Leaf = g.H.Holder.names c.args.holder.now in
    let still = names_stay c.args.store.now c.clear_readers.new.store names (named_on c.args.stack.now) (named_on c.clear_readers.new.stack) c.requires.lawful_names c.requires.held c.clear_readers.ensures.follows in
    desk_after c.args.store.now c.clear_readers.new.store names names c.args.stack.now c.clear_readers.new.stack hand still.lawful still.filling c.clear_readers.ensures.lawful
    (follows_beside c.args.store.now c.clear_readers.new.store (named_on c.args.stack.now) (named_on c.clear_readers.new.stack) (named_by_names names) c.clear_readers.ensures.follows) desk

pub copy_name-requires-clause-lawful : goal.copy_name-requires-clause-lawful
copy_name-requires-clause-lawful g c =
    (names_stay c.args.store.now c.clear_readers.new.store (g.H.Holder.names c.args.holder.now) (named_on c.args.stack.now) (named_on c.clear_readers.new.stack) c.requires.lawful_names c.requires.held c.clear_readers.ensures.follows).lawful

pub returns-clause-writable : goal.returns-clause-writable
returns-clause-writable g c =
    let s : StoreView = c.clear_readers.new.store in
    let names : Environment Leaf = g.H.Holder.names c.args.holder.now in
    let after : Environment Leaf = g.H.Holder.names c.copy_name.new.holder in
    let leaf : Leaf = c.in-Some.leaf.now in
    let bound : look_up names c.args.name.now ≡ Some leaf = sym c.in-Some.ensures in
    let holds : Holds s (named_on c.clear_readers.new.stack) = λ key. omega (arith, c.requires.held key, c.clear_readers.ensures.follows.holders key) in
    if_ok_both c.copy_name.result (λ key. (l : Leaf) → look_up names c.args.name.now ≡ Some l → CopiesName s c.copy_name.new.store names after c.args.name.now l key) (λ key. holders_of s key ≡ 0)
    (IsWritable c.copy_name.new.store after c.clear_readers.new.stack c.args.name.now)
    (λ key copies free. copy_writable s c.copy_name.new.store names after c.clear_readers.new.stack c.args.name.now leaf key holds free (copies leaf bound))
    c.copy_name.ensures.copied c.copy_name.ensures.free

pub returns-clause-exact : goal.returns-clause-exact
returns-clause-exact g c =
    let old : StoreView = c.args.store.now in
    let s : StoreView = c.clear_readers.new.store in
    let t : StoreView = c.copy_name.new.store in
    let names : Environment Leaf = g.H.Holder.names c.args.holder.now in
    let after : Environment Leaf = g.H.Holder.names c.copy_name.new.holder in
    let name : List ℕ = c.args.name.now in
    let before : List SegmentView = c.args.stack.now in
    let stack : List SegmentView = c.clear_readers.new.stack in
    let held : Holds s (both (named_on stack) (named_by_names names)) = λ key. omega (arith, c.requires.held key, c.clear_readers.ensures.follows.holders key) in
    if_ok_both c.copy_name.result (λ key. (l : Leaf) → look_up names name ≡ Some l → CopiesName s t names after name l key) (λ key. holders_of s key ≡ 0)
    (λ key. (l : Leaf) → look_up names name ≡ Some l → KeepsLeaf old t names after before stack l key ⊎ GetsCopy old t names after before stack name l key)
    (λ key copies free l bound.
    let same : l ≡ c.in-Some.leaf.now = (let e : Some l ≡ Some c.in-Some.leaf.now = sym bound ∙ sym c.in-Some.ensures in cc) in
    let here : GetsCopy old t names after before stack name c.in-Some.leaf.now key =
    gets_copy old s t names after before stack name c.in-Some.leaf.now key (rw c.in_default-2.is at c.in_ok-owner.ensures.found) c.in_ok-owner.ensures.clears held c.copy_name.ensures.follows (copies c.in-Some.leaf.now (sym c.in-Some.ensures)) free in
    inr (rw same here))
    c.copy_name.ensures.copied c.copy_name.ensures.free

pub returns-clause-refused : goal.returns-clause-refused
returns-clause-refused g c =
    let old : StoreView = c.args.store.now in
    let s : StoreView = c.clear_readers.new.store in
    let t : StoreView = c.copy_name.new.store in
    let names : Environment Leaf = g.H.Holder.names c.args.holder.now in
    let after : Environment Leaf = g.H.Holder.names c.copy_name.new.holder in
    let name : List ℕ = c.args.name.now in
    let before : List SegmentView = c.args.stack.now in
    let stack : List SegmentView = c.clear_readers.new.stack in
    let held : Holds s (both (named_on stack) (named_by_names names)) = λ key. omega (arith, c.requires.held key, c.clear_readers.ensures.follows.holders key) in
    if_err_with c.copy_name.result (λ fault. (l : Leaf) → look_up names name ≡ Some l → IsCopyFault s t l fault)
    (λ fault. (l : Leaf) → look_up names name ≡ Some l → IsNotWritable old t before stack l fault)
    (λ fault why kept l bound.
    let same : l ≡ c.in-Some.leaf.now = (let e : Some l ≡ Some c.in-Some.leaf.now = sym bound ∙ sym c.in-Some.ensures in cc) in
    let follows : Follows s t (named_by_names names) (named_by_names names) = subst (λ (e : Environment Leaf). Follows s t (named_by_names names) (named_by_names e)) kept c.copy_name.ensures.follows in
    let here : StopsAtName old t before stack c.in-Some.leaf.now fault =
    stops_at_name old s t names before stack c.in-Some.leaf.now fault (rw c.in_default-2.is at c.in_ok-owner.ensures.found) c.in_ok-owner.ensures.clears.moved held follows (why c.in-Some.leaf.now (sym c.in-Some.ensures)) in
    inr (rw same here))
    c.copy_name.ensures.refused c.copy_name.ensures.kept

pub returns-clause-means : goal.returns-clause-means
returns-clause-means g c =
    let held : Holds c.clear_readers.new.store (both (named_by_names (g.H.Holder.names c.args.holder.now)) (named_on c.clear_readers.new.stack)) = λ key. omega (arith, c.requires.held key, c.clear_readers.ensures.follows.holders key) in
    (entries_stay c.clear_readers.new.store c.copy_name.new.store c.clear_readers.new.stack (named_by_names (g.H.Holder.names c.args.holder.now)) (named_by_names (g.H.Holder.names c.copy_name.new.holder)) c.clear_readers.ensures.lawful held c.copy_name.ensures.follows).1
    ∙ c.clear_readers.ensures.means

pub returns-clause-variables : goal.returns-clause-variables
returns-clause-variables g c = λ origin. c.copy_name.ensures.variables origin ∙ (names_stay c.args.store.now c.clear_readers.new.store (g.H.Holder.names c.args.holder.now) (named_on c.args.stack.now) (named_on c.clear_readers.new.stack) c.requires.lawful_names c.requires.held c.clear_readers.ensures.follows).variables origin

pub returns-clause-lawful : goal.returns-clause-lawful
returns-clause-lawful g c =
    let held : Holds c.clear_readers.new.store (both (named_by_names (g.H.Holder.names c.args.holder.now)) (named_on c.clear_readers.new.stack)) = λ key. omega (arith, c.requires.held key, c.clear_readers.ensures.follows.holders key) in
    (entries_stay c.clear_readers.new.store c.copy_name.new.store c.clear_readers.new.stack (named_by_names (g.H.Holder.names c.args.holder.now)) (named_by_names (g.H.Holder.names c.copy_name.new.holder)) c.clear_readers.ensures.lawful held c.copy_name.ensures.follows).0

pub returns-clause-filling : goal.returns-clause-filling
returns-clause-filling g c = λ filling. c.copy_name.ensures.filling ((names_stay c.args.store.now c.clear_readers.new.store (g.H.Holder.names c.args.holder.now) (named_on c.args.stack.now) (named_on c.clear_readers.new.stack) c.requires.lawful_names c.requires.held c.clear_readers.ensures.follows).filling filling)

pub returns-clause-follows : goal.returns-clause-follows
returns-clause-follows g c =
    follows_both c.args.store.now c.clear_readers.new.store c.copy_name.new.store (g.H.Holder.names c.args.holder.now) (g.H.Holder.names c.copy_name.new.holder) c.args.stack.now c.clear_readers.new.stack c.clear_readers.ensures.follows c.copy_name.ensures.follows

pub returns-clause-desk : goal.returns-clause-desk
returns-clause-desk g c = λ hand desk.
    let names : Environment Leaf = g.H.Holder.names c.args.holder.now in
    let after : Environment Leaf = g.H.Holder.names c.copy_name.new.holder in
    let held : Holds c.clear_readers.new.store (both (named_by_names names) (named_on c.clear_readers.new.stack)) = λ key. omega (arith, c.requires.held key, c.clear_readers.ensures.follows.holders key) in
    let entries = entries_stay c.clear_readers.new.store c.copy_name.new.store c.clear_readers.new.stack (named_by_names names) (named_by_names after) c.clear_readers.ensures.lawful held c.copy_name.ensures.follows in
    desk_after c.args.store.now c.copy_name.new.store names after c.args.stack.now c.clear_readers.new.stack hand c.copy_name.ensures.lawful
    (λ filling. c.copy_name.ensures.filling ((names_stay c.args.store.now c.clear_readers.new.store (g.H.Holder.names c.args.holder.now) (named_on c.args.stack.now) (named_on c.clear_readers.new.stack) c.requires.lawful_names c.requires.held c.clear_readers.ensures.follows).filling filling)) entries.0
    (follows_both c.args.store.now c.clear_readers.new.store c.copy_name.new.store names after c.args.stack.now c.clear_readers.new.stack c.clear_readers.ensures.follows c.copy_name.ensures.follows) desk
