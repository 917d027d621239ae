-- Leaves that are given to names.
use Rattle.std.proofs.Common.{◌≡◌, ◌⊎◌, ℕ, ℤ, pos, List, [], ◌∷◌, ◌++◌, None, Ok, Err, sym, ap, subst, ◌∙◌, arith}
use Rattle.std.specs.Prelude.{Result}
use Rattle.apl_base.specs.Array.{Array}
use Rattle.array_store.specs.Follows.{LeafCounts, Follows, Holds, both, none}
use Rattle.drag_along.specs.declared.leaves.Leaf.{Leaf}
use Rattle.drag_along.specs.Nodes.{named_by_leaf}
use Rattle.drag_along.specs.Segments.{SegmentView}
use Rattle.drag_along.specs.Lawful.{SameData, IsLawfulLeaf}
use Rattle.drag_along.specs.Meaning.{Means, leaf_array}
use Rattle.drag_along.proofs.KeptLemmas.{follows_keeps, leaf_kept}
use Rattle.value_stack.specs.Stacks.{named_on, entries, MayFail, IsLeastOrNone, IsLawfulStack}
use Rattle.value_stack.proofs.EntriesLemmas.{stack_kept}
use Rattle.apl_model.specs.Environment.{Environment, set_name}
use Rattle.leaf_names.specs.Variables.{named_by_names, array_of, variables_of, AreLawfulNames, FillOwners}
use Rattle.alias_force.specs.Desk.{IsLawfulDesk}
use Rattle.machine_state.specs.declared.machines.Machine.{Machine}
use Rattle.machine_state.specs.StandsFor.{IsLawfulMachine, variables}
use Rattle.machine_state.specs.Steps.{pending, Assigns, GivesLeaf, Keeps}
use Rattle.machine_state.proofs.KeepsLemmas.{keeps, with_none}
use Rattle.pending_steps.specs.declared.halts.Halt.{Halt}
use Rattle.pending_steps.specs.declared.halts.Halt.TheVariants as halt
use Rattle.pending_steps.specs.Leaves.{TakesLeaf, PutsHeld}
use Rattle.pending_steps.specs.Steps.{OnError}
use Rattle.alias_force.proofs.DeskLemmas.{desk_follows}
use Rattle.alias_force.proofs.SafeLemmas.{safe_means}
use Rattle.leaf_names.proofs.KeptLemmas.{array_kept}

stack_stays : (old new : Machine) (leaf : Leaf) (hand : LeafCounts) → Follows old.store new.store (both (named_by_names old.names) (named_by_leaf leaf)) (named_by_names new.names) → IsLawfulMachine old (both (named_by_leaf leaf) hand) → IsLawfulStack new.store old.stack × (entries new.store old.stack ≡ entries old.store old.stack)
stack_stays old new leaf hand follows l =
    let held : Holds old.store (both (both (named_by_names old.names) (named_by_leaf leaf)) (named_on old.stack)) = λ key. omega (arith, l.desk.held key) in
    stack_kept old.store new.store old.stack (follows_keeps old.store new.store (both (named_by_names old.names) (named_by_leaf leaf)) (named_by_names new.names) (named_on old.stack) (named_on old.stack) follows held (λ key. omega arith)) l.desk.entries

pub gives : (old new : Machine) (name : List ℕ) (leaf : Leaf) → new.stack ≡ old.stack → new.origin ≡ old.origin → ((origin : ℤ) → variables_of new.store origin new.names ≡ set_name (variables_of old.store origin old.names) name (array_of old.store leaf)) → AreLawfulNames new.store new.names → (FillOwners old.store old.names → FillOwners new.store new.names) → Follows old.store new.store (both (named_by_names old.names) (named_by_leaf leaf)) (named_by_names new.names) → GivesLeaf old new name leaf
gives old new name leaf stack origin means names fills follows = record {
  lawful = λ hand l.
      let desk : IsLawfulDesk new.store new.names old.stack hand = record {
        lawful = names;
        filling = fills l.desk.filling;
        entries = (stack_stays old new leaf hand follows l).0;
        held = λ key. omega (arith, l.desk.held key, follows.holders key);
      } in
      record {
        desk = subst (λ (s : List SegmentView). IsLawfulDesk new.store new.names s hand) (sym stack) desk;
        origin = subst (λ (o : ℤ). (o ≡ pos 0) ⊎ (o ≡ pos 1)) (sym origin) l.origin;
      };
  variables = λ hand l. ap (λ (o : ℤ). variables_of new.store o new.names) origin ∙ means old.origin;
  pending = λ hand l. ap (λ (s : List SegmentView). entries new.store s) stack ∙ (stack_stays old new leaf hand follows l).1;
  limit = follows.limit;
}

-- ---- an assignment: the newest entry into hand, put back and held once more, and given

pub taken_in_hand : (m0 m1 : Machine) (leaf : Leaf) → m1.names ≡ m0.names → m1.origin ≡ m0.origin → TakesLeaf m0.store m1.store m0.stack m1.stack leaf → (hand : LeafCounts) → IsLawfulMachine m0 hand → IsLawfulMachine m1 (both (named_by_leaf leaf) hand)
taken_in_hand m0 m1 leaf names origin take hand l =
    let d = desk_follows m0.store m1.store m0.names m0.stack m1.stack none (named_by_leaf leaf) hand (with_none m0.store m0.names m0.stack hand l.desk) take.moves.follows take.moves.lawful in
    record {
      desk = subst (λ (n : Environment Leaf). IsLawfulDesk m1.store n m1.stack (both (named_by_leaf leaf) hand)) (sym names) d.0;
      origin = subst (λ (o : ℤ). (o ≡ pos 0) ⊎ (o ≡ pos 1)) (sym origin) l.origin;
    }

pub taken_variables : (m0 m1 : Machine) (leaf : Leaf) → m1.names ≡ m0.names → m1.origin ≡ m0.origin → TakesLeaf m0.store m1.store m0.stack m1.stack leaf → (hand : LeafCounts) → IsLawfulMachine m0 hand → variables m1 ≡ variables m0
taken_variables m0 m1 leaf names origin take hand l =
    let d = desk_follows m0.store m1.store m0.names m0.stack m1.stack none (named_by_leaf leaf) hand (with_none m0.store m0.names m0.stack hand l.desk) take.moves.follows take.moves.lawful in
    ap (λ (n : Environment Leaf). variables_of m1.store m1.origin n) names ∙ ap (λ (o : ℤ). variables_of m1.store o m0.names) origin ∙ d.1 m0.origin

-- a leaf in hand keeps its array while it is put
in_hand_kept : (m1 m2 : Machine) (leaf : Leaf) (hand : LeafCounts) → IsLawfulMachine m1 (both (named_by_leaf leaf) hand) → PutsHeld m1.store m2.store m1.stack m2.stack leaf → SameData m1.store m2.store (named_by_leaf leaf)
in_hand_kept m1 m2 leaf hand l puts =
    let held : Holds m1.store (both (both (named_on m1.stack) none) (named_by_leaf leaf)) = λ key. omega (arith, l.desk.held key) in
    follows_keeps m1.store m2.store (both (named_on m1.stack) none) (both (named_on m2.stack) none) (named_by_leaf leaf) (named_by_leaf leaf) puts.moves.follows held (λ key. omega arith)

pub put_in_hand : (m1 m2 : Machine) (leaf : Leaf) (hand : LeafCounts) → IsLawfulMachine m1 (both (named_by_leaf leaf) hand) → PutsHeld m1.store m2.store m1.stack m2.stack leaf → IsLawfulLeaf m1.store leaf → IsLawfulLeaf m2.store leaf × (array_of m2.store leaf ≡ array_of m1.store leaf)
put_in_hand m1 m2 leaf hand l puts lawful =
    let same : SameData m1.store m2.store (named_by_leaf leaf) = in_hand_kept m1 m2 leaf hand l puts in
    ((leaf_kept m1.store m2.store leaf same lawful).0, array_kept m1.store m2.store leaf same lawful)

pub assigned : (m0 m1 m2 m3 : Machine) (name : List ℕ) (leaf : Leaf) → m1.names ≡ m0.names → m1.origin ≡ m0.origin → TakesLeaf m0.store m1.store m0.stack m1.stack leaf → m2.names ≡ m1.names → m2.origin ≡ m1.origin → PutsHeld m1.store m2.store m1.stack m2.stack leaf → GivesLeaf m2 m3 name leaf → (hand : LeafCounts) → IsLawfulMachine m0 hand → IsLeastOrNone MayFail m0.stack 0 None → Assigns m0 m3 name
assigned m0 m1 m2 m3 name leaf names1 origin1 take names2 origin2 puts gives some lawful safe =
    let k : Keeps m1 m2 = keeps m1 m2 names2 origin2 puts.moves in
    let in_hand = λ (hand : LeafCounts) (l : IsLawfulMachine m0 hand). taken_in_hand m0 m1 leaf names1 origin1 take hand l in
    let second = λ (hand : LeafCounts) (l : IsLawfulMachine m0 hand). k.lawful (both (named_by_leaf leaf) hand) (in_hand hand l) in
    let all = safe_means m0.store m0.stack lawful.desk.entries safe in
    let first_array : array_of m1.store leaf ≡ take.array = ap (λ (ns : List ℕ). leaf_array m1.store ns leaf) take.stands.shape.same ∙ take.stands.array in
    record {
      arrays = all.0;
      are = all.1;
      older = entries m1.store m1.stack;
      array = take.array;
      newest = take.means;
      lawful = λ hand l. gives.lawful hand (second hand l);
      variables = λ hand l.
          gives.variables hand (second hand l)
          ∙ ap (λ (e : Environment Array). set_name e name (array_of m2.store leaf)) (k.variables (both (named_by_leaf leaf) hand) (in_hand hand l) ∙ taken_variables m0 m1 leaf names1 origin1 take hand l)
          ∙ ap (λ (a : Array). set_name (variables m0) name a) ((put_in_hand m1 m2 leaf hand (in_hand hand l) puts take.stands.lawful).1 ∙ first_array);
      pending = λ hand l.
          gives.pending hand (second hand l)
          ∙ puts.means
          ∙ ap (λ (a : Array). entries m1.store m1.stack ++ Means a ∷ []) first_array
          ∙ sym take.means;
      limit = gives.limit ∙ puts.moves.follows.limit ∙ take.moves.follows.limit;
    }

-- after every entry that may fail was computed
pub settled_assigns : (m0 m1 m3 : Machine) (name : List ℕ) → Keeps m0 m1 → pending m1 ≡ pending m0 → Assigns m1 m3 name → Assigns m0 m3 name
settled_assigns m0 m1 m3 name k same a = record {
  arrays = a.arrays;
  are = sym same ∙ a.are;
  older = a.older;
  array = a.array;
  newest = sym same ∙ a.newest;
  lawful = λ hand l. a.lawful hand (k.lawful hand l);
  variables = λ hand l. a.variables hand (k.lawful hand l) ∙ ap (λ (e : Environment Array). set_name e name a.array) (k.variables hand l);
  pending = λ hand l. a.pending hand (k.lawful hand l) ∙ same;
  limit = a.limit ∙ k.limit;
}

pub on_error_so : (r : Result (Unit {0}) Halt) (P : Type 0) → P → OnError r P
on_error_so (Ok done) P p = tt
on_error_so (Err (halt.Error kind place)) P p = p
on_error_so (Err (halt.WsFull live asked)) P p = tt
on_error_so (Err halt.NoMemory) P p = tt
