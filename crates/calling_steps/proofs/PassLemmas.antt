-- Leaves that are taken, given and let go.
use Rattle.std.proofs.Common.{◌≡◌, ℕ, ℤ, pos, true, List, [], ◌∷◌, ◌++◌, map, Option, Some, None, refl, sym, ap, ◌∙◌, arith}
use Rattle.std.proofs.lemmas.List.{map-append}
use Rattle.apl_base.specs.Array.{Array}
use Rattle.apl_base.specs.declared.cells.Kind.TheVariants as kind
use Rattle.apl_base.specs.declared.faults.Place.{Place}
use Rattle.array_store.specs.Stores.{StoreView}
use Rattle.array_store.specs.Follows.{LeafCounts, Follows, Holds, both, none}
use Rattle.array_store.proofs.FollowsLemmas.{follows_after}
use Rattle.drag_along.specs.declared.leaves.Leaf.{Leaf}
use Rattle.drag_along.specs.Nodes.{named_by_leaf}
use Rattle.drag_along.specs.Meaning.{Meaning, Means, Faults}
use Rattle.drag_along.proofs.KeptLemmas.{follows_keeps}
use Rattle.value_stack.specs.Stacks.{named_on}
use Rattle.value_stack.proofs.EntriesLemmas.{stack_kept}
use Rattle.apl_model.specs.Environment.{Environment, set_name}
use Rattle.apl_model.specs.Frames.{line_number}
use Rattle.leaf_names.specs.Variables.{array_of}
use Rattle.name_table.specs.Laws.{with_argument}
use Rattle.alias_force.proofs.DeskLemmas.{desk_follows}
use Rattle.pending_steps.specs.declared.halts.Halt.{Halt}
use Rattle.pending_steps.specs.declared.halts.Halt.TheVariants as halt
use Rattle.pending_steps.specs.Leaves.{IsStopped, TakesLeaf}
use Rattle.pending_steps.specs.Literals.{IsLiteralLeaf}
use Rattle.pending_steps.specs.Steps.{IsNotComputed}
use Rattle.machine_state.specs.declared.machines.Machine.{Machine}
use Rattle.machine_state.specs.StandsFor.{IsLawfulMachine, variables}
use Rattle.machine_state.specs.Steps.{pending, GivesLeaf, IsLawfulBeside, Keeps}
use Rattle.machine_state.proofs.KeepsLemmas.{without_none}
use Rattle.machine_state.proofs.GivesLemmas.{taken_in_hand, taken_variables}
use Rattle.calling_steps.specs.Ready.{Changes, GivesTo, Passes, TakesInHand}
use Rattle.calling_steps.proofs.ReadyLemmas.{parted}
use Rattle.leaf_names.proofs.StandsLemmas.{array_is}

-- ---- arrays don't fault

no_fault : (arrays older : List Array) (younger : List Meaning) (place : Place) → ¬ (map (λ a. Means a) arrays ≡ map (λ a. Means a) older ++ Faults place ∷ younger)
no_fault [] [] younger place e = cc
no_fault [] (b ∷ older) younger place e = cc
no_fault (a ∷ arrays) [] younger place e = cc
no_fault (a ∷ arrays) (b ∷ older) younger place e =
    let rest : map (λ a. Means a) arrays ≡ map (λ a. Means a) older ++ Faults place ∷ younger = cc in
    no_fault arrays older younger place rest

-- so only want of room or of memory stops them
pub arrays_stop : (limit : ℕ) (there : List Meaning) (arrays : List Array) (h : Halt) → there ≡ map (λ a. Means a) arrays → IsNotComputed limit there h → IsStopped limit h
arrays_stop limit there arrays (halt.Error kind place) are n = no_fault arrays n.1.arrays n.1.younger place (sym are ∙ n.1.is)
arrays_stop limit there arrays (halt.WsFull live asked) are n = n
arrays_stop limit there arrays halt.NoMemory are n = tt

-- ---- into hand

pub taken : (m0 m1 m2 : Machine) (leaf : Leaf) (arrays : List Array) → pending m0 ≡ map (λ a. Means a) arrays → Keeps m0 m1 → pending m1 ≡ pending m0 → m2.names ≡ m1.names → m2.origin ≡ m1.origin → TakesLeaf m1.store m2.store m1.stack m2.stack leaf → TakesInHand m0 m2 leaf
taken m0 m1 m2 leaf arrays are k same names origin take =
    let parts = parted (Means take.array) (pending m2) arrays (sym take.means ∙ same ∙ are) in
    record {
      older = parts.0;
      array = take.array;
      were =
          sym same ∙ take.means
          ∙ ap (λ (ms : List Meaning). ms ++ Means take.array ∷ []) parts.1.2
          ∙ sym (map-append (λ (a : Array). Means a) parts.0 (take.array ∷ []));
      are = parts.1.2;
      stands = take.stands;
      lawful = λ hand l. taken_in_hand m1 m2 leaf names origin take hand (k.lawful hand l);
      variables = λ hand l. taken_variables m1 m2 leaf names origin take hand (k.lawful hand l) ∙ k.variables hand l;
      limit = take.moves.follows.limit ∙ k.limit;
    }

-- ---- out of hand

pub gives_to : (old new : Machine) (name : List ℕ) (leaf : Leaf) → GivesLeaf old new name leaf → GivesTo old new (Some name) leaf
gives_to old new name leaf g = record { lawful = g.lawful; variables = g.variables; pending = g.pending; limit = g.limit }

pub let_go : (old : Machine) (store : StoreView) (leaf : Leaf) → Follows old.store store (named_by_leaf leaf) none → (some : LeafCounts) → IsLawfulMachine old (both (named_by_leaf leaf) some) → GivesTo old (record old { store = store }) None leaf
let_go old store leaf follows some lawful =
    let kept = λ (hand : LeafCounts) (l : IsLawfulMachine old (both (named_by_leaf leaf) hand)).
    (let held : Holds old.store (both (named_by_leaf leaf) (named_on old.stack)) = λ key. omega (arith, l.desk.held key) in
    stack_kept old.store store old.stack (follows_keeps old.store store (named_by_leaf leaf) none (named_on old.stack) (named_on old.stack) follows held (λ key. omega arith)) l.desk.entries) in
    let desk = λ (hand : LeafCounts) (l : IsLawfulMachine old (both (named_by_leaf leaf) hand)).
    desk_follows old.store store old.names old.stack old.stack (named_by_leaf leaf) none hand l.desk (follows_after old.store store (named_by_leaf leaf) none (named_on old.stack) follows) (kept hand l).0 in
    record {
      lawful = λ hand l. record { desk = without_none store old.names old.stack hand (desk hand l).0; origin = l.origin };
      variables = λ hand l. (desk hand l).1 old.origin;
      pending = λ hand l. (kept hand l).1;
      limit = follows.limit;
    }

-- ---- an argument

pub passes_one : (m0 m1 m2 : Machine) (name : Option (List ℕ)) (leaf : Leaf) → TakesInHand m0 m1 leaf → GivesTo m1 m2 name leaf → IsLawfulBeside m0 → Passes m0 m2 true name
passes_one m0 m1 m2 name leaf t g some = record {
  older = t.older;
  value = Some t.array;
  given = refl;
  were = t.were;
  are = g.pending some.0 (t.lawful some.0 some.1) ∙ t.are;
  lawful = λ hand l. g.lawful hand (t.lawful hand l);
  variables = λ hand l.
      g.variables hand (t.lawful hand l)
      ∙ ap (λ (a : Array). with_argument name (Some a) (variables m1)) (array_is m1.store leaf t.array t.stands)
      ∙ ap (λ (e : Environment Array). with_argument name (Some t.array) e) (t.variables hand l);
  limit = g.limit ∙ t.limit;
}

-- ---- a label

number_in_hand : (m : Machine) (leaf : Leaf) (hand : LeafCounts) → ((key : ℕ) → named_by_leaf leaf key ≡ 0) → IsLawfulMachine m hand → IsLawfulMachine m (both (named_by_leaf leaf) hand)
number_in_hand m leaf hand names l = record {
  desk = record { lawful = l.desk.lawful; filling = l.desk.filling; entries = l.desk.entries; held = λ key. omega (arith, l.desk.held key, names key) };
  origin = l.origin;
}

pub label_set : (old new : Machine) (name : List ℕ) (leaf : Leaf) (number : ℕ) → IsLiteralLeaf kind.Num (pos number) leaf → GivesLeaf old new name leaf → Changes old new (with_argument (Some name) (Some (line_number number)))
label_set old new name leaf number is g =
    let array : array_of old.store leaf ≡ line_number number = array_is old.store leaf (line_number number) (is.stands old.store) in
    record {
      lawful = λ hand l. g.lawful hand (number_in_hand old leaf hand is.names l);
      variables = λ hand l. g.variables hand (number_in_hand old leaf hand is.names l) ∙ ap (λ (a : Array). set_name (variables old) name a) array;
      pending = λ hand l. g.pending hand (number_in_hand old leaf hand is.names l);
      limit = g.limit;
    }

pub label_lawful : (m : Machine) (leaf : Leaf) (number : ℤ) → IsLiteralLeaf kind.Num number leaf → IsLawfulBeside m → (hand : LeafCounts) × IsLawfulMachine m (both (named_by_leaf leaf) hand)
label_lawful m leaf number is some = (some.0, number_in_hand m leaf some.0 is.names some.1)
