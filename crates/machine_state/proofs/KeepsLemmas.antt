-- Steps on entries keep a machine lawful.
use Rattle.std.proofs.Common.{◌≡◌, ◌⊎◌, ℤ, pos, List, Ok, Err, sym, ap, subst, ◌∙◌, arith}
use Rattle.std.specs.Prelude.{Result}
use Rattle.array_store.specs.Stores.{StoreView}
use Rattle.array_store.specs.Follows.{LeafCounts, both, none}
use Rattle.drag_along.specs.declared.leaves.Leaf.{Leaf}
use Rattle.drag_along.specs.Segments.{SegmentView}
use Rattle.apl_model.specs.Environment.{Environment}
use Rattle.leaf_names.specs.Variables.{variables_of}
use Rattle.alias_force.specs.Desk.{IsLawfulDesk}
use Rattle.alias_force.proofs.DeskLemmas.{desk_follows}
use Rattle.pending_steps.specs.declared.halts.Halt.{Halt}
use Rattle.pending_steps.specs.declared.halts.Halt.TheVariants as halt
use Rattle.pending_steps.specs.Steps.{Moves, Reaches}
use Rattle.machine_state.specs.declared.machines.Machine.{Machine}
use Rattle.machine_state.specs.Steps.{Keeps}

-- leaves in hand, counted with none
pub with_none : (store : StoreView) (names : Environment Leaf) (stack : List SegmentView) (hand : LeafCounts) → IsLawfulDesk store names stack hand → IsLawfulDesk store names stack (both none hand)
with_none store names stack hand d = record { lawful = d.lawful; filling = d.filling; entries = d.entries; held = λ key. omega (arith, d.held key) }

pub without_none : (store : StoreView) (names : Environment Leaf) (stack : List SegmentView) (hand : LeafCounts) → IsLawfulDesk store names stack (both none hand) → IsLawfulDesk store names stack hand
without_none store names stack hand d = record { lawful = d.lawful; filling = d.filling; entries = d.entries; held = λ key. omega (arith, d.held key) }

pub keeps : (old new : Machine) → new.names ≡ old.names → new.origin ≡ old.origin → Moves old.store new.store old.stack new.stack none none → Keeps old new
keeps old new names origin moves = record {
  lawful = λ hand l.
      let desk = desk_follows old.store new.store old.names old.stack new.stack none none hand (with_none old.store old.names old.stack hand l.desk) moves.follows moves.lawful in
      record {
        desk = subst (λ (n : Environment Leaf). IsLawfulDesk new.store n new.stack hand) (sym names) (without_none new.store old.names new.stack hand desk.0);
        origin = subst (λ (o : ℤ). (o ≡ pos 0) ⊎ (o ≡ pos 1)) (sym origin) l.origin;
      };
  variables = λ hand l.
      let desk = desk_follows old.store new.store old.names old.stack new.stack none none hand (with_none old.store old.names old.stack hand l.desk) moves.follows moves.lawful in
      ap (λ (n : Environment Leaf). variables_of new.store new.origin n) names
      ∙ ap (λ (o : ℤ). variables_of new.store o old.names) origin
      ∙ desk.1 old.origin;
  limit = moves.follows.limit;
}

-- what follows where a step goes on, or is at an error
pub reaches_so : (r : Result (Unit {0}) Halt) (P Q : Type 0) → (P → Q) → Reaches r P → Reaches r Q
reaches_so (Ok done) P Q f p = f p
reaches_so (Err (halt.Error kind place)) P Q f p = f p
reaches_so (Err (halt.WsFull live asked)) P Q f p = tt
reaches_so (Err halt.NoMemory) P Q f p = tt

-- steps one after the other
pub keeps_then : (a b c : Machine) → Keeps a b → Keeps b c → Keeps a c
keeps_then a b c first second = record {
  lawful = λ hand l. second.lawful hand (first.lawful hand l);
  variables = λ hand l. second.variables hand (first.lawful hand l) ∙ first.variables hand l;
  limit = second.limit ∙ first.limit;
}
