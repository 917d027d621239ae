-- Names made unset one after the other.
use Rattle.std.proofs.Common.{◌≡◌, ◌⊎◌, ℕ, ℤ, pos, ◌+◌, List, [], ◌∷◌, ◌++◌, take, length, ◌<◌, get_or, refl, ap, sym, subst, arith, ◌∙◌}
use Rattle.std.proofs.lemmas.List.{take_more}
use Rattle.std.proofs.lemmas.Grind.{fold-append}
use Rattle.array_store.specs.Stores.{StoreView}
use Rattle.array_store.specs.Follows.{none}
use Rattle.drag_along.specs.declared.leaves.Leaf.{Leaf}
use Rattle.apl_model.specs.Environment.{Environment, erased, unset_global}
use Rattle.apl_model.specs.declared.scripts.Command.TheVariants.{Erase}
use Rattle.alias_force.specs.Desk.{IsLawfulDesk}
use Rattle.leaf_names.specs.Variables.{variables_of}
use Rattle.name_table.specs.Names.{LetsGo}
use Rattle.machine_state.specs.declared.machines.Machine.{Machine}
use Rattle.machine_state.specs.StandsFor.{IsAtRest, variables}
use Rattle.command_steps.specs.Obeyed.{Obeys}

-- names made unset, and then one more
erased_more : {A : Type 0} (e : Environment A) (names : List (List ℕ)) (name : List ℕ) → erased (names ++ name ∷ []) e ≡ erased (name ∷ []) (erased names e)
erased_more e names name = ap (λ globals. record e { globals = globals }) (fold-append unset_global e.globals names (name ∷ []))

-- what a machine at rest holds is lawful after a name was let go
desk_kept : (old new : StoreView) (before after : Environment Leaf) → IsLawfulDesk old before [] none → LetsGo old new before after → IsLawfulDesk new after [] none
desk_kept old new before after d go = record {
  lawful = go.lawful;
  filling = go.fills d.filling;
  entries = tt;
  held = λ key. omega (arith, d.held key, go.follows.holders key);
}

-- nothing is unset yet
pub erased_none : (m : Machine) → IsAtRest m → Obeys [] (Erase []) m m
erased_none m rest = record { rest = rest; variables = refl; turns = refl; begun = refl; traced = refl; costs = refl; counts = refl; limit = refl }

-- one more
pub erased_one : (old now new : Machine) (names : List (List ℕ)) (at : ℕ) (name : List ℕ) → at < length names → name ≡ get_or names at name
    → Obeys [] (Erase (take at names)) old now → new ≡ record now { store = new.store; names = new.names }
    → new.names ≡ erased (name ∷ []) now.names
    → ((origin : ℤ) → variables_of new.store origin new.names ≡ erased (name ∷ []) (variables_of now.store origin now.names))
    → LetsGo now.store new.store now.names new.names → Obeys [] (Erase (take (at + 1) names)) old new
erased_one old now new names at name inside is o same unset means go =
    let more : take (at + 1) names ≡ take at names ++ name ∷ [] = take_more names at name inside ∙ ap (λ x. take at names ++ x ∷ []) (sym is) in
    let stack : new.stack ≡ [] = ap (λ (m : Machine). m.stack) same ∙ o.rest.stack in
    let origin : new.origin ≡ now.origin = ap (λ (m : Machine). m.origin) same in
    let turns : new.turns_left ≡ now.turns_left = ap (λ (m : Machine). m.turns_left) same in
    let begun : new.begun ≡ now.begun = ap (λ (m : Machine). m.begun) same in
    let desk : IsLawfulDesk now.store now.names [] none = subst (λ stack. IsLawfulDesk now.store now.names stack none) o.rest.stack o.rest.lawful.desk in
    record {
      rest = record {
        lawful = record {
          desk = subst (λ stack. IsLawfulDesk new.store new.names stack none) (sym stack) (desk_kept now.store new.store now.names new.names desk go);
          origin = subst (λ (z : ℤ). (z ≡ pos 0) ⊎ (z ≡ pos 1)) (sym origin) o.rest.lawful.origin;
        };
        stack = stack;
        frames = ap (λ (e : Environment Leaf). e.frames) unset ∙ o.rest.frames;
        turns = rw (turns, begun) o.rest.turns;
      };
      variables = means new.origin ∙ ap (λ z. erased (name ∷ []) (variables_of now.store z now.names)) origin ∙ ap (erased (name ∷ [])) o.variables
          ∙ sym (erased_more (variables old) (take at names) name) ∙ ap (λ ns. erased ns (variables old)) (sym more);
      turns = turns ∙ o.turns;
      begun = begun ∙ o.begun;
      traced = ap (λ (m : Machine). m.traced) same ∙ o.traced;
      costs = ap (λ (m : Machine). m.costs) same ∙ o.costs;
      counts = go.counts ∙ o.counts;
      limit = go.follows.limit ∙ o.limit;
    }

-- what the call needs
pub erase_names : (m : Machine) → IsAtRest m → IsLawfulDesk m.store m.names [] none
erase_names m rest = subst (λ stack. IsLawfulDesk m.store m.names stack none) rest.stack rest.lawful.desk
