-- The value of a name comes as the newest entry.
use Rattle.std.proofs.Common.{◌≡◌, inl, inr, ℕ, List, [], ◌∷◌, map, Option, Some, None, refl, sym, ap, subst, ◌∙◌}
use Rattle.std.specs.Option.{option_map}
use Rattle.std.proofs.lemmas.List.{append-nil}
use Rattle.apl_base.specs.declared.faults.ErrorKind.{ErrorKind}
use Rattle.apl_base.specs.declared.faults.ErrorKind.TheVariants as error
use Rattle.apl_base.specs.declared.faults.Place.{Place}
use Rattle.apl_base.specs.Array.{Array}
use Rattle.drag_along.specs.declared.leaves.Leaf.{Leaf}
use Rattle.drag_along.specs.Meaning.{Means}
use Rattle.apl_model.specs.Environment.{Environment, look_up}
use Rattle.apl_model.proofs.Mapped.{look_up_is_mapped}
use Rattle.apl_model.specs.Evaluation.{State, Calls, of_arrays, needed}
use Rattle.apl_model.specs.Outcome.{fails, Flow}
use Rattle.apl_compile.specs.declared.codes.Op.TheVariants as op
use Rattle.apl_compile.specs.Execution.{exec, goes_on, put}
use Rattle.leaf_names.specs.Variables.{array_of}
use Rattle.standing.specs.Stand.{Stand, going, ended, stand_on}
use Rattle.standing.specs.Laws.{Takes, Ends}
use Rattle.pending_steps.specs.declared.halts.Halt.{Halt}
use Rattle.pending_steps.specs.declared.halts.Halt.TheVariants as halt
use Rattle.pending_steps.specs.Leaves.{PutsHeld}
use Rattle.machine_state.specs.declared.machines.Machine.{Machine}
use Rattle.machine_state.specs.StandsFor.{variables}
use Rattle.machine_state.specs.Steps.{pending, StandsAt, StepsAt, RefusesAt, IsHaltedAt, IsUnset}

-- what a name means to the machine
pub found_value : (m : Machine) (name : List ℕ) (o : Option Leaf) → look_up m.names name ≡ o → look_up (variables m) name ≡ option_map (array_of m.store) o
found_value m name o e = look_up_is_mapped Leaf Array (array_of m.store) m.names name ∙ ap (option_map (array_of m.store)) e

name_taken : (m : Machine) (name : List ℕ) (place : Place) (a : Array) → look_up (variables m) name ≡ Some a → (calls : Calls) (z : Stand) → StandsAt m z → Takes calls (record { place = place; op = op.Name name }) (stand_on z []) (stand_on z (Means a ∷ []))
name_taken m name place a e calls (going vs to s) at rest =
    ap (λ (o : Option Array). goes_on (needed place o s) (put (of_arrays calls) vs to (exec (of_arrays calls) rest))) (ap (λ (x : Environment Array). look_up x name) at ∙ e)
name_taken m name place a e calls (ended o) at rest = refl

pub name_step : (m new : Machine) (name : List ℕ) (place : Place) (leaf : Leaf) → look_up m.names name ≡ Some leaf → PutsHeld m.store new.store m.stack new.stack leaf → StepsAt m (record { place = place; op = op.Name name }) 0 1 (pending m) (pending new)
name_step m new name place leaf found puts = record {
  older = pending m;
  taken = [];
  given = Means (array_of m.store leaf) ∷ [];
  was = sym (append-nil (pending m));
  is = puts.means;
  operands = refl;
  values = refl;
  step = λ calls z at. name_taken m name place (array_of m.store leaf) (found_value m name (Some leaf) found) calls z at;
}

unset_ends : (m : Machine) (name : List ℕ) (place : Place) → look_up (variables m) name ≡ None → (calls : Calls) (vs : List Array) (to : Flow) (s : State) → s.variables ≡ variables m → Ends calls (record { place = place; op = op.Name name }) (going vs to s) (fails error.Value place s)
unset_ends m name place e calls vs to s at rest =
    ap (λ (o : Option Array). goes_on (needed place o s) (put (of_arrays calls) vs to (exec (of_arrays calls) rest))) (ap (λ (x : Environment Array). look_up x name) at ∙ e)

unset_refuses : (m : Machine) (name : List ℕ) (place : Place) → look_up (variables m) name ≡ None → (arrays : List Array) → pending m ≡ map (λ a. Means a) arrays → RefusesAt m (record { place = place; op = op.Name name }) (pending m) error.Value place
unset_refuses m name place e arrays are = record { arrays = arrays; are = are; ends = unset_ends m name place e }

pub name_halts : (m : Machine) (name : List ℕ) (place : Place) (h : Halt) → look_up m.names name ≡ None → IsUnset m place h → IsHaltedAt m (record { place = place; op = op.Name name }) (pending m) h
name_halts m name place (halt.Error kind at) e (inl n) = inl n
name_halts m name place (halt.Error kind at) e (inr u) =
    let there : RefusesAt m (record { place = place; op = op.Name name }) (pending m) error.Value place = unset_refuses m name place (found_value m name None e) u.2.0 u.2.1 in
    inr (subst (λ (k : ErrorKind). RefusesAt m (record { place = place; op = op.Name name }) (pending m) k at) (sym u.0)
    (subst (λ (p : Place). RefusesAt m (record { place = place; op = op.Name name }) (pending m) error.Value p) (sym u.1) there))
name_halts m name place (halt.WsFull live asked) e u = u
name_halts m name place halt.NoMemory e u = tt
