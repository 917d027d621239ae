-- Instructions that find all entries computed: where the newest one is an array, and what assignments do.
use Rattle.std.proofs.Common.{◌≡◌, ℕ, suc, ◌≤◌, List, [], ◌∷◌, ◌++◌, map, length, Ok, refl, sym, ap, ◌∙◌}
use Rattle.std.proofs.lemmas.List.{length-map}
use Rattle.std.specs.Prelude.{reverse, Some, Bool, true, false, if◌then◌else◌}
use Rattle.std.proofs.lemmas.List.{reverse-append}
use Rattle.apl_base.specs.declared.faults.Place.{Place}
use Rattle.apl_base.specs.Array.{Array}
use Rattle.array_store.specs.Follows.{none}
use Rattle.drag_along.specs.Meaning.{Meaning, Means}
use Rattle.leaf_names.specs.Variables.{array_of}
use Rattle.apl_model.specs.Environment.{Environment, Bindings, declares, declared_in, set_name, set_in_frames, bound_to, mapped_bindings}
use Rattle.apl_model.specs.Evaluation.{State, of_arrays, with_name}
use Rattle.apl_model.specs.Outcome.{Flow as EvaluationFlow}
use Rattle.apl_compile.specs.declared.codes.Instruction.{Instruction}
use Rattle.apl_compile.specs.declared.codes.Op.TheVariants as op
use Rattle.apl_compile.specs.Program.{ProgramView}
use Rattle.standing.specs.Stand.{Stand, going, stand_on, runs_from}
use Rattle.standing.proofs.StandLemmas.{arrays_are_pending}
use Rattle.machine_state.specs.declared.machines.Machine.{Machine}
use Rattle.machine_state.specs.StandsFor.{IsLawfulMachine, variables}
use Rattle.machine_state.specs.Steps.{pending, Assigns, IsSameCount}
use Rattle.calling_steps.specs.declared.flows.Flow.{Flow}
use Rattle.d_machine.specs.Answers.{Scene}
use Rattle.d_machine.specs.Running.{AnswersInstruction}
use Rattle.calling_steps.specs.Branches.{flow_of}
use Rattle.entry_steps.proofs.EntryLemmas.{split, arrays_apart}
use Rattle.entry_steps.proofs.CountLemmas.{counts_assign}
use Rattle.d_machine.proofs.RunLemmas.{with_machine, at_variables}

-- ---- the newest entry

-- the entries of a statement are arrays, the newest of them this one
pub record HasNewest (array : Array) (mine : List Meaning) : Type 0 where
  pub first : List Array
  pub mine_is : mine ≡ map Means (first ++ array ∷ [])

-- arrays of which the last means this array
pub record EndsIn (array : Array) (own : List Array) : Type 0 where
  pub first : List Array
  pub own_is : own ≡ first ++ array ∷ []

ends_in : (own : List Array) (front : List Meaning) (array : Array) → map Means own ≡ front ++ Means array ∷ [] → EndsIn array own
ends_in [] [] array e = absurd cc
ends_in [] (m ∷ front) array e = absurd cc
ends_in (a ∷ []) [] array e =
    let same : a ≡ array = cc in
    record { first = []; own_is = ap (λ (x : Array). x ∷ []) same }
ends_in (a ∷ b ∷ own) [] array e =
    let no : Means b ∷ map Means own ≡ [] = cc in
    absurd cc
ends_in (a ∷ own) (m ∷ front) array e =
    let rest : map Means own ≡ front ++ Means array ∷ [] = cc in
    let r = ends_in own front array rest in
    record { first = a ∷ r.first; own_is = ap (λ (xs : List Array). a ∷ xs) r.own_is }

pub has_newest : (entries : List Meaning) (arrays below : List Array) (older mine : List Meaning) (array : Array) → entries ≡ map Means arrays → entries ≡ older ++ Means array ∷ [] → entries ≡ map Means below ++ mine → 1 ≤ length mine → HasNewest array mine
has_newest entries arrays below older mine array are newest all some =
    let apart = arrays_apart arrays below mine (sym are ∙ all) in
    let s = split older (Means array ∷ []) (map Means below) mine (sym newest ∙ all) some in
    let r = ends_in apart.own s.front array (sym apart.mine_is ∙ s.mine_is) in
    record { first = r.first; mine_is = apart.mine_is ∙ ap (map Means) r.own_is }

-- it is the newest value
pub newest_going : (mine : List Meaning) (array : Array) (h : HasNewest array mine) (to : EvaluationFlow) (s : State) → stand_on (going [] to s) mine ≡ going (array ∷ reverse h.first) to s
newest_going mine array h to s =
    ap (λ (ms : List Meaning). stand_on (going [] to s) ms) h.mine_is
    ∙ arrays_are_pending (h.first ++ array ∷ []) to s
    ∙ ap (λ (vs : List Array). going vs to s) (reverse-append h.first (array ∷ []))

-- ---- assignments

pub assign_performs : (p : ProgramView) (base : ℕ) (place : Place) (name : List ℕ) (old : Scene) (m : Machine) (to : Flow) → IsLawfulMachine old.machine none → IsSameCount old.machine m → Assigns old.machine m name → AnswersInstruction p base (record { place = place; op = op.Asg name }) old (with_machine old m) to (Ok to)
assign_performs p base place name old m to lawful same a below mine next low b =
    let counted = counts_assign name b.found next mine b.many b.leaves in
    let newest = has_newest (pending old.machine) a.arrays below a.older mine a.array a.are a.newest b.all counted.0 in
    let i : Instruction = record { place = place; op = op.Asg name } in
    record {
      left = mine;
      all = a.pending none lawful ∙ b.all;
      many = counted.1 mine refl;
      goes = λ calls start s here is. (
        with_name name a.array s,
        at_variables start old m s (set_name s.variables name a.array) same
            (a.variables none lawful ∙ ap (λ (e : Environment Array). set_name e name a.array) is.variables) is,
        λ rest.
            ap (λ (z : Stand). runs_from (of_arrays calls) (i ∷ rest) z) (newest_going mine a.array newest (flow_of to) s)
            ∙ sym (ap (λ (z : Stand). runs_from (of_arrays calls) rest z) (newest_going mine a.array newest (flow_of to) (with_name name a.array s))),
      );
    }

-- ---- as many frames as before

frames_set : {A : Type 0} → (frames : List (Bindings A)) (name : List ℕ) (a : A) → length (set_in_frames frames name a) ≡ length frames
frames_set [] name a = refl
frames_set (f ∷ fs) name a = by (declares f name) (frames_set fs name a)
  where
    by : (t : Bool) → length (set_in_frames fs name a) ≡ length fs → length (if t then bound_to f name (Some a) ∷ fs else f ∷ set_in_frames fs name a) ≡ suc (length fs)
    by true e = refl
    by false e = ap suc e

pub set_depth : {A : Type 0} → (e : Environment A) (name : List ℕ) (a : A) → length (set_name e name a).frames ≡ length e.frames
set_depth e name a = by (declared_in e.frames name)
  where
    by : (t : Bool) → length ((if t then record e { frames = set_in_frames e.frames name a } else record e { globals = bound_to e.globals name (Some a) }).frames) ≡ length e.frames
    by true = frames_set e.frames name a
    by false = refl

-- the frames of variables are those of the names
pub same_depth : (m : Machine) → length (variables m).frames ≡ length m.names.frames
same_depth m = length-map m.names.frames (mapped_bindings (array_of m.store))

pub assign_depth : (old new : Machine) (name : List ℕ) → IsLawfulMachine old none → Assigns old new name → length new.names.frames ≡ length old.names.frames
assign_depth old new name lawful a =
    sym (same_depth new)
    ∙ ap (λ (e : Environment Array). length e.frames) (a.variables none lawful)
    ∙ set_depth (variables old) name a.array
    ∙ same_depth old
