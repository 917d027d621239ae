-- An indexed assignment in evaluation.
use Rattle.std.proofs.Common.{◌≡◌, ℕ, ◌+◌, Bool, List, [], ◌∷◌, ◌++◌, length, map, Option, Ok, Err, refl, sym, ap, ◌∙◌, arith, append_assoc}
use Rattle.std.proofs.lemmas.List.{map-append, reverse-append, reverse-reverse}
use Rattle.std.specs.Prelude.{reverse}
use Rattle.apl_base.specs.declared.faults.ErrorKind.{ErrorKind}
use Rattle.apl_base.specs.declared.faults.Place.{Place}
use Rattle.apl_base.specs.Array.{Array}
use Rattle.drag_along.specs.Meaning.{Meaning, Means}
use Rattle.apl_model.specs.Environment.{look_up}
use Rattle.apl_model.specs.Evaluation.{State, Calls, of_arrays, at_place, origin_of, replace_in, replace_name, with_name}
use Rattle.apl_model.specs.Outcome.{done, fails, and_then, Flow}
use Rattle.apl_model.specs.Whole.{Answer}
use Rattle.apl_compile.specs.declared.codes.Instruction.{Instruction}
use Rattle.apl_compile.specs.declared.codes.Op.TheVariants as op
use Rattle.apl_compile.specs.Execution.{Taken, exec, goes_on, put, replaced}
use Rattle.standing.specs.Stand.{going, stand_on, runs_from}
use Rattle.standing.specs.Laws.{Takes, Ends}
use Rattle.standing.proofs.StandLemmas.{arrays_are_pending}
use Rattle.indexing_steps.specs.Operands.{positions_in, spread}
use Rattle.indexing_steps.proofs.MaskLemmas.{taken_spread}

abbrev pub instruction : List ℕ → List Bool → Place → Instruction
instruction name mask place = record { place = place; op = op.Iasg name mask }

abbrev mean : Array → Meaning
mean a = Means a

-- arrays, a value and positions are pending
abbrev pub replacing_entries : List Array → Array → List Array → List Meaning
replacing_entries own b there = map mean own ++ mean b ∷ map mean (reverse there)

operands_on : (own there : List Array) (b : Array) (to : Flow) (s : State) → stand_on (going [] to s) (replacing_entries own b there) ≡ going (there ++ b ∷ reverse own) to s
operands_on own there b to s =
    let turned : reverse (b ∷ reverse there) ≡ there ++ b ∷ [] =
    reverse-append (b ∷ []) (reverse there) ∙ ap (λ (l : List Array). l ++ b ∷ []) (reverse-reverse there) in
    ap (stand_on (going [] to s)) (sym (map-append mean own (b ∷ reverse there)))
    ∙ arrays_are_pending (own ++ b ∷ reverse there) to s
    ∙ ap (λ (l : List Array). going l to s)
    (reverse-append own (b ∷ reverse there)
    ∙ ap (λ (l : List Array). l ++ reverse own) turned
    ∙ append_assoc there (b ∷ []) (reverse own))

-- afterwards the value stands on the others
value_on : (own : List Array) (b : Array) (to : Flow) (s : State) → stand_on (going [] to s) (map mean own ++ mean b ∷ []) ≡ going (b ∷ reverse own) to s
value_on own b to s =
    ap (stand_on (going [] to s)) (sym (map-append mean own (b ∷ [])))
    ∙ arrays_are_pending (own ++ b ∷ []) to s
    ∙ ap (λ (l : List Array). going l to s) (reverse-append own (b ∷ []))

module _ (name : List ℕ) (mask : List Bool) (place : Place) (own there : List Array) (b : Array) (number : length there ≡ positions_in mask) where
  replaced_there : (calls : Calls) (to : Flow) (s : State) (rest : List Instruction)
      → runs_from (of_arrays calls) (instruction name mask place ∷ rest) (stand_on (going [] to s) (replacing_entries own b there))
      ≡ goes_on (replace_name name (spread mask there) b place s) (put (of_arrays calls) (reverse own) to (exec (of_arrays calls) rest))
  replaced_there calls to s rest =
      ap (runs_from (of_arrays calls) (instruction name mask place ∷ rest)) (operands_on own there b to s)
      ∙ ap (λ (t : Option (Taken Array)). replaced (of_arrays calls) name place t to s (exec (of_arrays calls) rest)) (taken_spread mask there (b ∷ reverse own) number)

  -- the name is set, and the value stays
  pub replace_takes : (calls : Calls) (to : Flow) (s : State) (array : Array) → replace_in (origin_of s) (look_up s.variables name) (spread mask there) b ≡ Ok array → (rest : List Instruction)
      → runs_from (of_arrays calls) (instruction name mask place ∷ rest) (stand_on (going [] to s) (replacing_entries own b there)) ≡ runs_from (of_arrays calls) rest (stand_on (going [] to (with_name name array s)) (map mean own ++ mean b ∷ []))
  replace_takes calls to s array e rest =
      replaced_there calls to s rest
      ∙ ap (λ (answer : Answer). goes_on (and_then (at_place place answer s) (λ a t. done b (with_name name a t))) (put (of_arrays calls) (reverse own) to (exec (of_arrays calls) rest))) e
      ∙ ap (runs_from (of_arrays calls) rest) (sym (value_on own b to (with_name name array s)))

  -- or it is this error
  pub replace_ends : (calls : Calls) (to : Flow) (s : State) (kind : ErrorKind) → replace_in (origin_of s) (look_up s.variables name) (spread mask there) b ≡ Err kind
      → Ends calls (instruction name mask place) (stand_on (going [] to s) (replacing_entries own b there)) (fails kind place s)
  replace_ends calls to s kind e rest =
      replaced_there calls to s rest
      ∙ ap (λ (answer : Answer). goes_on (and_then (at_place place answer s) (λ a t. done b (with_name name a t))) (put (of_arrays calls) (reverse own) to (exec (of_arrays calls) rest))) e
