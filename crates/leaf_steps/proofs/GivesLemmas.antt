-- What instructions give for arrays, and how the stand of evaluation follows.
use Rattle.std.proofs.Common.{◌≡◌, ℕ, ℤ, List, [], ◌∷◌, ◌++◌, map, length, Ok, Err, refl, sym, ap, subst, ◌∙◌}
use Rattle.std.proofs.lemmas.List.{length-map}
use Rattle.apl_base.specs.declared.faults.ErrorKind.{ErrorKind}
use Rattle.apl_base.specs.declared.faults.Place.{Place}
use Rattle.apl_base.specs.declared.rows.Dya.{Dya}
use Rattle.apl_base.specs.Array.{Array}
use Rattle.drag_along.specs.Meaning.{Meaning, Means}
use Rattle.apl_model.specs.declared.functions.Axis.{Axis}
use Rattle.apl_model.specs.declared.functions.DyaFn.{DyaFn}
use Rattle.apl_model.specs.declared.functions.MonFn.{MonFn}
use Rattle.apl_model.specs.Evaluation.{State, Calls, of_arrays, at_place, monadic_value, dyadic_value}
use Rattle.apl_model.specs.Outcome.{Flow}
use Rattle.apl_model.specs.Product as product
use Rattle.apl_model.specs.Whole.{Answer}
use Rattle.apl_compile.specs.declared.codes.Instruction.{Instruction}
use Rattle.apl_compile.specs.declared.codes.Op.TheVariants as op
use Rattle.apl_compile.specs.Execution.{exec, goes_on, put}
use Rattle.standing.specs.Stand.{Stand, going, ended, push_on, stand_on, runs_from}
use Rattle.standing.specs.Laws.{Takes}
use Rattle.standing.proofs.StandLemmas.{end_stays}
use Rattle.leaf_steps.specs.Origins.{HasOrigin, StepsFrom, RefusesFrom}
use Rattle.leaf_steps.specs.Gives.{stand_with, Gives}

-- ---- what instructions give

-- evaluation goes on with an answer
answered : (calls : Calls) (place : Place) (answer : Answer) (vs : List Array) (to : Flow) (s : State) (rest : List Instruction) → goes_on (at_place place answer s) (put (of_arrays calls) vs to (exec (of_arrays calls) rest)) ≡ runs_from (of_arrays calls) rest (stand_with place answer vs to s)
answered calls place (Ok a) vs to s rest = refl
answered calls place (Err kind) vs to s rest = refl

pub gives_one : (origin : ℤ) (f : MonFn) (place : Place) (b : Array) → Gives origin (record { place = place; op = op.Mon f }) (b ∷ []) (monadic_value origin f b)
gives_one origin f place b calls vs to s same rest =
    ap (λ (o : ℤ). goes_on (at_place place (monadic_value o f b) s) (put (of_arrays calls) vs to (exec (of_arrays calls) rest))) same
    ∙ answered calls place (monadic_value origin f b) vs to s rest

pub gives_two : (origin : ℤ) (f : DyaFn) (place : Place) (a b : Array) → Gives origin (record { place = place; op = op.Dya f }) (b ∷ a ∷ []) (dyadic_value origin f a b)
gives_two origin f place a b calls vs to s same rest =
    ap (λ (o : ℤ). goes_on (at_place place (dyadic_value o f a b) s) (put (of_arrays calls) vs to (exec (of_arrays calls) rest))) same
    ∙ answered calls place (dyadic_value origin f a b) vs to s rest

pub gives_reduction : (origin : ℤ) (f : Dya) (axis : Axis) (place : Place) (b : Array) → Gives origin (record { place = place; op = op.Red f axis }) (b ∷ []) (product.reduce origin f axis b)
gives_reduction origin f axis place b calls vs to s same rest =
    ap (λ (o : ℤ). goes_on (at_place place (product.reduce o f axis b) s) (put (of_arrays calls) vs to (exec (of_arrays calls) rest))) same
    ∙ answered calls place (product.reduce origin f axis b) vs to s rest

pub gives_inner : (origin : ℤ) (f g : Dya) (place : Place) (a b : Array) → Gives origin (record { place = place; op = op.Inner f g }) (b ∷ a ∷ []) (product.inner f g a b)
gives_inner origin f g place a b calls vs to s same rest = answered calls place (product.inner f g a b) vs to s rest

pub gives_outer : (origin : ℤ) (f : Dya) (place : Place) (a b : Array) → Gives origin (record { place = place; op = op.Outer f }) (b ∷ a ∷ []) (product.outer f a b)
gives_outer origin f place a b calls vs to s same rest = answered calls place (product.outer f a b) vs to s rest

-- ---- the stand follows

-- an entry that stands for the answer
abbrev pub IsAnswerOf : Place → Answer → Meaning → Type 0
IsAnswerOf place answer m = (vs : List Array) (to : Flow) (s : State) → push_on m (going vs to s) ≡ stand_with place answer vs to s

steps_so : (origin : ℤ) (i : Instruction) (operands : List Array) (answer : Answer) (m : Meaning) → Gives origin i operands answer → IsAnswerOf i.place answer m → (calls : Calls) (z : Stand) → HasOrigin origin z → Takes calls i (stand_on z (map (λ a. Means a) operands)) (stand_on z (m ∷ []))
steps_so origin i operands answer m gives same calls (going vs to s) has rest =
    gives calls vs to s has rest ∙ sym (ap (λ (z : Stand). runs_from (of_arrays calls) rest z) (same vs to s))
steps_so origin i operands answer m gives same calls (ended o) has rest =
    ap (λ (z : Stand). runs_from (of_arrays calls) (i ∷ rest) z) (end_stays o (map (λ a. Means a) operands))
    ∙ sym (ap (λ (z : Stand). runs_from (of_arrays calls) rest z) (end_stays o (m ∷ [])))

pub steps_from : (origin : ℤ) (i : Instruction) (takes : ℕ) (operands : List Array) (answer : Answer) (m : Meaning) (older before after : List Meaning) → length operands ≡ takes → before ≡ older ++ map (λ a. Means a) operands → after ≡ older ++ m ∷ [] → Gives origin i operands answer → IsAnswerOf i.place answer m → StepsFrom origin i takes 1 before after
steps_from origin i takes operands answer m older before after number was is gives same = record {
  older = older;
  taken = map (λ a. Means a) operands;
  given = m ∷ [];
  was = was;
  is = is;
  operands = length-map operands (λ (a : Array). Means a) ∙ number;
  values = refl;
  step = λ calls z has. steps_so origin i operands answer m gives same calls z has;
}

pub refuses_from : (origin : ℤ) (i : Instruction) (takes : ℕ) (operands : List Array) (answer : Answer) (kind : ErrorKind) (older : List Array) (pending : List Meaning) → length operands ≡ takes → pending ≡ map (λ a. Means a) older ++ map (λ a. Means a) operands → Gives origin i operands answer → answer ≡ Err kind → RefusesFrom origin i takes pending kind i.place
refuses_from origin i takes operands answer kind older pending number are gives is =
    let gives_error : Gives origin i operands (Err kind) = subst (λ (r : Answer). Gives origin i operands r) is gives in
    record {
      older = older;
      operands = operands;
      are = are;
      number = number;
      ends = λ calls vs to s same rest. gives_error calls vs to s same rest;
    }
