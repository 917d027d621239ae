-- What is done with arrays, and what a statement is judged to be, is the same with more turns left.
use Rattle.std.proofs.Common.{◌≡◌, ℕ, ◌+◌, Bool, true, false, List, ◌∷◌, Option, Some, None, Ok, Err, refl, ap, ◌∙◌}
use Rattle.std.specs.Option.{option_map, option_and_then}
use Rattle.apl_base.specs.declared.faults.Place.{Place}
use Rattle.apl_base.specs.Array.{Array}
use Rattle.apl_model.specs.Agreement.{mapped_outcome, mapped_flow, ValuesAgree}
use Rattle.apl_model.specs.Environment.{look_up}
use Rattle.apl_model.specs.Evaluation.{State, at_place, origin_of, replace_in, branch_by, print_result, of_arrays, monadic_value, dyadic_value}
use Rattle.apl_model.specs.Evaluation as evaluation
use Rattle.apl_model.specs.Order.{value_in}
use Rattle.apl_model.specs.Outcome.{Outcome, done, fails, spent, and_then}
use Rattle.apl_model.specs.Product as product
use Rattle.apl_model.specs.Subscript as places
use Rattle.apl_model.specs.Tree as tree
use Rattle.apl_model.specs.Tree.{Tree, Slot, Positions, Statement, constant, variable, call, parenthesis, monadic, dyadic, reduction, outer_product, inner_product, assignment, indexed_assignment, output, elided, given, no_position, position, nothing, branch, expression}
use Rattle.apl_model.specs.Whole.{Answer, is_empty, is_text}
use Rattle.apl_model.proofs.Agreement.{expressions_agree, option-same, options-same}
use Rattle.apl_model_laws.specs.Longer.{with_more}
use Rattle.apl_cost.specs.Plain.{Plain, Arguments, selected, argument_and, subscript_lengths, value_if_done, value_here, slot_here, positions_here, plain1, plain2, plain_of, arguments_of, work_within, plain_work}
use Rattle.apl_cost.specs.RangedEvaluation.{RangedState, forgotten, arrays}

-- the same state of ranged evaluation, with k more turns left
abbrev pub ranged_more : ℕ → RangedState → RangedState
ranged_more k s = record s { turns = s.turns + k }

module _ (k : ℕ) where
  at-more : (place : Place) (answer : Answer) (s : State) →
      at_place place answer (with_more k s) ≡ mapped_outcome (with_more k) (λ (a : Array). a) (at_place place answer s)
  at-more place (Ok a) s = refl
  at-more place (Err e) s = refl

  needed-more : (place : Place) (a : Option Array) (s : State) →
      evaluation.needed place a (with_more k s) ≡ mapped_outcome (with_more k) (λ (a : Array). a) (evaluation.needed place a s)
  needed-more place (Some a) s = refl
  needed-more place None s = refl

  replaced-more : (name : List ℕ) (b : Array) (place : Place) (answer : Answer) (s : State) →
      and_then (at_place place answer (with_more k s)) (λ a t. done b (evaluation.with_name name a t))
      ≡ mapped_outcome (with_more k) (λ (a : Array). a) (and_then (at_place place answer s) (λ a t. done b (evaluation.with_name name a t)))
  replaced-more name b place (Ok a) s = refl
  replaced-more name b place (Err e) s = refl

  branch-more : (x y : Bool) (a : Array) (place : Place) (s : State) →
      branch_by x y a place (with_more k s) ≡ mapped_flow (with_more k) (branch_by x y a place s)
  branch-more true y a place s = refl
  branch-more false true a place s = refl
  branch-more false false a place s = refl

  show-more : (a : Option Array) (s : State) → print_result a (with_more k s) ≡ mapped_flow (with_more k) (print_result a s)
  show-more (Some a) s = refl
  show-more None s = refl

  -- what is done with arrays, where a call stands for none of it
  arrays-more : ValuesAgree (with_more k) (λ (a : Array). a) arrays arrays
  arrays-more = record {
    literal = λ l s. refl;
    name = λ name place s. needed-more place (look_up s.variables name) s;
    apply1 = λ f b place s. at-more place (monadic_value (origin_of s) f b) s;
    apply2 = λ f a b place s. at-more place (dyadic_value (origin_of s) f a b) s;
    reduce = λ f axis b place s. at-more place (product.reduce (origin_of s) f axis b) s;
    outer = λ f a b place s. at-more place (product.outer f a b) s;
    inner = λ f g a b place s. at-more place (product.inner f g a b) s;
    index = λ a ps place s. ap (λ qs. at_place place (places.subscript (origin_of s) a qs) (with_more k s)) (options-same ps)
        ∙ at-more place (places.subscript (origin_of s) a ps) s;
    assign = λ name a s. refl;
    replace = λ name ps b place s.
        ap (λ qs. evaluation.replace_name name qs b place (with_more k s)) (options-same ps)
        ∙ replaced-more name b place (replace_in (origin_of s) (look_up s.variables name) ps b) s;
    calls = record { agree = λ f place left right s. refl };
    print = λ a s. refl;
    need = λ place a s. ap (λ v. evaluation.needed place v (with_more k s)) (option-same a) ∙ needed-more place a s;
    branch = λ place a s. branch-more (is_empty a) (is_text a) a place s;
    show = λ a s. ap (λ v. print_result v (with_more k s)) (option-same a) ∙ show-more a s;
  }

  done-same : (o : Outcome State Array) → value_if_done (mapped_outcome (with_more k) (λ (a : Array). a) o) ≡ value_if_done o
  done-same (done a t) = refl
  done-same (fails kind place t) = refl
  done-same (spent t) = refl

  -- the value of an argument where the statement begins
  here-same : (t : Tree) (s : RangedState) → value_here (ranged_more k s) t ≡ value_here s t
  here-same t s =
      ap value_if_done (expressions_agree State State Array Array (with_more k) (λ a. a) arrays arrays arrays-more t (forgotten s))
      ∙ done-same (value_in arrays t (forgotten s))

  slot-same : (q : Slot) (s : RangedState) → slot_here (ranged_more k s) q ≡ slot_here s q
  slot-same elided s = refl
  slot-same (given t) s = here-same t s

  positions-same : (qs : Positions) (s : RangedState) → positions_here (ranged_more k s) qs ≡ positions_here s qs
  positions-same no_position s = refl
  positions-same (position q qs) s = ap (λ v. v ∷ positions_here (ranged_more k s) qs) (slot-same q s) ∙ ap (λ vs. slot_here s q ∷ vs) (positions-same qs s)

  mutual
    plain-same : (t : Tree) (s : RangedState) → plain_of (ranged_more k s) t ≡ plain_of s t
    plain-same (constant l place) s = refl
    plain-same (variable name place) s = refl
    plain-same (parenthesis t place) s = plain-same t s
    plain-same (monadic f right place) s =
        ap (λ (x : Option Array). option_and_then (plain1 s.variables.origin f (λ _. x)) (plain_of (ranged_more k s) right)) (here-same right s)
        ∙ ap (option_and_then (plain1 s.variables.origin f (λ _. value_here s right))) (plain-same right s)
    plain-same (dyadic f left right place) s =
        ap (λ (x : Option Array). option_and_then (λ b. option_and_then (λ a. plain2 s.variables.origin f (λ _. x) a b) (plain_of (ranged_more k s) left))
        (plain_of (ranged_more k s) right)) (here-same left s)
        ∙ ap (λ (x : Option Plain). option_and_then (λ b. option_and_then (λ a. plain2 s.variables.origin f (λ _. value_here s left) a b) x)
        (plain_of (ranged_more k s) right)) (plain-same left s)
        ∙ ap (option_and_then (λ b. option_and_then (λ a. plain2 s.variables.origin f (λ _. value_here s left) a b) (plain_of s left))) (plain-same right s)
    plain-same (tree.subscript array qs place) s =
        ap (λ (x : List (Option Array)). option_and_then (λ b. option_and_then
        (λ more. option_map (selected b more) (subscript_lengths s.variables.origin x b.shape)) (arguments_of (ranged_more k s) qs))
        (plain_of (ranged_more k s) array))
        (positions-same qs s)
        ∙ ap (λ (x : Option Arguments). option_and_then (λ b. option_and_then
        (λ more. option_map (selected b more) (subscript_lengths s.variables.origin (positions_here s qs) b.shape)) x) (plain_of (ranged_more k s) array))
        (arguments-same qs s)
        ∙ ap (option_and_then (λ b. option_and_then (λ more. option_map (selected b more)
        (subscript_lengths s.variables.origin (positions_here s qs) b.shape)) (arguments_of s qs))) (plain-same array s)
    plain-same (call f left right place) s = refl
    plain-same (reduction f axis right place) s = refl
    plain-same (outer_product f left right place) s = refl
    plain-same (inner_product f g left right place) s = refl
    plain-same (assignment name value place) s = refl
    plain-same (indexed_assignment name qs value place) s = refl
    plain-same (output value place) s = refl

    arguments-same : (qs : Positions) (s : RangedState) → arguments_of (ranged_more k s) qs ≡ arguments_of s qs
    arguments-same no_position s = refl
    arguments-same (position elided qs) s = arguments-same qs s
    arguments-same (position (given t) qs) s =
        ap (option_and_then (λ p. option_map (argument_and p) (arguments_of (ranged_more k s) qs))) (plain-same t s)
        ∙ ap (λ (x : Option Arguments). option_and_then (λ p. option_map (argument_and p) x) (plain_of s t)) (arguments-same qs s)

  -- whether a statement is plain, and its work
  pub work-same : (t : Statement) (s : RangedState) → plain_work (ranged_more k s) t ≡ plain_work s t
  work-same nothing s = refl
  work-same (branch t place) s = refl
  work-same (expression (assignment name value place)) s = ap (option_and_then work_within) (plain-same value s)
  work-same (expression (constant l place)) s = refl
  work-same (expression (variable name place)) s = refl
  work-same (expression (parenthesis t place)) s = ap (option_and_then work_within) (plain-same t s)
  work-same (expression (monadic f right place)) s = ap (option_and_then work_within) (plain-same (monadic f right place) s)
  work-same (expression (dyadic f left right place)) s = ap (option_and_then work_within) (plain-same (dyadic f left right place) s)
  work-same (expression (tree.subscript array qs place)) s = ap (option_and_then work_within) (plain-same (tree.subscript array qs place) s)
  work-same (expression (call f left right place)) s = refl
  work-same (expression (reduction f axis right place)) s = refl
  work-same (expression (outer_product f left right place)) s = refl
  work-same (expression (inner_product f g left right place)) s = refl
  work-same (expression (indexed_assignment name qs value place)) s = refl
  work-same (expression (output value place)) s = refl
