-- A plain statement ends without error.
use Rattle.std.proofs.Common.{ℕ, List, ap}
use Rattle.apl_base.specs.declared.faults.Place.{Place}
use Rattle.apl_model.specs.Order.{CallsOf, value_in, show_value, silently}
use Rattle.apl_model.specs.Outcome.{and_then}
use Rattle.apl_model.specs.Tree as tree
use Rattle.apl_model.specs.Tree.{Tree, Slot, Positions, Statement, constant, variable, call, parenthesis, monadic, dyadic, reduction, outer_product, inner_product, assignment, indexed_assignment, output, elided, given, no_position, position, nothing, branch, expression}
use Rattle.apl_cost.specs.Plain.{Plain, plain_of, work_within}
use Rattle.apl_cost.specs.Ranges.{RangedArray, bound}
use Rattle.apl_cost.specs.RangedEvaluation.{RangedState, with_name, of_ranged, ranged_flow}
use Rattle.apl_cost_laws.specs.PlainValues.{HasPlainValue, EndsWell, PlainStatementsEndWell}
use Rattle.apl_cost_laws.proofs.Plains.{plain-value, then-there}

-- a value that is shown
shown-ends : (s : RangedState) (t : Tree) (p : Plain) (calls : CallsOf RangedState RangedArray) → HasPlainValue s t p →
    EndsWell (and_then (value_in (of_ranged calls) t s) (show_value (of_ranged calls)))
shown-ends s t p calls r = record { after = _; ends = ap (λ x. and_then x (show_value (of_ranged calls))) (r.made calls) }

-- a value that is assigned
assigned-ends : (s : RangedState) (name : List ℕ) (t : Tree) (place : Place) (p : Plain) (calls : CallsOf RangedState RangedArray) → HasPlainValue s t p →
    EndsWell (and_then (value_in (of_ranged calls) (assignment name t place) s) silently)
assigned-ends s name t place p calls r = record {
  after = with_name name (bound r.value) s;
  ends = ap (λ x. and_then (and_then x (λ a u. (of_ranged calls).assign name a u)) silently) (r.made calls);
}

pub plain_statements_end_well : PlainStatementsEndWell
plain_statements_end_well hs s e nothing work h q calls = absurd cc
plain_statements_end_well hs s e (branch t place) work h q calls = absurd cc
plain_statements_end_well hs s e (expression (assignment name t place)) work h q calls =
    then-there (EndsWell (ranged_flow calls (expression (assignment name t place)) s)) work_within (plain_of s t) work q
    (λ p k m. assigned-ends s name t place p calls (plain-value s e hs t p h.1 k))
plain_statements_end_well hs s e (expression (constant l place)) work h q calls =
    then-there (EndsWell (ranged_flow calls (expression (constant l place)) s)) work_within (plain_of s (constant l place)) work q
    (λ p k m. shown-ends s (constant l place) p calls (plain-value s e hs (constant l place) p h k))
plain_statements_end_well hs s e (expression (variable name place)) work h q calls =
    then-there (EndsWell (ranged_flow calls (expression (variable name place)) s)) work_within (plain_of s (variable name place)) work q
    (λ p k m. shown-ends s (variable name place) p calls (plain-value s e hs (variable name place) p h k))
plain_statements_end_well hs s e (expression (parenthesis t place)) work h q calls =
    then-there (EndsWell (ranged_flow calls (expression (parenthesis t place)) s)) work_within (plain_of s (parenthesis t place)) work q
    (λ p k m. shown-ends s (parenthesis t place) p calls (plain-value s e hs (parenthesis t place) p h k))
plain_statements_end_well hs s e (expression (monadic f t place)) work h q calls =
    then-there (EndsWell (ranged_flow calls (expression (monadic f t place)) s)) work_within (plain_of s (monadic f t place)) work q
    (λ p k m. shown-ends s (monadic f t place) p calls (plain-value s e hs (monadic f t place) p h k))
plain_statements_end_well hs s e (expression (dyadic f l t place)) work h q calls =
    then-there (EndsWell (ranged_flow calls (expression (dyadic f l t place)) s)) work_within (plain_of s (dyadic f l t place)) work q
    (λ p k m. shown-ends s (dyadic f l t place) p calls (plain-value s e hs (dyadic f l t place) p h k))
plain_statements_end_well hs s e (expression (tree.subscript t qs place)) work h q calls =
    then-there (EndsWell (ranged_flow calls (expression (tree.subscript t qs place)) s)) work_within (plain_of s (tree.subscript t qs place)) work q
    (λ p k m. shown-ends s (tree.subscript t qs place) p calls (plain-value s e hs (tree.subscript t qs place) p h k))
plain_statements_end_well hs s e (expression (call f left right place)) work h q calls = absurd cc
plain_statements_end_well hs s e (expression (reduction f axis right place)) work h q calls = absurd cc
plain_statements_end_well hs s e (expression (outer_product f left right place)) work h q calls = absurd cc
plain_statements_end_well hs s e (expression (inner_product f g left right place)) work h q calls = absurd cc
plain_statements_end_well hs s e (expression (indexed_assignment name qs value place)) work h q calls = absurd cc
plain_statements_end_well hs s e (expression (output value place)) work h q calls = absurd cc
