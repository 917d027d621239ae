-- A plain expression has a value, as it is judged to have, with no error, no output and no change of the variables.
use Rattle.std.specs.Prelude.{◌≡◌, ℕ, List, Some}
use Rattle.apl_model.specs.declared.tokens.Heading.{Heading}
use Rattle.apl_model.specs.Grammar.{IsExpression, IsStatement}
use Rattle.apl_model.specs.Order.{CallsOf, value_in}
use Rattle.apl_model.specs.Outcome.{Outcome, done, Flow, onwards}
use Rattle.apl_model.specs.Tree.{Tree, Statement}
use Rattle.apl_cost.specs.Plain.{Plain, plain_of, plain_work}
use Rattle.apl_cost.specs.Ranges.{RangedArray, side_of}
use Rattle.apl_cost.specs.RangedEvaluation.{RangedState, of_ranged, ranged_flow}
use Rattle.apl_cost_laws.specs.Inside.{IsInside, AreVariablesInside}

-- the expression has one value, whatever calls mean, and the state stays as it is; the value's kind, shape and interval
-- are those that it is judged to have
pub record HasPlainValue (s : RangedState) (t : Tree) (p : Plain) : Type 0 where
  pub value : RangedArray
  pub made : (calls : CallsOf RangedState RangedArray) → value_in (of_ranged calls) t s ≡ done value s
  pub inside : IsInside value
  pub side : side_of value ≡ p.side
  pub shape : value.array.shape ≡ p.shape

-- each expression that is judged plain has such a value
abbrev pub PlainExpressionsHaveValues : Type 0
PlainExpressionsHaveValues = (hs : List Heading) (s : RangedState) → AreVariablesInside s.variables →
    (t : Tree) (p : Plain) → IsExpression hs t → plain_of s t ≡ Some p → HasPlainValue s t p

-- a statement ends without error, and the run goes on to the next line
pub record EndsWell (o : Outcome RangedState Flow) : Type 0 where
  pub after : RangedState
  pub ends : o ≡ done onwards after

-- so each plain statement ends without error
abbrev pub PlainStatementsEndWell : Type 0
PlainStatementsEndWell = (hs : List Heading) (s : RangedState) → AreVariablesInside s.variables →
    (t : Statement) (work : ℕ) → IsStatement hs t → plain_work s t ≡ Some work → (calls : CallsOf RangedState RangedArray) → EndsWell (ranged_flow calls t s)
