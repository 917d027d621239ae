-- Where a branch with the array of a leaf goes.
use Rattle.std.proofs.Common.{◌≡◌, ℕ, zero, suc, ◌<◌, ℤ, pos, Bool, true, false, List, [], ◌∷◌, map, refl, sym, ap, ◌∙◌, inr, ne_eqb, arith}
use Rattle.std.specs.Prelude.{◌==◌, ◌&&◌, not, slice_index_or}
use Rattle.apl_base.specs.Array.{index_at}
use Rattle.apl_base.specs.Selection.{upward}
use Rattle.apl_base.specs.Array.{Array, size_of}
use Rattle.apl_base.specs.declared.cells.Kind.{Kind}
use Rattle.apl_base.specs.declared.cells.Kind.TheVariants as kind
use Rattle.apl_base.specs.declared.faults.ErrorKind.{ErrorKind}
use Rattle.apl_base.specs.declared.faults.ErrorKind.TheVariants as error
use Rattle.apl_base.specs.declared.faults.Place.{Place}
use Rattle.apl_model.specs.Evaluation.{State, Calls, of_arrays, branch_by, branch_to}
use Rattle.apl_model.specs.Outcome.{Outcome, done, fails, to_line, Flow as EvaluationFlow}
use Rattle.apl_model.specs.Whole.{is_char, first}
use Rattle.apl_compile.specs.declared.codes.Op.TheVariants as op
use Rattle.apl_compile.specs.Execution.{exec, goes_on}
use Rattle.array_store.specs.Stores.{StoreView}
use Rattle.drag_along.specs.declared.leaves.Leaf.{Leaf}
use Rattle.drag_along.specs.Nodes.{leaf_shape}
use Rattle.drag_along.specs.Meaning.{Meaning, leaf_cell}
use Rattle.leaf_names.specs.Variables.{array_of}
use Rattle.e_machine.specs.Forced.{cells_from}
use Rattle.standing.specs.Stand.{going}
use Rattle.standing.specs.Laws.{Takes, Ends}
use Rattle.pending_steps.specs.declared.halts.Halt.{Halt}
use Rattle.pending_steps.specs.declared.halts.Halt.TheVariants as halt
use Rattle.pending_steps.specs.Steps.{IsHalted}
use Rattle.calling_steps.specs.declared.flows.Flow.{Flow}
use Rattle.calling_steps.specs.declared.flows.Flow.TheVariants as flow
use Rattle.calling_steps.specs.Branches.{flow_of, IsNoBranch, LeadsTo}
use Rattle.calling_steps.specs.Outputs.{on_top}

-- ---- by the array of a leaf

pub empty_leads : (place : Place) (a : Array) → size_of a.shape ≡ 0 → LeadsTo place a flow.Onwards
empty_leads place a none = λ s. ap (λ (n : ℕ). branch_by (n == 0) (is_char a.kind && not (n == 0)) a place s) none

some_tested : (n : ℕ) → 0 < n → (n == 0) ≡ false
some_tested n some = ne_eqb n 0 (λ e. omega (arith, e, some))

pub text_fails : (place : Place) (a : Array) → 0 < size_of a.shape → a.kind ≡ kind.Char → (s : State) → branch_to place a s ≡ fails error.Domain place s
text_fails place a some char s =
    ap (λ (b : Bool). branch_by b (is_char a.kind && not b) a place s) (some_tested (size_of a.shape) some)
    ∙ ap (λ (k : Kind). branch_by false (is_char k && true) a place s) char

pub number_leads : (place : Place) (a : Array) (cell : ℤ) → 0 < size_of a.shape → a.kind ≡ kind.Num → cell ≡ first a → LeadsTo place a (flow.Line cell)
number_leads place a cell some number same = λ s.
    ap (λ (b : Bool). branch_by b (is_char a.kind && not b) a place s) (some_tested (size_of a.shape) some)
    ∙ ap (λ (k : Kind). branch_by false (is_char k && true) a place s) number
    ∙ ap (λ (z : ℤ). let o : Outcome State EvaluationFlow = done (to_line z) s in o) (sym same)

-- ---- the first cell

pub first_is : (store : StoreView) (leaf : Leaf) (d : ℤ) → 0 < size_of (leaf_shape leaf) → slice_index_or (cells_from store leaf 0 1) 0 d ≡ first (array_of store leaf)
first_is store leaf d some = by (size_of (leaf_shape leaf)) some
  where
    by : (n : ℕ) → 0 < n → slice_index_or (cells_from store leaf 0 1) 0 d ≡ slice_index_or (map (λ p. leaf_cell store leaf (index_at (leaf_shape leaf) p)) (upward 0 n)) 0 (pos 0)
    by zero some = absurd (omega (arith, some))
    by (suc n) some = refl

-- ---- in code

-- where a branch leads, code goes on so
pub branch_takes : (place : Place) (a : Array) (to : Flow) → LeadsTo place a to → (calls : Calls) (vs : List Array) (before : EvaluationFlow) (s : State) → Takes calls (record { place = place; op = op.Goto }) (going (a ∷ vs) before s) (going vs (flow_of to) s)
branch_takes place a to leads calls vs before s rest = ap (λ (o : Outcome State EvaluationFlow). goes_on o (exec (of_arrays calls) rest vs)) (leads s)

branch_ends : (place at : Place) (a : Array) (kind : ErrorKind) → ((s : State) → branch_to place a s ≡ fails kind at s) → (calls : Calls) (vs : List Array) (before : EvaluationFlow) (s : State) → Ends calls (record { place = place; op = op.Goto }) (going (a ∷ vs) before s) (fails kind at s)
branch_ends place at a kind why calls vs before s rest = ap (λ (o : Outcome State EvaluationFlow). goes_on o (exec (of_arrays calls) rest vs)) (why s)

pub branch_halts : (place : Place) (limit : ℕ) (there : List Meaning) (older : List Array) (a : Array) (h : Halt) → there ≡ on_top older a → IsNoBranch place a h → IsHalted (record { place = place; op = op.Goto }) 1 limit there h
branch_halts place limit there older a (halt.Error kind at) were why = inr (record {
  older = older;
  operands = a ∷ [];
  are = were;
  number = refl;
  ends = λ calls vs to s. branch_ends place at a kind why calls vs to s;
})
branch_halts place limit there older a (halt.WsFull live asked) were why = absurd why
branch_halts place limit there older a halt.NoMemory were why = tt
