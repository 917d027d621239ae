-- Evaluation over one kind of states, values and statements agrees with evaluation over another, where functions take
-- the one to the other and what is done with them agrees.
use Rattle.std.specs.Prelude.{◌≡◌, ℕ, List, map, Option}
use Rattle.std.specs.Option.{option_map}
use Rattle.apl_base.specs.declared.faults.ErrorKind.{ErrorKind}
use Rattle.apl_base.specs.declared.faults.Place.{Place}
use Rattle.apl_base.specs.declared.rows.Dya.{Dya}
use Rattle.apl_model.specs.declared.functions.Axis.{Axis}
use Rattle.apl_model.specs.declared.functions.DyaFn.{DyaFn}
use Rattle.apl_model.specs.declared.functions.MonFn.{MonFn}
use Rattle.apl_model.specs.declared.scripts.Command.{Command}
use Rattle.apl_model.specs.declared.scripts.Header.{Header}
use Rattle.apl_model.specs.declared.trees.Literal.{Literal}
use Rattle.apl_model.specs.Call.{Routine, RoutineLine, States, call_within, calls_of}
use Rattle.apl_model.specs.Immediate.{Ending, Run, Step, statement_step, command_step, run_steps}
use Rattle.apl_model.specs.Order.{CallsOf, Values, value_in, positions_in, flow_in}
use Rattle.apl_model.specs.Outcome.{Outcome, done, fails, spent, Flow}
use Rattle.apl_model.specs.Tree.{Tree, Positions, Statement}

-- ---- expressions and statements

-- the outcome with its value and its state taken to others
abbrev pub mapped_outcome : {S T A B : Type 0} → (S → T) → (A → B) → Outcome S A → Outcome T B
mapped_outcome state value (done a s) = done (value a) (state s)
mapped_outcome state value (fails kind place s) = fails kind place (state s)
mapped_outcome state value (spent s) = spent (state s)

-- where a run goes is the same
abbrev pub mapped_flow : {S T : Type 0} → (S → T) → Outcome S Flow → Outcome T Flow
mapped_flow state o = mapped_outcome state (λ flow. flow) o

-- a call of the arguments that were taken over gives the result that is taken over
pub record CallsAgree {S T V W : Type 0} (state : S → T) (value : V → W) (calls : CallsOf S V) (others : CallsOf T W) : Type 0 where
  pub agree : (f : List ℕ) (place : Place) (left right : Option V) (s : S) →
      others f place (option_map value left) (option_map value right) (state s) ≡ mapped_outcome state (option_map value) (calls f place left right s)

-- and so does everything else that is done with values
pub record ValuesAgree {S T V W : Type 0} (state : S → T) (value : V → W) (M : Values S V) (N : Values T W) : Type 0 where
  pub literal : (l : Literal) (s : S) → N.literal l (state s) ≡ mapped_outcome state value (M.literal l s)
  pub name : (name : List ℕ) (place : Place) (s : S) → N.name name place (state s) ≡ mapped_outcome state value (M.name name place s)
  pub apply1 : (f : MonFn) (b : V) (place : Place) (s : S) → N.apply1 f (value b) place (state s) ≡ mapped_outcome state value (M.apply1 f b place s)
  pub apply2 : (f : DyaFn) (a b : V) (place : Place) (s : S) →
      N.apply2 f (value a) (value b) place (state s) ≡ mapped_outcome state value (M.apply2 f a b place s)
  pub reduce : (f : Dya) (axis : Axis) (b : V) (place : Place) (s : S) →
      N.reduce f axis (value b) place (state s) ≡ mapped_outcome state value (M.reduce f axis b place s)
  pub outer : (f : Dya) (a b : V) (place : Place) (s : S) →
      N.outer f (value a) (value b) place (state s) ≡ mapped_outcome state value (M.outer f a b place s)
  pub inner : (f g : Dya) (a b : V) (place : Place) (s : S) →
      N.inner f g (value a) (value b) place (state s) ≡ mapped_outcome state value (M.inner f g a b place s)
  pub index : (a : V) (ps : List (Option V)) (place : Place) (s : S) →
      N.index (value a) (map (option_map value) ps) place (state s) ≡ mapped_outcome state value (M.index a ps place s)
  pub assign : (name : List ℕ) (a : V) (s : S) → N.assign name (value a) (state s) ≡ mapped_outcome state value (M.assign name a s)
  pub replace : (name : List ℕ) (ps : List (Option V)) (b : V) (place : Place) (s : S) →
      N.replace name (map (option_map value) ps) (value b) place (state s) ≡ mapped_outcome state value (M.replace name ps b place s)
  pub calls : CallsAgree state value M.calls N.calls
  pub print : (a : V) (s : S) → N.print (value a) (state s) ≡ mapped_outcome state value (M.print a s)
  pub need : (place : Place) (a : Option V) (s : S) → N.need place (option_map value a) (state s) ≡ mapped_outcome state value (M.need place a s)
  pub branch : (place : Place) (a : V) (s : S) → N.branch place (value a) (state s) ≡ mapped_flow state (M.branch place a s)
  pub show : (a : Option V) (s : S) → N.show (option_map value a) (state s) ≡ mapped_flow state (M.show a s)

-- then expressions agree
abbrev pub ExpressionsAgree : (S T V W : Type 0) → Type 0
ExpressionsAgree S T V W = (state : S → T) (value : V → W) (M : Values S V) (N : Values T W) → ValuesAgree state value M N →
    (t : Tree) (s : S) → value_in N t (state s) ≡ mapped_outcome state value (value_in M t s)

-- and the positions of subscripts
abbrev pub PositionsAgree : (S T V W : Type 0) → Type 0
PositionsAgree S T V W = (state : S → T) (value : V → W) (M : Values S V) (N : Values T W) → ValuesAgree state value M N →
    (qs : Positions) (s : S) → positions_in N qs (state s) ≡ mapped_outcome state (map (option_map value)) (positions_in M qs s)

-- and statements
abbrev pub StatementsAgree : (S T V W : Type 0) → Type 0
StatementsAgree S T V W = (state : S → T) (value : V → W) (M : Values S V) (N : Values T W) → ValuesAgree state value M N →
    (t : Statement) (s : S) → flow_in N t (state s) ≡ mapped_flow state (flow_in M t s)

-- ---- lines, calls and items

-- the same function with other statements
abbrev pub mapped_line : {P Q : Type 0} → (P → Q) → RoutineLine P → RoutineLine Q
mapped_line statement l = record { line = l.line; label = l.label; statement = statement l.statement }

abbrev pub mapped_routine : {P Q : Type 0} → (P → Q) → Routine P → Routine Q
mapped_routine statement r = record { header = r.header; body = map (mapped_line statement) r.body }

-- the same item with another statement
abbrev pub mapped_step : {P Q : Type 0} → (P → Q) → Step P → Step Q
mapped_step statement (statement_step line p) = statement_step line (statement p)
mapped_step statement (command_step c) = command_step c

abbrev pub mapped_run : {S T : Type 0} → (S → T) → Run S → Run T
mapped_run state r = record { ending = r.ending; state = state r.state }

-- what turns, calls and commands do to the states agrees
pub record StatesAgree {S T V W : Type 0} (state : S → T) (value : V → W) (M : States S V) (N : States T W) : Type 0 where
  pub turns : (s : S) → N.turns (state s) ≡ M.turns s
  pub begun : (s : S) → N.begun (state s) ≡ M.begun s
  pub begin : (left : ℕ) (s : S) → N.begin left (state s) ≡ state (M.begin left s)
  pub end : (line number : ℕ) (s : S) → N.end line number (state s) ≡ state (M.end line number s)
  pub enter : (header : Header) (labels : List (Option (List ℕ))) (left right : Option V) (s : S) →
      N.enter header labels (option_map value left) (option_map value right) (state s) ≡ state (M.enter header labels left right s)
  pub result : (name : Option (List ℕ)) (s : S) → N.result name (state s) ≡ option_map value (M.result name s)
  pub leave : (s : S) → N.leave (state s) ≡ state (M.leave s)
  pub unwind : (s : S) → N.unwind (state s) ≡ state (M.unwind s)
  pub tell : (text : List ℕ) (s : S) → N.tell text (state s) ≡ state (M.tell text s)
  pub obey : (functions : List (List ℕ)) (c : Command) (s : S) → N.obey functions c (state s) ≡ state (M.obey functions c s)

-- statements mean the same where calls do
pub record MeaningsAgree {S T V W P Q : Type 0} (state : S → T) (value : V → W) (statement : P → Q)
    (meaning : CallsOf S V → P → S → Outcome S Flow) (other : CallsOf T W → Q → T → Outcome T Flow) : Type 0 where
  pub agree : (calls : CallsOf S V) (others : CallsOf T W) → CallsAgree state value calls others →
      (p : P) (s : S) → other others (statement p) (state s) ≡ mapped_flow state (meaning calls p s)

-- then the calls of functions agree, however many more may be pending
abbrev pub FunctionsAgree : (S T V W P Q : Type 0) → Type 0
FunctionsAgree S T V W P Q = (state : S → T) (value : V → W) (statement : P → Q) (M : States S V) (N : States T W)
    (meaning : CallsOf S V → P → S → Outcome S Flow) (other : CallsOf T W → Q → T → Outcome T Flow) →
    StatesAgree state value M N → MeaningsAgree state value statement meaning other → (routines : List (Routine P)) (n : ℕ) →
    CallsAgree state value (call_within M meaning routines n) (call_within N other (map (mapped_routine statement) routines) n)

-- and so do runs
abbrev pub RunsAgree : (S T V W P Q : Type 0) → Type 0
RunsAgree S T V W P Q = (state : S → T) (value : V → W) (statement : P → Q) (M : States S V) (N : States T W)
    (meaning : CallsOf S V → P → S → Outcome S Flow) (other : CallsOf T W → Q → T → Outcome T Flow) →
    StatesAgree state value M N → MeaningsAgree state value statement meaning other →
    (routines : List (Routine P)) (functions : List (List ℕ)) (report_of : ErrorKind → Place → List ℕ) (steps : List (Step P)) (ending : Ending) (s : S) →
    run_steps N (other (calls_of N other (map (mapped_routine statement) routines))) functions report_of (map (mapped_step statement) steps) ending (state s)
    ≡ mapped_run state (run_steps M (meaning (calls_of M meaning routines)) functions report_of steps ending s)

-- ---- where only the statements differ, as trees and their codes

-- statements and their translations mean the same
abbrev pub IsTranslation : {S V P Q : Type 0} → (P → Q) → (CallsOf S V → P → S → Outcome S Flow) → (CallsOf S V → Q → S → Outcome S Flow) → Type 0
IsTranslation {S} {V} {P} statement meaning other = (calls : CallsOf S V) (p : P) (s : S) → other calls (statement p) s ≡ meaning calls p s

-- then the calls of functions do
abbrev pub TranslatedFunctionsAgree : (S V P Q : Type 0) → Type 0
TranslatedFunctionsAgree S V P Q = (statement : P → Q) (M : States S V) (meaning : CallsOf S V → P → S → Outcome S Flow) (other : CallsOf S V → Q → S → Outcome S Flow) →
    IsTranslation statement meaning other → (routines : List (Routine P)) (n : ℕ) (f : List ℕ) (place : Place) (left right : Option V) (s : S) →
    call_within M other (map (mapped_routine statement) routines) n f place left right s ≡ call_within M meaning routines n f place left right s

-- and so do runs
abbrev pub TranslatedRunsAgree : (S V P Q : Type 0) → Type 0
TranslatedRunsAgree S V P Q = (statement : P → Q) (M : States S V) (meaning : CallsOf S V → P → S → Outcome S Flow) (other : CallsOf S V → Q → S → Outcome S Flow) →
    IsTranslation statement meaning other →
    (routines : List (Routine P)) (functions : List (List ℕ)) (report_of : ErrorKind → Place → List ℕ) (steps : List (Step P)) (ending : Ending) (s : S) →
    run_steps M (other (calls_of M other (map (mapped_routine statement) routines))) functions report_of (map (mapped_step statement) steps) ending s
    ≡ run_steps M (meaning (calls_of M meaning routines)) functions report_of steps ending s

-- ---- where only the values and the states differ, as arrays with their ranges and arrays alone

-- runs of the same trees agree where what is done with values agrees
abbrev pub RunsOverValuesAgree : (S T V W : Type 0) → Type 0
RunsOverValuesAgree S T V W = (state : S → T) (value : V → W) (M : States S V) (N : States T W) (values : CallsOf S V → Values S V) (others : CallsOf T W → Values T W) →
    StatesAgree state value M N →
    ((calls : CallsOf S V) (other : CallsOf T W) → CallsAgree state value calls other → ValuesAgree state value (values calls) (others other)) →
    (routines : List (Routine Statement)) (functions : List (List ℕ)) (report_of : ErrorKind → Place → List ℕ) (steps : List (Step Statement)) (ending : Ending) (s : S) →
    run_steps N (flow_in (others (calls_of N (λ calls. flow_in (others calls)) routines))) functions report_of steps ending (state s)
    ≡ mapped_run state (run_steps M (flow_in (values (calls_of M (λ calls. flow_in (values calls)) routines))) functions report_of steps ending s)
