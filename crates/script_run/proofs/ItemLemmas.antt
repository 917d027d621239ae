-- The run of one item: a statement with its report, a command, a definition.
use Rattle.std.proofs.Common.{◌≡◌, ℕ, ◌+◌, ◌≤◌, List, [], ◌∷◌, ◌++◌, map, sum_by, Option, Result, Ok, Err, encode_utf8_all, refl, sym, ap, ◌∙◌, subst, append-nil, arith}
use Rattle.std.specs.List.{filter_map}
use Rattle.apl_base.specs.declared.faults.ErrorKind.{ErrorKind}
use Rattle.apl_base.specs.declared.faults.Place.{Place}
use Rattle.apl_outside.specs.Bytes.{Gains}
use Rattle.apl_outside.specs.Faults.{Rose}
use Rattle.apl_print.specs.Bytes.{GainsPrefix}
use Rattle.apl_print.specs.declared.costs.Cost.{Cost}
use Rattle.apl_print.specs.declared.faults.PrintFault.{PrintFault}
use Rattle.apl_print.specs.declared.faults.PrintFault.TheVariants as fault
use Rattle.apl_model.specs.declared.outlines.Outline.{Outline}
use Rattle.apl_model.specs.declared.scripts.Command.{Command}
use Rattle.apl_model.specs.declared.scripts.Command.TheVariants.{Vars, Fns, Erase, Origin}
use Rattle.apl_model.specs.Call.{calls_of}
use Rattle.apl_model.specs.Evaluation.{State, statement_flow, with_printed}
use Rattle.apl_model.specs.Immediate.{reported, out_of_turns, Run, after_statement, definitions_of, obeyed, of_states, report, routine, run_steps, unwound}
use Rattle.apl_model.specs.Outcome.{Outcome, done, fails, spent, Flow}
use Rattle.apl_model.specs.Tree.{Item, Script, Statement, statement_item, command_item, definition_item}
use Rattle.apl_model_laws.specs.Turns.{state_of}
use Rattle.apl_compile.specs.Program.{ProgramView, outline_item, program_of}
use Rattle.apl_compile.specs.Running.{function_of, functions_of}
use Rattle.machine_state.specs.declared.machines.Machine.{Machine}
use Rattle.machine_state.specs.StandsFor.{IsAtRest, beginning}
use Rattle.standing.specs.Statements.{evaluated}
use Rattle.command_steps.specs.Obeyed.{Obeys, bytes_of}
use Rattle.d_machine.specs.declared.answers.Step.{Step}
use Rattle.d_machine.specs.declared.answers.Step.TheVariants as step
use Rattle.d_machine.specs.declared.answers.Stop.{Stop}
use Rattle.d_machine.specs.declared.answers.Stop.TheVariants as stop
use Rattle.d_machine.specs.Answers.{AgreesWith, ComesTo, EndsAt, RunsStatement, Scene, StopsBefore, TellsOperations, lines_of, operations, statements_in}
use Rattle.d_machine.specs.Running.{scene}
use Rattle.run_laws.specs.ItemRuns.{from_here, run_of, Grows}
use Rattle.script_run.specs.declared.ends.End.{End}
use Rattle.script_run.specs.declared.ends.End.TheVariants as end
use Rattle.script_run.specs.ProgramRuns.{Comes, ending_of, Keeps, RunsCommand, RunsLine, stop_of}
use Rattle.script_run.proofs.SceneLemmas.{front-all, front-behind, front-none, gains-nothing, keeps-then, rose-later, stops-earlier}
use Rattle.apl_outside.proofs.Parts.{gains_then}
use Rattle.std.proofs.lemmas.Str.{encodes-append}

-- what statements mean in a script, and its functions
abbrev flow_in_script : Script → Statement → State → Outcome State Flow
flow_in_script script = statement_flow (calls_of of_states statement_flow (map routine (definitions_of script.items)))

abbrev functions_in : Script → List (List ℕ)
functions_in script = map (λ d. d.header.f) (definitions_of script.items)

-- ---- statements

module _ (script : Script) (line : ℕ) (statement : Statement) (before : End) where
  -- what follows from a statement's outcome
  abbrev after : Outcome State Flow → Run State
  after (done flow s) = record { ending = ending_of before; state = s }
  after (fails kind place s) = record { ending = reported; state = with_printed (report script kind place) (unwound s) }
  after (spent s) = record { ending = out_of_turns; state = unwound s }

  after-same : (o : Outcome State Flow)
      → after_statement of_states (flow_in_script script) (functions_in script) (report script) (ending_of before) o
      (run_steps of_states (flow_in_script script) (functions_in script) (report script) []) ≡ after o
  after-same (done flow s) = refl
  after-same (fails kind place s) = refl
  after-same (spent s) = refl

  -- it is the run of the statement
  after-is : (s : State) → run_of script (statement_item line statement ∷ []) (ending_of before) s ≡ after (evaluated script line statement s)
  after-is s = after-same (evaluated script line statement s)

  -- it prints and ends no less than the outcome
  after-grows : (o : Outcome State Flow) → Grows (state_of o) (after o).state
  after-grows (done flow s) = record { from = from_here s; printed = sym (append-nil s.printed); ended = sym (append-nil s.ended) }
  after-grows (fails kind place s) = record { from = with_printed (report script kind place) (from_here s); printed = refl; ended = sym (append-nil s.ended) }
  after-grows (spent s) = record { from = from_here s; printed = sym (append-nil s.printed); ended = sym (append-nil s.ended) }

  module _ (old new : Scene) (o : Outcome State Flow) where
    -- it ended well
    line-done : AgreesWith old new o (Ok step.Done) → Comes old new (after o) (Ok before)
    line-done h = subst (λ (x : Outcome State Flow). Comes old new (after x) (Ok before)) (sym h.2) (refl, h.3)

    -- it was stopped
    line-stopped : (cause : Stop) → AgreesWith old new o (Err cause) → Comes old new (after o) (Err cause)
    line-stopped stop.Spent h = subst (λ (x : Outcome State Flow). Comes old new (after x) (Err stop.Spent)) (sym h.1) (refl, h.2)
    line-stopped (stop.WsFull live asked) h = (h.0, stops-earlier _ old new (state_of o) _ h.1 (after-grows o))
    line-stopped stop.NoMemory h = stops-earlier _ old new (state_of o) _ h (after-grows o)
    line-stopped stop.OutFault h = (h.0, stops-earlier _ old new (state_of o) _ h.1 (after-grows o))
    line-stopped stop.TraceFault h = (h.0, h.1, stops-earlier _ old new (state_of o) _ h.2 (after-grows o))

-- ---- a text that is printed after a run

-- the same scene, with other bytes printed
abbrev pub with_out : Scene → Option (List ℕ) → ℕ → Scene
with_out a out faults = record a { out = out; out_faults = faults }

keeps-told : (old mid : Scene) (out : Option (List ℕ)) (faults : ℕ) → mid.out_faults ≤ faults → Keeps old mid → Keeps old (with_out mid out faults)
keeps-told old mid out faults h k = keeps-then old mid (with_out mid out faults) k (record {
  limit = refl;
  traced = refl;
  untraced = λ e. (refl, refl);
  out_faults = h;
  trace_faults = omega (arith);
})

comes-told : (old mid : Scene) (out : Option (List ℕ)) (faults : ℕ) (text : List ℕ) (s : State) → ComesTo old mid s → Gains mid.out out (encode_utf8_all text)
    → ComesTo old (with_out mid out faults) (with_printed text s)
comes-told old mid out faults text s h g = record {
  rest = h.rest;
  variables = h.variables;
  turns = h.turns;
  begun = h.begun;
  printed = subst (λ (zs : List ℕ). Gains old.out out zs) (sym (encodes-append s.printed text))
      (gains_then old.out mid.out out (encode_utf8_all s.printed) (encode_utf8_all text) h.printed g);
  traced = λ e. let t = h.traced e in record { gained = t.gained; costs = t.costs; statements = t.statements; lines = t.lines };
}

ends-told : (old mid : Scene) (out : Option (List ℕ)) (faults : ℕ) (text : List ℕ) (s : State) → EndsAt old mid s → Gains mid.out out (encode_utf8_all text)
    → EndsAt old (with_out mid out faults) (with_printed text s)
ends-told old mid out faults text s h g = record { comes = comes-told old mid out faults text s h.comes g; operations = h.operations }

-- of the text a front was printed alone
stops-told : (old mid : Scene) (out : Option (List ℕ)) (faults : ℕ) (text : List ℕ) (s : State) → ComesTo old mid s → GainsPrefix mid.out out (encode_utf8_all text)
    → StopsBefore GainsPrefix old (with_out mid out faults) (with_printed text s)
stops-told old mid out faults text s h g = record {
  printed = subst (λ (zs : List ℕ). GainsPrefix old.out out zs) (sym (encodes-append s.printed text))
      (front-behind old.out mid.out out (encode_utf8_all s.printed) (encode_utf8_all text) h.printed g);
  traced = λ e. let t = h.traced e in record {
    gained = t.gained;
    others = [];
    costs = t.costs;
    statements = append-nil (statements_in t.gained) ∙ t.statements;
    lines = front-all old.trace mid.trace (lines_of t.gained) t.lines;
  };
}

-- ---- a statement, and its report

keeps-statement : (p : ProgramView) (at : ℕ) (old new : Scene) (answer : Result Step Stop) → RunsStatement p at old new answer → Keeps old new
keeps-statement p at old new answer h =
    record { limit = h.limit; traced = h.traced; untraced = h.untraced; out_faults = h.out_faults; trace_faults = h.trace_faults }

module _ (p : ProgramView) (at : ℕ) (before : End) (old mid : Scene) where
  pub runs-done : RunsStatement p at old mid (Ok step.Done) → RunsLine p at before old mid (Ok before)
  runs-done h = record {
    comes = λ script line statement e there.
        subst (λ (r : Run State). Comes old mid r (Ok before)) (sym (after-is script line statement before (beginning old.machine)))
        (line-done script line statement before old mid (evaluated script line statement (beginning old.machine)) (h.agrees script line statement e there));
    keeps = keeps-statement p at old mid (Ok step.Done) h;
  }

  pub runs-stopped : (cause : Stop) → RunsStatement p at old mid (Err cause) → RunsLine p at before old mid (Err cause)
  runs-stopped cause h = record {
    comes = λ script line statement e there.
        subst (λ (r : Run State). Comes old mid r (Err cause)) (sym (after-is script line statement before (beginning old.machine)))
        (line-stopped script line statement before old mid (evaluated script line statement (beginning old.machine)) cause (h.agrees script line statement e there));
    keeps = keeps-statement p at old mid (Err cause) h;
  }

  module _ (kind : ErrorKind) (place : Place) (h : RunsStatement p at old mid (Ok (step.Error kind place))) (out : Option (List ℕ)) (faults : ℕ) (falls : mid.out_faults ≤ faults) where
    pub runs-reported : ((script : Script) → p ≡ program_of script → Gains mid.out out (encode_utf8_all (report script kind place)))
        → RunsLine p at before old (with_out mid out faults) (Ok end.Reported)
    runs-reported told = record {
      comes = λ script line statement e there.
          let a = h.agrees script line statement e there in
          let text = report script kind place in
          subst (λ (r : Run State). Comes old (with_out mid out faults) r (Ok end.Reported))
          (sym (after-is script line statement before (beginning old.machine) ∙ ap (λ o. after script line statement before o) a.1))
          (refl, ends-told old mid out faults text (unwound a.0) a.2 (told script e));
      keeps = keeps-told old mid out faults falls (keeps-statement p at old mid _ h);
    }

    pub runs-unreported : (why : PrintFault) → ((script : Script) → p ≡ program_of script → GainsPrefix mid.out out (encode_utf8_all (report script kind place)))
        → (why ≡ fault.OutFault → Rose mid.out_faults faults) → RunsLine p at before old (with_out mid out faults) (Err (stop_of why))
    runs-unreported why told rose = record {
      comes = λ script line statement e there.
          let a = h.agrees script line statement e there in
          let text = report script kind place in
          let stops : StopsBefore GainsPrefix old (with_out mid out faults) (with_printed text (unwound a.0)) =
          stops-told old mid out faults text (unwound a.0) a.2.comes (told script e) in
          subst (λ (r : Run State). Comes old (with_out mid out faults) r (Err (stop_of why)))
          (sym (after-is script line statement before (beginning old.machine) ∙ ap (λ o. after script line statement before o) a.1))
          (by (record { ending = reported; state = with_printed text (unwound a.0) }) why rose stops);
      keeps = keeps-told old mid out faults falls (keeps-statement p at old mid _ h);
    }
      where
        by : (r : Run State) (why : PrintFault) → (why ≡ fault.OutFault → Rose mid.out_faults faults) → StopsBefore GainsPrefix old (with_out mid out faults) r.state
            → Comes old (with_out mid out faults) r (Err (stop_of why))
        by r fault.OutFault rose stops = (rose-later old.out_faults mid.out_faults faults (keeps-statement p at old mid _ h).out_faults (rose refl), stops)
        by r fault.NoMemory rose stops = stops

-- ---- a definition

-- nothing was entered
none-gained : (xs ys : List Cost) → xs ≡ xs ++ ys → ys ≡ []
none-gained [] ys e = sym e
none-gained (x ∷ xs) ys e = none-gained xs ys (ap others e)
  where
    others : List Cost → List Cost
    others [] = []
    others (z ∷ zs) = zs

-- where nothing was counted, the entries of none tell of every operation
tells-none : (old new : Scene) → new.machine.costs.items ≡ old.machine.costs.items → operations new.machine ≡ operations old.machine → TellsOperations old new
tells-none old new e f gained g bound =
    let none : gained ≡ [] = none-gained old.machine.costs.items gained (sym e ∙ g) in
    let nothing : sum_by (λ k. k.ops) gained ≡ 0 = ap (λ xs. sum_by (λ (k : Cost). k.ops) xs) none in
    omega (arith, f, nothing)

pub ends-same : (a : Scene) → IsAtRest a.machine → EndsAt a a (beginning a.machine)
ends-same a h = record {
  comes = record {
    rest = h;
    variables = refl;
    turns = refl;
    begun = refl;
    printed = gains-nothing a.out;
    traced = λ e. record { gained = []; costs = sym (append-nil a.machine.costs.items); statements = refl; lines = gains-nothing a.trace };
  };
  operations = λ e. tells-none a a refl refl;
}

-- ---- commands

functions-outlined : (items : List Item) → filter_map function_of (map outline_item items) ≡ map (λ d. d.header.f) (definitions_of items)
functions-outlined [] = refl
functions-outlined (statement_item line s ∷ items) = functions-outlined items
functions-outlined (command_item line c ∷ items) = functions-outlined items
functions-outlined (definition_item d ∷ items) = ap (λ names. d.header.f ∷ names) (functions-outlined items)

-- a command takes no turn and ends no statement
obeyed-turns : (functions : List (List ℕ)) (c : Command) (s : State) → (obeyed functions c s).turns ≡ s.turns
obeyed-turns functions Vars s = refl
obeyed-turns functions Fns s = refl
obeyed-turns functions (Erase names) s = refl
obeyed-turns functions (Origin o) s = refl

obeyed-begun : (functions : List (List ℕ)) (c : Command) (s : State) → (obeyed functions c s).begun ≡ s.begun
obeyed-begun functions Vars s = refl
obeyed-begun functions Fns s = refl
obeyed-begun functions (Erase names) s = refl
obeyed-begun functions (Origin o) s = refl

obeyed-ended : (functions : List (List ℕ)) (c : Command) (s : State) → (obeyed functions c s).ended ≡ s.ended
obeyed-ended functions Vars s = refl
obeyed-ended functions Fns s = refl
obeyed-ended functions (Erase names) s = refl
obeyed-ended functions (Origin o) s = refl

module _ (functions : List (List ℕ)) (command : Command) (old : Machine) (out out' trace : Option (List ℕ)) (faults faults' trace_faults : ℕ) where
  pub ends-obeyed : (new : Machine) → Obeys functions command old new → Gains out out' (bytes_of functions command old)
      → EndsAt (scene old out faults trace trace_faults) (scene new out' faults' trace trace_faults) (obeyed functions command (beginning old))
  ends-obeyed new h g = record {
    comes = record {
      rest = h.rest;
      variables = h.variables;
      turns = h.turns ∙ sym (obeyed-turns functions command (beginning old));
      begun = h.begun ∙ sym (obeyed-begun functions command (beginning old));
      printed = g;
      traced = λ e. record {
        gained = [];
        costs = ap (λ c. c.items) h.costs ∙ sym (append-nil old.costs.items);
        statements = sym (obeyed-ended functions command (beginning old));
        lines = gains-nothing trace;
      };
    };
    operations = λ e. tells-none (scene old out faults trace trace_faults) (scene new out' faults' trace trace_faults)
        (ap (λ c. c.items) h.costs) (ap (λ c. c.fetched + c.made + c.applied) h.counts);
  }

  pub stops-obeyed : GainsPrefix out out' (bytes_of functions command old)
      → StopsBefore GainsPrefix (scene old out faults trace trace_faults) (scene old out' faults' trace trace_faults) (obeyed functions command (beginning old))
  stops-obeyed g = record {
    printed = g;
    traced = λ e. record {
      gained = [];
      others = [];
      costs = sym (append-nil old.costs.items);
      statements = sym (obeyed-ended functions command (beginning old));
      lines = front-none trace [];
    };
  }

module _ (p : ProgramView) (command : Command) (before : End) (old : Machine) (out out' : Option (List ℕ)) (faults faults' : ℕ) (falls : faults ≤ faults') where
  -- what the definition calls the functions, the outline does
  same-functions : (script : Script) → p ≡ program_of script → functions_of p.outline ≡ functions_in script
  same-functions script e = ap (λ q. functions_of q.outline) e ∙ functions-outlined script.items

  pub runs-obeyed : (new : Machine) → Obeys (functions_of p.outline) command old new → Gains out out' (bytes_of (functions_of p.outline) command old) → (trace : Option (List ℕ)) (trace_faults : ℕ)
      → RunsCommand p command before (scene old out faults trace trace_faults) (scene new out' faults' trace trace_faults) (Ok before)
  runs-obeyed new h g trace trace_faults = record {
    comes = λ script line e.
        subst (λ fs. Comes (scene old out faults trace trace_faults) (scene new out' faults' trace trace_faults)
        (record { ending = ending_of before; state = obeyed fs command (beginning old) }) (Ok before)) (same-functions script e)
        (refl, ends-obeyed (functions_of p.outline) command old out out' trace faults faults' trace_faults new h g);
    keeps = record {
      limit = h.limit;
      traced = h.traced;
      untraced = λ e. (ap (λ c. c.items) h.costs, refl);
      out_faults = falls;
      trace_faults = omega (arith);
    };
  }

  pub runs-unobeyed : (why : PrintFault) → GainsPrefix out out' (bytes_of (functions_of p.outline) command old) → (why ≡ fault.OutFault → Rose faults faults') → (trace : Option (List ℕ)) (trace_faults : ℕ)
      → RunsCommand p command before (scene old out faults trace trace_faults) (scene old out' faults' trace trace_faults) (Err (stop_of why))
  runs-unobeyed why g rose trace trace_faults = record {
    comes = λ script line e.
        subst (λ fs. Comes (scene old out faults trace trace_faults) (scene old out' faults' trace trace_faults)
        (record { ending = ending_of before; state = obeyed fs command (beginning old) }) (Err (stop_of why))) (same-functions script e)
        (by (record { ending = ending_of before; state = obeyed (functions_of p.outline) command (beginning old) }) trace trace_faults why rose (stops-obeyed (functions_of p.outline) command old out out' trace faults faults' trace_faults g));
    keeps = record {
      limit = refl;
      traced = refl;
      untraced = λ e. (refl, refl);
      out_faults = falls;
      trace_faults = omega (arith);
    };
  }
    where
      by : (r : Run State) (trace : Option (List ℕ)) (trace_faults : ℕ) (why : PrintFault) → (why ≡ fault.OutFault → Rose faults faults')
          → StopsBefore GainsPrefix (scene old out faults trace trace_faults) (scene old out' faults' trace trace_faults) r.state
          → Comes (scene old out faults trace trace_faults) (scene old out' faults' trace trace_faults) r (Err (stop_of why))
      by r trace trace_faults fault.OutFault rose stops = (rose refl, stops)
      by r trace trace_faults fault.NoMemory rose stops = stops

-- the run of a statement ended in this way
pub ran-as : (p : ProgramView) (at : ℕ) (old new : Scene) (a b : Step) → a ≡ b → RunsStatement p at old new (Ok a) → RunsStatement p at old new (Ok b)
ran-as p at old new a b e h = subst (λ (s : Step). RunsStatement p at old new (Ok s)) e h

-- a cause by another name
pub line-as : (p : ProgramView) (at : ℕ) (before : End) (old new : Scene) (a b : Stop) → a ≡ b → RunsLine p at before old new (Err b) → RunsLine p at before old new (Err a)
line-as p at before old new a b e h = subst (λ (s : Stop). RunsLine p at before old new (Err s)) (sym e) h

-- a command, over the outline as the program lends it
module _ (p : ProgramView) (o : Outline) (lent : o ≡ p.outline) (command : Command) (before : End) (old new : Machine) (out out' : Option (List ℕ)) (faults faults' : ℕ) (falls : faults ≤ faults') where
  pub command-ends : Obeys (functions_of o) command old new → Gains out out' (bytes_of (functions_of o) command old) → (trace : Option (List ℕ)) (trace_faults : ℕ)
      → RunsCommand p command before (scene old out faults trace trace_faults) (scene new out' faults' trace trace_faults) (Ok before)
  command-ends h g trace trace_faults =
      runs-obeyed p command before old out out' faults faults' falls new (subst (λ (q : Outline). Obeys (functions_of q) command old new) lent h)
      (subst (λ (q : Outline). Gains out out' (bytes_of (functions_of q) command old)) lent g) trace trace_faults

  pub command-stops : (why : PrintFault) (stop : Stop) → stop ≡ stop_of why → new ≡ old → GainsPrefix out out' (bytes_of (functions_of o) command old)
      → (why ≡ fault.OutFault → Rose faults faults') → (trace : Option (List ℕ)) (trace_faults : ℕ)
      → RunsCommand p command before (scene old out faults trace trace_faults) (scene new out' faults' trace trace_faults) (Err stop)
  command-stops why stop e same g rose trace trace_faults =
      subst (λ (s : Stop). RunsCommand p command before (scene old out faults trace trace_faults) (scene new out' faults' trace trace_faults) (Err s)) (sym e)
      (subst (λ (m : Machine). RunsCommand p command before (scene old out faults trace trace_faults) (scene m out' faults' trace trace_faults) (Err (stop_of why))) (sym same)
      (runs-unobeyed p command before old out out' faults faults' falls why (subst (λ (q : Outline). GainsPrefix out out' (bytes_of (functions_of q) command old)) lent g) rose trace trace_faults))
