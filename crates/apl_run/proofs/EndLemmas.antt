-- How a run over a machine ends, as the answer of its script tells it.
use Rattle.std.proofs.Common.{◌≡◌, ℕ, ◌+◌, ◌^◌, ◌<◌, ◌≤◌, Bool, true, false, List, [], ◌∷◌, ◌++◌, map, Option, Result, Ok, Err, IsTrue, encode_utf8_all, refl, sym, ap, ◌∙◌, subst, append-nil, append_assoc, le_trans, arith, inl, inr, true≢false}
use Rattle.apl_outside.specs.Bytes.{Gains}
use Rattle.apl_outside.specs.Faults.{Rose}
use Rattle.apl_outside.proofs.Parts.{gains_then}
use Rattle.apl_print.specs.Bytes.{GainsPrefix}
use Rattle.apl_print.specs.declared.costs.Cost.{Cost}
use Rattle.apl_model.specs.Environment.{Bindings, Environment, mapped_bindings, no_variables}
use Rattle.apl_model.specs.Evaluation.{State}
use Rattle.apl_model.specs.Immediate.{beginning as at_first, immediate, Ending, well, reported, out_of_turns, Run, told}
use Rattle.apl_model.specs.Tree.{Script}
use Rattle.apl_compile.specs.Program.{ProgramView, program_of}
use Rattle.drag_along.specs.declared.leaves.Leaf.{Leaf}
use Rattle.leaf_names.specs.Variables.{array_of}
use Rattle.machine_state.specs.declared.machines.Machine.{Machine}
use Rattle.machine_state.specs.StandsFor.{IsAtRest, beginning, variables}
use Rattle.d_machine.specs.declared.answers.Stop.{Stop}
use Rattle.d_machine.specs.declared.answers.Stop.TheVariants as stop
use Rattle.d_machine.specs.Answers.{ComesTo, EndsAt, Scene, StopsBefore, TracesAll, TracesFirst, lines_of, statements_in}
use Rattle.run_laws.specs.ItemRuns.{run_of}
use Rattle.script_run.specs.declared.ends.End.{End}
use Rattle.script_run.specs.declared.ends.End.TheVariants as end
use Rattle.script_run.specs.ProgramRuns.{Comes, ending_of, Keeps, RunsProgram}
use Rattle.script_run.proofs.SceneLemmas.{front-all, front-none, gains-nothing, rose-later}
use Rattle.apl_run.specs.declared.statuses.Status.{Status}
use Rattle.apl_run.specs.declared.statuses.Status.TheVariants as status
use Rattle.apl_run.specs.declared.statuses.Which.TheVariants as which
use Rattle.apl_run.specs.Answers.{Answer, ran, bytes_of, ended_of, ended_so, status_of, variables_of}
use Rattle.apl_run.specs.Endings.{Describes, Ends, EndsSo, HasCause, IsCut, IsFresh, IsWhole, Leaves, RunsScript, whole, untraced, wanting, failed}
use Rattle.apl_run.specs.Statuses.{IsLasting, IsNotRun}
use Rattle.apl_run.specs.Traces.{all_lines, lines_of_globals, AreWritten, AreWrittenIf, GainsLines, IsFront}

-- ---- the run that a fresh machine begins

-- it is that of immediate evaluation
begins : (m : Machine) → IsFresh m → beginning m ≡ at_first m.turns_left
begins m f = λ i. record { variables = f.variables i; printed = []; turns = m.turns_left; begun = f.begun i; ended = [] }

-- what the machine's run comes to, told as immediate evaluation
abbrev pub run_in : Script → Machine → Run State
run_in script m = run_of script script.items well (beginning m)

told-so : (script : Script) (m : Machine) → IsFresh m → told (run_in script m) ≡ immediate script m.turns_left
told-so script m f = ap (λ s. told (run_of script script.items well s)) (begins m f)

-- the entries of a machine that had none are those that came
entries-came : (old new : Scene) → IsFresh old.machine → (gained : List Cost) → new.machine.costs.items ≡ old.machine.costs.items ++ gained → new.machine.costs.items ≡ gained
entries-came old new f gained e = e ∙ ap (λ xs. xs ++ gained) f.costs

module _ (old new : Scene) (f : IsFresh old.machine) (run : Run State) where
  -- it came to its end
  whole-run : ComesTo old new run.state → IsWhole (ran (told run)) old new (ended_so run.ending)
  whole-run h = record {
    is = refl;
    bytes = h.printed;
    variables = λ i. record {
      globals = (h.variables i).globals;
      frames = no-frames i;
      origin = (h.variables i).origin;
    };
    ended = λ t. let all = h.traced t in ap statements_in (entries-came old new f all.gained all.costs) ∙ all.statements;
  }
    where
      no-frames : (variables new.machine).frames ≡ []
      no-frames = ap (λ fs. map (mapped_bindings (array_of new.machine.store)) fs) h.rest.frames

  -- it was cut short
  cut-run : (Out : Option (List ℕ) → Option (List ℕ) → List ℕ → Type 0) → StopsBefore Out old new run.state → IsCut (ran (told run)) old new
  cut-run Out h = record {
    bytes = h.printed;
    ended = λ t. let some = h.traced t in record {
      rest = some.others;
      is = ap (λ xs. statements_in xs ++ some.others) (entries-came old new f some.gained some.costs) ∙ some.statements;
    };
  }

-- ---- the trace

-- what holds with a trace and without one
by-trace : (P : Bool → Type 0) (t : Bool) → (t ≡ true → P true) → (t ≡ false → P false) → P t
by-trace P true on off = on refl
by-trace P false on off = off refl

no-lines : (status : Status) (costs : List Cost) (globals : Bindings Leaf) (a b : Option (List ℕ)) → b ≡ a → GainsLines false status costs globals a b
no-lines status costs globals a b e = record { lines = []; written = refl; gained = subst (λ (x : Option (List ℕ)). Gains a x []) (sym e) (gains-nothing a) }

-- the lines of the entries that came are those of all entries
lines-came : (old new : Scene) → IsFresh old.machine → (gained : List Cost) → new.machine.costs.items ≡ old.machine.costs.items ++ gained → lines_of gained ≡ lines_of new.machine.costs.items
lines-came old new f gained e = ap lines_of (sym (entries-came old new f gained e))

-- what a machine that ran nothing leaves, where nothing of the trace was written
pub unrun-leaves : (old new : Scene) (s : Status) → IsFresh old.machine → new.machine ≡ old.machine → new.trace ≡ old.trace → (IsLasting s → IsAtRest new.machine)
    → ((costs : List Cost) (globals : Bindings Leaf) → AreWritten s costs globals []) → old.out_faults ≤ new.out_faults → old.trace_faults ≤ new.trace_faults → Leaves old new s
unrun-leaves old new s f same trace rest written out_faults trace_faults = record {
  rest = rest;
  not_run = λ h. same;
  untraced = λ h. ap (λ m. m.costs.items) same ∙ f.costs;
  trace = by-trace (λ t. GainsLines t s new.machine.costs.items new.machine.names.globals old.trace new.trace) old.machine.traced
      (λ t. record {
        lines = [];
        written = written new.machine.costs.items new.machine.names.globals;
        gained = subst (λ (x : Option (List ℕ)). Gains old.trace x []) (sym trace) (gains-nothing old.trace);
      })
      (λ t. no-lines s new.machine.costs.items new.machine.names.globals old.trace new.trace trace);
  out_faults = out_faults;
  trace_faults = trace_faults;
}

-- ---- a run that was stopped

module _ (old new : Scene) (f : IsFresh old.machine) (keeps : Keeps old new) (run : Run State) where
  stop-leaves : (s : Status) → (IsLasting s → ⊥) → (IsNotRun s → ⊥)
      → (old.machine.traced ≡ true → GainsLines true s new.machine.costs.items new.machine.names.globals old.trace new.trace) → Leaves old new s
  stop-leaves s short run-so traced = record {
    rest = λ l. absurd (short l);
    not_run = λ h. absurd (run-so h);
    untraced = λ h. (keeps.untraced h).0 ∙ f.costs;
    trace = by-trace (λ t. GainsLines t s new.machine.costs.items new.machine.names.globals old.trace new.trace) old.machine.traced traced
        (λ h. no-lines s new.machine.costs.items new.machine.names.globals old.trace new.trace (keeps.untraced h).1);
    out_faults = keeps.out_faults;
    trace_faults = keeps.trace_faults;
  }

  -- a front of the lines of the entries went out
  front-lines : (s : Status) → ((w : List ℕ) → IsFront w (all_lines new.machine.costs.items new.machine.names.globals) → AreWritten s new.machine.costs.items new.machine.names.globals w)
      → StopsBefore GainsPrefix old new run.state → old.machine.traced ≡ true → GainsLines true s new.machine.costs.items new.machine.names.globals old.trace new.trace
  front-lines s written h t =
      let some = h.traced t in
      let lines = lines_of_globals new.machine.names.globals in record {
        lines = some.lines.front;
        written = written some.lines.front (record {
          rest = some.lines.rest ++ lines;
          is = sym (append_assoc some.lines.front some.lines.rest lines) ∙ ap (λ xs. xs ++ lines) (some.lines.whole ∙ lines-came old new f some.gained some.costs);
        });
        gained = some.lines.gained;
      }

  -- all of them did
  full-lines : (live asked : ℕ) → StopsBefore Gains old new run.state → old.machine.traced ≡ true
      → GainsLines true (status.WsFull live asked) new.machine.costs.items new.machine.names.globals old.trace new.trace
  full-lines live asked h t = let some = h.traced t in record { lines = lines_of some.gained; written = lines-came old new f some.gained some.costs; gained = some.lines }

  pub stopped-full : (live asked : ℕ) → Comes old new run (Err (stop.WsFull live asked)) → Ends (ran (told run)) old new (status.WsFull live asked)
  stopped-full live asked h = record {
    so = cut-run old new f run Gains h.1;
    cause = subst (λ (n : ℕ). n < live + asked) f.limit h.0;
    leaves = stop-leaves (status.WsFull live asked) (λ l. l) (λ l. l) (full-lines live asked h.1);
  }

  pub stopped-wanting : Comes old new run (Err stop.NoMemory) → Ends (ran (told run)) old new status.NoMemory
  stopped-wanting h = record {
    so = cut-run old new f run GainsPrefix h;
    cause = tt;
    leaves = stop-leaves status.NoMemory (λ l. l) (λ l. l) (front-lines status.NoMemory (λ w i. i) h);
  }

  pub stopped-out : Comes old new run (Err stop.OutFault) → Ends (ran (told run)) old new (status.WriteFault which.Out)
  stopped-out h = record {
    so = cut-run old new f run GainsPrefix h.1;
    cause = h.0;
    leaves = stop-leaves (status.WriteFault which.Out) (λ l. l) (λ l. l) (front-lines (status.WriteFault which.Out) (λ w i. i) h.1);
  }

  pub stopped-trace : Comes old new run (Err stop.TraceFault) → Ends (ran (told run)) old new (status.WriteFault which.Trace)
  stopped-trace h = record {
    so = cut-run old new f run GainsPrefix h.2;
    cause = (h.0, h.1);
    leaves = stop-leaves (status.WriteFault which.Trace) (λ l. l) (λ l. l) (front-lines (status.WriteFault which.Trace) (λ w i. i) h.2);
  }

-- ---- a run that came to its end

-- a status of such a run
pub record IsRunEnd (s : Status) : Type 0 where
  pub so : (a : Answer) (old new : Scene) → IsWhole a old new s → EndsSo a old new s
  pub written : (costs : List Cost) (globals : Bindings Leaf) → AreWritten s costs globals (all_lines costs globals)
  pub run_so : IsNotRun s → ⊥
  pub cause : (old new : Scene) → HasCause old new s

pub done-end : IsRunEnd status.Done
done-end = record { so = λ a old new w. w; written = λ costs globals. refl; run_so = λ h. h; cause = λ old new. tt }

pub reported-end : IsRunEnd status.Reported
reported-end = record { so = λ a old new w. w; written = λ costs globals. refl; run_so = λ h. h; cause = λ old new. tt }

pub spent-end : IsRunEnd status.Spent
spent-end = record { so = λ a old new w. w; written = λ costs globals. refl; run_so = λ h. h; cause = λ old new. tt }

-- the same scene, with more of the trace written
abbrev pub with_trace : Scene → Option (List ℕ) → ℕ → Scene
with_trace a trace faults = record a { trace = trace; trace_faults = faults }

module _ (old mid : Scene) (f : IsFresh old.machine) (keeps : Keeps old mid) (run : Run State) (come : ComesTo old mid run.state) (s : Status) (i : IsRunEnd s) (e : s ≡ ended_so run.ending)
    (trace : Option (List ℕ)) (faults : ℕ) (falls : mid.trace_faults ≤ faults) where
  abbrev new : Scene
  new = with_trace mid trace faults

  abbrev globals : Bindings Leaf
  globals = mid.machine.names.globals

  abbrev costs : List Cost
  costs = mid.machine.costs.items

  whole-new : IsWhole (ran (told run)) old new s
  whole-new = let w = whole-run old mid f run come in record { is = e; bytes = w.bytes; variables = w.variables; ended = w.ended }

  cut-new : IsCut (ran (told run)) old new
  cut-new = let w = whole-run old mid f run come in record {
    bytes = front-all old.out mid.out (bytes_of (ran (told run))) w.bytes;
    ended = λ t. record { rest = []; is = append-nil (statements_in costs) ∙ w.ended t };
  }

  leaves-new : (r : Status) → (IsNotRun r → ⊥) → GainsLines old.machine.traced r costs globals old.trace trace → Leaves old new r
  leaves-new r run-so lines = record {
    rest = λ l. come.rest;
    not_run = λ h. absurd (run-so h);
    untraced = λ h. (keeps.untraced h).0 ∙ f.costs;
    trace = lines;
    out_faults = keeps.out_faults;
    trace_faults = le_trans keeps.trace_faults falls;
  }

  -- the lines of the entries, and then a front of those of the globals
  lines-then : mid.machine.traced ≡ true → (front : List ℕ) → Gains mid.trace trace front → (r : Status) → AreWritten r costs globals (lines_of costs ++ front)
      → GainsLines old.machine.traced r costs globals old.trace trace
  lines-then t front g r written =
      let on : old.machine.traced ≡ true = sym keeps.traced ∙ t in
      let all = come.traced on in
      subst (λ (b : Bool). GainsLines b r costs globals old.trace trace) (sym on) (record {
        lines = lines_of costs ++ front;
        written = written;
        gained = gains_then old.trace mid.trace trace (lines_of costs) front
            (subst (λ (xs : List ℕ). Gains old.trace mid.trace xs) (lines-came old mid f all.gained all.costs) all.lines) g;
      })

  front-then : (front rest : List ℕ) → front ++ rest ≡ lines_of_globals globals → IsFront (lines_of costs ++ front) (all_lines costs globals)
  front-then front rest h = record { rest = rest; is = append_assoc (lines_of costs) front rest ∙ ap (λ xs. lines_of costs ++ xs) h }

  pub described : (r : Status) → Describes s mid.machine.traced globals mid.trace trace mid.trace_faults faults r → Ends (ran (told run)) old new r
  described r (whole t same g) = subst (λ (q : Status). Ends (ran (told run)) old new q) (sym same) (record {
    so = i.so (ran (told run)) old new whole-new;
    cause = i.cause old new;
    leaves = leaves-new s i.run_so (lines-then t (lines_of_globals globals) g s (i.written costs globals));
  })
  described r (untraced t same g) =
      let off : old.machine.traced ≡ false = sym keeps.traced ∙ t in
      subst (λ (q : Status). Ends (ran (told run)) old new q) (sym same) (record {
        so = i.so (ran (told run)) old new whole-new;
        cause = i.cause old new;
        leaves = leaves-new s i.run_so
            (subst (λ (b : Bool). GainsLines b s costs globals old.trace trace) (sym off) (no-lines s costs globals old.trace trace (g ∙ (keeps.untraced off).1)));
      })
  described r (wanting t same p) = subst (λ (q : Status). Ends (ran (told run)) old new q) (sym same) (record {
    so = cut-new;
    cause = tt;
    leaves = leaves-new status.NoMemory (λ h. h) (lines-then t p.front p.gained status.NoMemory (front-then p.front p.rest p.whole));
  })
  described r (failed t same rose p) = subst (λ (q : Status). Ends (ran (told run)) old new q) (sym same) (record {
    so = cut-new;
    cause = (sym keeps.traced ∙ t, rose-later old.trace_faults mid.trace_faults faults keeps.trace_faults rose);
    leaves = leaves-new (status.WriteFault which.Trace) (λ h. h) (lines-then t p.front p.gained (status.WriteFault which.Trace) (front-then p.front p.rest p.whole));
  })

-- ---- the script

-- the run over the machine is that of immediate evaluation
pub as-immediate : (script : Script) (old new : Scene) (s : Status) → IsFresh old.machine → Ends (ran (told (run_in script old.machine))) old new s → RunsScript script old new s
as-immediate script old new s f h =
    subst (λ run. Ends (ran run) old new s) (told-so script old.machine f) h

-- ---- nothing was run

-- memory was wanting before anything was printed
pub wanting-none : (old : Scene) (a : Answer) → IsFresh old.machine → Ends a old old status.NoMemory
wanting-none old a f = record {
  so = record {
    bytes = front-none old.out (bytes_of a);
    ended = λ t. record { rest = ended_of a; is = ap (λ xs. statements_in xs ++ ended_of a) f.costs };
  };
  cause = tt;
  leaves = unrun-leaves old old status.NoMemory f refl refl (λ l. absurd l) (λ costs globals. record { rest = all_lines costs globals; is = refl }) (omega (arith)) (omega (arith));
}
