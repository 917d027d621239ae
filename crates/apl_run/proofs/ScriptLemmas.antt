-- The run of a script, from its bytes to how it ends.
use Rattle.std.proofs.Common.{◌≡◌, ℕ, ◌+◌, ◌^◌, ◌<◌, ◌≤◌, ◌⊎◌, Bool, true, false, List, [], ◌∷◌, ◌++◌, map, Option, Some, None, Result, Ok, Err, IfSome, encode_utf8_all, refl, sym, ap, ◌∙◌, subst, append-nil, arith, inl, inr}
use Rattle.apl_base.specs.declared.faults.Cause.TheVariants.{TooLong}
use Rattle.apl_base.specs.declared.faults.Refusal.{Refusal}
use Rattle.apl_base.specs.declared.faults.TheConstants.{MOST_BYTES}
use Rattle.apl_outside.specs.Bytes.{Gains}
use Rattle.apl_outside.specs.Faults.{Rose}
use Rattle.apl_print.specs.Bytes.{GainsPrefix}
use Rattle.apl_print.specs.Lines.{refusal_line}
use Rattle.apl_model.specs.Immediate.{immediate, Ending, well, reported, out_of_turns, Run, told}
use Rattle.apl_model.specs.Evaluation.{State}
use Rattle.apl_model.specs.Refusal.{refusal, IsAccepted, IsFirst, IsRefusal}
use Rattle.apl_model.specs.Tree.{Script}
use Rattle.apl_compile.specs.Program.{ProgramView, program_of}
use Rattle.machine_state.specs.declared.machines.Machine.{Machine}
use Rattle.machine_state.specs.StandsFor.{IsAtRest}
use Rattle.d_machine.specs.declared.answers.Stop.{Stop}
use Rattle.d_machine.specs.declared.answers.Stop.TheVariants as stop
use Rattle.d_machine.specs.Answers.{Scene, statements_in}
use Rattle.d_machine.specs.Running.{scene}
use Rattle.script_run.specs.declared.ends.End.{End}
use Rattle.script_run.specs.ProgramRuns.{ending_of, IsCompiled, RunsProgram}
use Rattle.apl_run.specs.declared.statuses.Status.{Status}
use Rattle.apl_run.specs.declared.statuses.Status.TheVariants as status
use Rattle.apl_run.specs.declared.statuses.Which.TheVariants as which
use Rattle.apl_run.specs.Answers.{Answer, ran, refused, IsAnswer, bytes_of, ended_so}
use Rattle.apl_run.specs.Endings.{Describes, Ends, EndsSo, HasCause, IsCut, IsFresh, Leaves, RunsBytes, RunsScript}
use Rattle.apl_run.specs.Statuses.{IsEnd}
use Rattle.apl_run.specs.Traces.{all_lines, IsFront}
use Rattle.apl_run.proofs.AnswerLemmas.{long_is_refused, one_answer}
use Rattle.apl_run.proofs.EndLemmas.{as-immediate, described, run_in, stopped-full, stopped-out, stopped-trace, stopped-wanting, unrun-leaves, with_trace, IsRunEnd}

-- ---- a program that was run

module _ (p : ProgramView) (old mid : Scene) where
  -- at its end no call is pending
  pub end-frames : (end : End) → IsCompiled p → RunsProgram p old mid (Ok end) → mid.machine.names.frames ≡ []
  end-frames end c h = (h.comes c.script c.compiled).1.comes.rest.frames

  pub spent-frames : IsCompiled p → RunsProgram p old mid (Err stop.Spent) → mid.machine.names.frames ≡ []
  spent-frames c h = (h.comes c.script c.compiled).1.rest.frames

  module _ (f : IsFresh old.machine) where
    -- it came to its end, and the globals were described
    pub program-ends : (end : End) → RunsProgram p old mid (Ok end) → (s : Status) → IsRunEnd s → s ≡ ended_so (ending_of end) → (trace : Option (List ℕ)) (faults : ℕ)
        → mid.trace_faults ≤ faults → (r : Status) → Describes s mid.machine.traced mid.machine.names.globals mid.trace trace mid.trace_faults faults r
        → (script : Script) → p ≡ program_of script → RunsScript script old (with_trace mid trace faults) r
    program-ends end h s i same trace faults falls r d script e =
        let k = h.comes script e in
        as-immediate script old (with_trace mid trace faults) r f
        (described old mid f h.keeps (run_in script old.machine) k.1.comes s i (same ∙ ap ended_so (sym k.0)) trace faults falls r d)

    pub program-spent : RunsProgram p old mid (Err stop.Spent) → IsRunEnd status.Spent → (trace : Option (List ℕ)) (faults : ℕ)
        → mid.trace_faults ≤ faults → (r : Status) → Describes status.Spent mid.machine.traced mid.machine.names.globals mid.trace trace mid.trace_faults faults r
        → (script : Script) → p ≡ program_of script → RunsScript script old (with_trace mid trace faults) r
    program-spent h i trace faults falls r d script e =
        let k = h.comes script e in
        as-immediate script old (with_trace mid trace faults) r f
        (described old mid f h.keeps (run_in script old.machine) k.1 status.Spent i (ap ended_so (sym k.0)) trace faults falls r d)

    -- it was stopped
    pub program-full : (live asked : ℕ) → RunsProgram p old mid (Err (stop.WsFull live asked)) → (script : Script) → p ≡ program_of script → RunsScript script old mid (status.WsFull live asked)
    program-full live asked h script e = as-immediate script old mid (status.WsFull live asked) f (stopped-full old mid f h.keeps (run_in script old.machine) live asked (h.comes script e))

    pub program-wanting : RunsProgram p old mid (Err stop.NoMemory) → (script : Script) → p ≡ program_of script → RunsScript script old mid status.NoMemory
    program-wanting h script e = as-immediate script old mid status.NoMemory f (stopped-wanting old mid f h.keeps (run_in script old.machine) (h.comes script e))

    pub program-out : RunsProgram p old mid (Err stop.OutFault) → (script : Script) → p ≡ program_of script → RunsScript script old mid (status.WriteFault which.Out)
    program-out h script e = as-immediate script old mid (status.WriteFault which.Out) f (stopped-out old mid f h.keeps (run_in script old.machine) (h.comes script e))

    pub program-trace : RunsProgram p old mid (Err stop.TraceFault) → (script : Script) → p ≡ program_of script → RunsScript script old mid (status.WriteFault which.Trace)
    program-trace h script e = as-immediate script old mid (status.WriteFault which.Trace) f (stopped-trace old mid f h.keeps (run_in script old.machine) (h.comes script e))

-- ---- a refusal

module _ (m : Machine) (f : IsFresh m) (r : Refusal) (out out' trace : Option (List ℕ)) (faults faults' trace_faults : ℕ) (falls : faults ≤ faults') where
  abbrev old : Scene
  old = scene m out faults trace trace_faults

  abbrev new : Scene
  new = scene m out' faults' trace trace_faults

  pub refused-ends : Gains out out' (encode_utf8_all (refusal_line r)) → Ends (refused r) old new (status.Refused r)
  refused-ends g = record {
    so = record { is = refl; bytes = g; variables = f.variables; ended = λ t. ap statements_in f.costs };
    cause = tt;
    leaves = unrun-leaves old new (status.Refused r) f refl refl (λ l. f.rest) (λ costs globals. refl) falls (omega arith);
  }

  cut-line : GainsPrefix out out' (encode_utf8_all (refusal_line r)) → IsCut (refused r) old new
  cut-line g = record { bytes = g; ended = λ t. record { rest = []; is = append-nil (statements_in m.costs.items) ∙ ap statements_in f.costs } }

  pub refused-out : GainsPrefix out out' (encode_utf8_all (refusal_line r)) → Rose faults faults' → Ends (refused r) old new (status.WriteFault which.Out)
  refused-out g rose = record {
    so = cut-line g;
    cause = rose;
    leaves = unrun-leaves old new (status.WriteFault which.Out) f refl refl (λ l. absurd l) (λ costs globals. record { rest = all_lines costs globals; is = refl }) falls (omega arith);
  }

  pub refused-wanting : GainsPrefix out out' (encode_utf8_all (refusal_line r)) → Ends (refused r) old new status.NoMemory
  refused-wanting g = record {
    so = cut-line g;
    cause = tt;
    leaves = unrun-leaves old new status.NoMemory f refl refl (λ l. absurd l) (λ costs globals. record { rest = all_lines costs globals; is = refl }) falls (omega arith);
  }

-- ---- bytes

-- what is so of one answer of a script is so of each
pub of-answer : (bytes : List ℕ) (a : Answer) (old new : Scene) (s : Status) → IsAnswer bytes old.machine.turns_left a → Ends a old new s → RunsBytes bytes old new s
of-answer bytes a old new s i h = record {
  answer = λ b j. subst (λ (x : Answer). EndsSo x old new s) (one_answer bytes old.machine.turns_left a b i j) h.so;
  answered = λ k. (a, i);
  cause = h.cause;
  leaves = h.leaves;
}

pub accepted-bytes : (bytes : List ℕ) (script : Script) (old new : Scene) (s : Status) → IsAccepted bytes script → RunsScript script old new s → RunsBytes bytes old new s
accepted-bytes bytes script old new s a h = of-answer bytes (ran (immediate script old.machine.turns_left)) old new s (script, a, refl) h

pub refused-bytes : (bytes : List ℕ) (r : Refusal) (old new : Scene) (s : Status) → IsFirst (IsRefusal bytes) r → Ends (refused r) old new s → RunsBytes bytes old new s
refused-bytes bytes r old new s i h = of-answer bytes (refused r) old new s i h

-- the run of a program ended in this way
pub ran-as : (p : ProgramView) (old new : Scene) (a b : End) → a ≡ b → RunsProgram p old new (Ok a) → RunsProgram p old new (Ok b)
ran-as p old new a b e h = subst (λ (x : End). RunsProgram p old new (Ok x)) e h

pub stopped-as : (p : ProgramView) (old new : Scene) (a b : Stop) → a ≡ b → RunsProgram p old new (Err a) → RunsProgram p old new (Err b)
stopped-as p old new a b e h = subst (λ (x : Stop). RunsProgram p old new (Err x)) e h
