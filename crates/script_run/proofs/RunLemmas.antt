-- The run of items and then of others, over a machine.
use Rattle.std.proofs.Common.{◌≡◌, ℕ, ◌<◌, List, [], ◌++◌, Result, Ok, Err, IsTrue, sym, ap, ◌∙◌, subst, append-nil, ◌+◌}
use Rattle.apl_outside.proofs.Parts.{gains_then}
use Rattle.apl_model.specs.Agreement.{mapped_run}
use Rattle.apl_model.specs.Evaluation.{State}
use Rattle.apl_model.specs.Immediate.{Ending, well, reported, out_of_turns, Run}
use Rattle.apl_model.specs.Tree.{Item, Script}
use Rattle.machine_state.specs.StandsFor.{beginning}
use Rattle.d_machine.specs.declared.answers.Stop.{Stop}
use Rattle.d_machine.specs.declared.answers.Stop.TheVariants as stop
use Rattle.d_machine.specs.Answers.{ComesTo, EndsAt, Scene}
use Rattle.run_laws.specs.ItemRuns.{behind, from_here, go_on, run_of, Grows}
use Rattle.run_laws.proofs.Running.{behind_itself, runs_behind, runs_grow, runs_joined}
use Rattle.script_run.specs.declared.ends.End.{End}
use Rattle.script_run.specs.ProgramRuns.{Comes, Keeps}
use Rattle.script_run.proofs.SceneLemmas.{comes-then, ends-then, front-behind, rose-later, stops-earlier, stops-then}

-- where a machine came to a state, evaluation begins there
begins-there : (a b : Scene) (s : State) → ComesTo a b s → beginning b.machine ≡ from_here s
begins-there a b s h = λ i. record { variables = h.variables i; printed = []; turns = h.turns i; begun = h.begun i; ended = [] }

module _ (script : Script) (a b c : Scene) (k : Keeps a b) (l : Keeps b c) where
  -- what the run of items left and what that of others left from there on
  module _ (s : State) (h : EndsAt a b s) (ys : List Item) (ending : Ending) where
    -- the run of the others from the machine on
    abbrev later : Run State
    later = run_of script ys ending (beginning b.machine)

    -- it is that from the state on, behind what was printed and ended
    same-run : run_of script ys ending s ≡ mapped_run (behind s) later
    same-run =
        ap (λ t. run_of script ys ending t) (sym (behind_itself s)) ∙ runs_behind script ys ending s (from_here s)
        ∙ ap (λ t. mapped_run (behind s) (run_of script ys ending t)) (sym (begins-there a b s h.comes))

    -- so both together come to what the longer run comes to
    pub then-run : (answer : Result End Stop) → Comes b c later answer → Comes a c (run_of script ys ending s) answer
    then-run answer o = subst (λ (r : Run State). Comes a c r answer) (sym same-run) (of-both answer o)
      where
        of-both : (answer : Result End Stop) → Comes b c later answer → Comes a c (mapped_run (behind s) later) answer
        of-both (Ok e) o = (o.0, ends-then a b c s later.state k h o.1)
        of-both (Err stop.Spent) o = (o.0, comes-then a b c s later.state k h.comes o.1)
        of-both (Err (stop.WsFull live asked)) o =
            (subst (λ (n : ℕ). n < live + asked) k.limit o.0, stops-then _ gains_then a b c s later.state k h.comes o.1)
        of-both (Err stop.NoMemory) o = stops-then _ front-behind a b c s later.state k h.comes o
        of-both (Err stop.OutFault) o = (rose-later a.out_faults b.out_faults c.out_faults k.out_faults o.0, stops-then _ front-behind a b c s later.state k h.comes o.1)
        of-both (Err stop.TraceFault) o =
            (subst (λ t. IsTrue t) k.traced o.0, rose-later a.trace_faults b.trace_faults c.trace_faults k.trace_faults o.1, stops-then _ front-behind a b c s later.state k h.comes o.2)

-- a run that was stopped is stopped in a longer one
pub stopped-in-longer : (script : Script) (xs ys : List Item) (a b : Scene) (s : State) (cause : Stop)
    → Comes a b (run_of script xs well s) (Err cause) → Comes a b (run_of script (xs ++ ys) well s) (Err cause)
stopped-in-longer script xs ys a b s cause h = subst (λ (r : Run State). Comes a b r (Err cause)) (sym (runs_joined script xs ys well s (λ e. cc))) (of-both cause h)
  where
    first : Run State
    first = run_of script xs well s

    grows : (r : Run State) → Grows r.state (go_on r (run_of script ys)).state
    grows r = by r.ending
      where
        by : (e : Ending) → Grows r.state (go_on (record { ending = e; state = r.state }) (run_of script ys)).state
        by well = runs_grow script ys well r.state
        by reported = runs_grow script ys reported r.state
        by out_of_turns = record { from = from_here r.state; printed = sym (append-nil r.state.printed); ended = sym (append-nil r.state.ended) }

    spent-on : (r : Run State) → r.ending ≡ out_of_turns → go_on r (run_of script ys) ≡ r
    spent-on r e = ap (λ d. go_on (record { ending = d; state = r.state }) (run_of script ys)) e ∙ ap (λ d. record { ending = d; state = r.state }) (sym e)

    of-both : (cause : Stop) → Comes a b first (Err cause) → Comes a b (go_on first (run_of script ys)) (Err cause)
    of-both stop.Spent h = subst (λ (r : Run State). Comes a b r (Err stop.Spent)) (sym (spent-on first h.0)) h
    of-both (stop.WsFull live asked) h = (h.0, stops-earlier _ a b first.state _ h.1 (grows first))
    of-both stop.NoMemory h = stops-earlier _ a b first.state _ h (grows first)
    of-both stop.OutFault h = (h.0, stops-earlier _ a b first.state _ h.1 (grows first))
    of-both stop.TraceFault h = (h.0, h.1, stops-earlier _ a b first.state _ h.2 (grows first))
