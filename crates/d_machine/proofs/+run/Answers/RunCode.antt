use Rattle.std.proofs.Common.{◌≡◌, ◌+◌, ◌-◌, ◌*◌, ◌<◌, ◌∙◌, List, length, get_or, ap, arith, refl, Some}
use Rattle.std.proofs.lemmas.Option.{slice_get_read}
use Rattle.std.specs.Prelude.{Result, slice_get}
use Rattle.array_store.specs.Follows.{none}
use Rattle.apl_compile.specs.declared.codes.Instruction.{Instruction}
use Rattle.apl_compile.specs.declared.codes.Op.TheVariants as op
use Rattle.calling_steps.specs.declared.flows.Flow.{Flow}
use Rattle.machine_state.specs.StandsFor.{IsLawfulMachine}
use Rattle.d_machine.specs.declared.breaks.Break.{Break}
use Rattle.d_machine.specs.Answers.{Scene}
use Rattle.d_machine.specs.Running.{scene, break_of, RunsCode, UnlessCutOff}
use Rattle.d_machine.proofs.Arrivals.{arrives_break, arrives_end, arrives_first, arrives_next, end_below, end_high, end_low, left_at_end, ready}
use Rattle.entry_steps.specs.Sound.{HasLawfulLiteral}
use Rattle.entry_steps.proofs.EntryLemmas.{not_computed}
use Rattle.d_machine.proofs.LiteralLemmas.{all_there}
use Rattle.d_machine.proofs.PerformLemmas.{err_so, lawful_error, true_false}
use Rattle.d_machine.proofs.RunLemmas.{count_of_run, halts, reached_error, stays_counted, stays_itself, stays_then}
use Rattle.d_machine.proofs.+run.Goals as goal
use Rattle.d_machine.proofs.+run.Goals.{running::run_code-in-End, running::run_code-in_default}

pub run_code-loop-instruction-init : goal.running::run_code-loop-instruction-init
run_code-loop-instruction-init g t c =
    let old : Scene = scene c.args.machine.now (g.O.Sink.written c.args.out.now) (g.O.Sink.faults c.args.out.now) (g.T.Sink.written c.args.trace.now) (g.T.Sink.faults c.args.trace.now) in
    record {
      arrives = arrives_first c.args.program.now c.len-base.result c.args.code.now.instructions old c.requires.code.lawful c.len-base.ensures.value c.requires.below;
      items = c.as_slice-instruction-items.ensures;
      lawful = c.requires.lawful;
      turns = refl;
      stays = stays_itself old;
    }

pub run_code-finish-requires-clause-base : goal.running::run_code-finish-requires-clause-base
run_code-finish-requires-clause-base g t c =
    let old : Scene = scene c.args.machine.now (g.O.Sink.written c.args.out.now) (g.O.Sink.faults c.args.out.now) (g.T.Sink.written c.args.trace.now) (g.T.Sink.faults c.args.trace.now) in
    let now : Scene = scene c.loop-instruction.machine (g.O.Sink.written c.loop-instruction.out) (g.O.Sink.faults c.loop-instruction.out) (g.T.Sink.written c.loop-instruction.trace) (g.T.Sink.faults c.loop-instruction.trace) in
    let code : List Instruction = c.args.code.now.instructions in
    let k = c.loop-instruction.instruction-index in
    let i : Instruction = c.instruction-item.result in
    let within : k < length code = omega (arith, c.loop-instruction-test.true, ap length c.loop-instruction.invariant.items) in
    let item : i ≡ get_or code k i = c.instruction-item.is ∙ ap (λ (xs : List Instruction). get_or xs k i) c.loop-instruction.invariant.items in
    let is_end : i.op ≡ op.End = elim c.match-matches.branch [ running::run_code-in-End w ↦ w.in-End.is | running::run_code-in_default w ↦ absurd (true_false c.match-matches.matches c.if-matches.true w.matches-is) ] in
    end_low c.args.program.now c.len-base.result code k c.loop-instruction.to old now i c.loop-instruction.invariant.arrives within item is_end

pub run_code-finish-requires-clause-one : goal.running::run_code-finish-requires-clause-one
run_code-finish-requires-clause-one g t c =
    let old : Scene = scene c.args.machine.now (g.O.Sink.written c.args.out.now) (g.O.Sink.faults c.args.out.now) (g.T.Sink.written c.args.trace.now) (g.T.Sink.faults c.args.trace.now) in
    let now : Scene = scene c.loop-instruction.machine (g.O.Sink.written c.loop-instruction.out) (g.O.Sink.faults c.loop-instruction.out) (g.T.Sink.written c.loop-instruction.trace) (g.T.Sink.faults c.loop-instruction.trace) in
    let code : List Instruction = c.args.code.now.instructions in
    let k = c.loop-instruction.instruction-index in
    let i : Instruction = c.instruction-item.result in
    let within : k < length code = omega (arith, c.loop-instruction-test.true, ap length c.loop-instruction.invariant.items) in
    let item : i ≡ get_or code k i = c.instruction-item.is ∙ ap (λ (xs : List Instruction). get_or xs k i) c.loop-instruction.invariant.items in
    let is_end : i.op ≡ op.End = elim c.match-matches.branch [ running::run_code-in-End w ↦ w.in-End.is | running::run_code-in_default w ↦ absurd (true_false c.match-matches.matches c.if-matches.true w.matches-is) ] in
    end_high c.args.program.now c.len-base.result code k c.loop-instruction.to old now i c.loop-instruction.invariant.arrives within item is_end

pub run_code-finish-requires-clause-below : goal.running::run_code-finish-requires-clause-below
run_code-finish-requires-clause-below g t c =
    let old : Scene = scene c.args.machine.now (g.O.Sink.written c.args.out.now) (g.O.Sink.faults c.args.out.now) (g.T.Sink.written c.args.trace.now) (g.T.Sink.faults c.args.trace.now) in
    let now : Scene = scene c.loop-instruction.machine (g.O.Sink.written c.loop-instruction.out) (g.O.Sink.faults c.loop-instruction.out) (g.T.Sink.written c.loop-instruction.trace) (g.T.Sink.faults c.loop-instruction.trace) in
    let code : List Instruction = c.args.code.now.instructions in
    let k = c.loop-instruction.instruction-index in
    let i : Instruction = c.instruction-item.result in
    let within : k < length code = omega (arith, c.loop-instruction-test.true, ap length c.loop-instruction.invariant.items) in
    let item : i ≡ get_or code k i = c.instruction-item.is ∙ ap (λ (xs : List Instruction). get_or xs k i) c.loop-instruction.invariant.items in
    let is_end : i.op ≡ op.End = elim c.match-matches.branch [ running::run_code-in-End w ↦ w.in-End.is | running::run_code-in_default w ↦ absurd (true_false c.match-matches.matches c.if-matches.true w.matches-is) ] in
    end_below c.args.program.now c.len-base.result code k c.loop-instruction.to old now i c.loop-instruction.invariant.arrives within item is_end

pub run_code-returns-in_err-finish-clause-runs : goal.running::run_code-returns-in_err-finish-clause-runs
run_code-returns-in_err-finish-clause-runs g t c =
    let old : Scene = scene c.args.machine.now (g.O.Sink.written c.args.out.now) (g.O.Sink.faults c.args.out.now) (g.T.Sink.written c.args.trace.now) (g.T.Sink.faults c.args.trace.now) in
    let now : Scene = scene c.loop-instruction.machine (g.O.Sink.written c.loop-instruction.out) (g.O.Sink.faults c.loop-instruction.out) (g.T.Sink.written c.loop-instruction.trace) (g.T.Sink.faults c.loop-instruction.trace) in
    let new : Scene = record now { machine = c.finish.new.machine } in
    let code : List Instruction = c.args.code.now.instructions in
    let k = c.loop-instruction.instruction-index in
    let i : Instruction = c.instruction-item.result in
    let within : k < length code = omega (arith, c.loop-instruction-test.true, ap length c.loop-instruction.invariant.items) in
    let item : i ≡ get_or code k i = c.instruction-item.is ∙ ap (λ (xs : List Instruction). get_or xs k i) c.loop-instruction.invariant.items in
    let h = c.in_err-finish.field-0.0 in
    let same = count_of_run c.loop-instruction.machine c.finish.new.machine c.finish.ensures.run in
    err_so (λ (r : Result Flow Break). RunsCode c.args.program.now code old new r) c.from_residual.result (break_of h) c.from_residual.ensures.1 (record {
      answers = arrives_break c.args.program.now c.len-base.result code k c.loop-instruction.to old now i c.loop-instruction.invariant.arrives within item new (break_of h) c.requires.code.lawful
          (halts c.args.program.now c.len-base.result i now c.finish.new.machine c.loop-instruction.to h c.loop-instruction.invariant.lawful same (reached_error h _ c.in_err-finish.ensures.keeps)
          (not_computed i c.loop-instruction.machine h c.in_err-finish.ensures.halted));
      stays = stays_then old now new c.loop-instruction.invariant.stays (stays_counted now c.finish.new.machine same);
    })

pub run_code-returns-in_err-finish-clause-lawful : goal.running::run_code-returns-in_err-finish-clause-lawful
run_code-returns-in_err-finish-clause-lawful g t c =
    let h = c.in_err-finish.field-0.0 in
    err_so (λ (r : Result Flow Break). UnlessCutOff r (IsLawfulMachine c.finish.new.machine none)) c.from_residual.result (break_of h) c.from_residual.ensures.1
    (lawful_error Flow c.loop-instruction.machine c.finish.new.machine h c.loop-instruction.invariant.lawful (reached_error h _ c.in_err-finish.ensures.keeps))

pub run_code-returns-then-matches-clause-runs : goal.running::run_code-returns-then-matches-clause-runs
run_code-returns-then-matches-clause-runs g t c =
    let old : Scene = scene c.args.machine.now (g.O.Sink.written c.args.out.now) (g.O.Sink.faults c.args.out.now) (g.T.Sink.written c.args.trace.now) (g.T.Sink.faults c.args.trace.now) in
    let now : Scene = scene c.loop-instruction.machine (g.O.Sink.written c.loop-instruction.out) (g.O.Sink.faults c.loop-instruction.out) (g.T.Sink.written c.loop-instruction.trace) (g.T.Sink.faults c.loop-instruction.trace) in
    let new : Scene = record now { machine = c.finish.new.machine } in
    let code : List Instruction = c.args.code.now.instructions in
    let k = c.loop-instruction.instruction-index in
    let i : Instruction = c.instruction-item.result in
    let within : k < length code = omega (arith, c.loop-instruction-test.true, ap length c.loop-instruction.invariant.items) in
    let item : i ≡ get_or code k i = c.instruction-item.is ∙ ap (λ (xs : List Instruction). get_or xs k i) c.loop-instruction.invariant.items in
    let is_end : i.op ≡ op.End = elim c.match-matches.branch [ running::run_code-in-End w ↦ w.in-End.is | running::run_code-in_default w ↦ absurd (true_false c.match-matches.matches c.if-matches.true w.matches-is) ] in
    record {
      answers = arrives_end c.args.program.now c.len-base.result code k c.loop-instruction.to old now i c.loop-instruction.invariant.arrives within item is_end c.finish.new.machine
          c.loop-instruction.invariant.lawful c.finish.ensures.run c.in_ok-finish.ensures.keeps c.in_ok-finish.ensures.arrays;
      stays = stays_then old now new c.loop-instruction.invariant.stays (stays_counted now c.finish.new.machine (count_of_run c.loop-instruction.machine c.finish.new.machine c.finish.ensures.run));
    }

pub run_code-returns-then-matches-clause-below : goal.running::run_code-returns-then-matches-clause-below
run_code-returns-then-matches-clause-below g t c =
    let old : Scene = scene c.args.machine.now (g.O.Sink.written c.args.out.now) (g.O.Sink.faults c.args.out.now) (g.T.Sink.written c.args.trace.now) (g.T.Sink.faults c.args.trace.now) in
    let now : Scene = scene c.loop-instruction.machine (g.O.Sink.written c.loop-instruction.out) (g.O.Sink.faults c.loop-instruction.out) (g.T.Sink.written c.loop-instruction.trace) (g.T.Sink.faults c.loop-instruction.trace) in
    let code : List Instruction = c.args.code.now.instructions in
    let k = c.loop-instruction.instruction-index in
    let i : Instruction = c.instruction-item.result in
    let within : k < length code = omega (arith, c.loop-instruction-test.true, ap length c.loop-instruction.invariant.items) in
    let item : i ≡ get_or code k i = c.instruction-item.is ∙ ap (λ (xs : List Instruction). get_or xs k i) c.loop-instruction.invariant.items in
    let is_end : i.op ≡ op.End = elim c.match-matches.branch [ running::run_code-in-End w ↦ w.in-End.is | running::run_code-in_default w ↦ absurd (true_false c.match-matches.matches c.if-matches.true w.matches-is) ] in
    left_at_end c.args.program.now c.len-base.result code k c.loop-instruction.to old now i c.loop-instruction.invariant.arrives within item is_end c.finish.new.machine c.in_ok-finish.ensures.ends

pub run_code-returns-then-matches-clause-lawful : goal.running::run_code-returns-then-matches-clause-lawful
run_code-returns-then-matches-clause-lawful g t c = c.in_ok-finish.ensures.keeps.lawful none c.loop-instruction.invariant.lawful

pub run_code-returns-then-matches-clause-depth : goal.running::run_code-returns-then-matches-clause-depth
run_code-returns-then-matches-clause-depth g t c = ap (λ n. length n.frames) c.finish.ensures.run.names ∙ c.loop-instruction.invariant.arrives.depth

pub run_code-perform-requires : goal.running::run_code-perform-requires
run_code-perform-requires g t c =
    let old : Scene = scene c.args.machine.now (g.O.Sink.written c.args.out.now) (g.O.Sink.faults c.args.out.now) (g.T.Sink.written c.args.trace.now) (g.T.Sink.faults c.args.trace.now) in
    let now : Scene = scene c.loop-instruction.machine (g.O.Sink.written c.loop-instruction.out) (g.O.Sink.faults c.loop-instruction.out) (g.T.Sink.written c.loop-instruction.trace) (g.T.Sink.faults c.loop-instruction.trace) in
    let code : List Instruction = c.args.code.now.instructions in
    let k = c.loop-instruction.instruction-index in
    let i : Instruction = c.instruction-item.result in
    let within : k < length code = omega (arith, c.loop-instruction-test.true, ap length c.loop-instruction.invariant.items) in
    let item : i ≡ get_or code k i = c.instruction-item.is ∙ ap (λ (xs : List Instruction). get_or xs k i) c.loop-instruction.invariant.items in
    let is_ready = ready c.args.program.now c.len-base.result code k c.loop-instruction.to old now i c.loop-instruction.invariant.arrives within item in
    let there : slice_get code k ≡ Some i = slice_get_read code (length code) k i refl within item in
    let inner : ¬ (i.op ≡ op.End) = elim c.match-matches.branch [
      | running::run_code-in-End w ↦ absurd (true_false c.match-matches.matches w.matches-is c.if-matches.false)
      | running::run_code-in_default w ↦ w.in_default.not-End
    ] in
    let smaller : (257 - length c.loop-instruction.machine.names.frames) * 5 + 1 < t = omega (arith, c.decreases, c.loop-instruction.invariant.arrives.depth) in
    λ κs lives. (smaller, (lives.0, (lives.1, (c.requires.program, (inner, (all_there (λ (j : Instruction). HasLawfulLiteral j.op) code k i c.requires.code.literals there, (is_ready, (omega (arith, c.loop-instruction.invariant.turns, c.requires.turns), c.loop-instruction.invariant.lawful))))))))

pub run_code-returns-in_err-to-clause-runs : goal.running::run_code-returns-in_err-to-clause-runs
run_code-returns-in_err-to-clause-runs g t c =
    let old : Scene = scene c.args.machine.now (g.O.Sink.written c.args.out.now) (g.O.Sink.faults c.args.out.now) (g.T.Sink.written c.args.trace.now) (g.T.Sink.faults c.args.trace.now) in
    let now : Scene = scene c.loop-instruction.machine (g.O.Sink.written c.loop-instruction.out) (g.O.Sink.faults c.loop-instruction.out) (g.T.Sink.written c.loop-instruction.trace) (g.T.Sink.faults c.loop-instruction.trace) in
    let new : Scene = scene c.perform.new.machine (g.O.Sink.written c.perform.new.out) (g.O.Sink.faults c.perform.new.out) (g.T.Sink.written c.perform.new.trace) (g.T.Sink.faults c.perform.new.trace) in
    let code : List Instruction = c.args.code.now.instructions in
    let k = c.loop-instruction.instruction-index in
    let i : Instruction = c.instruction-item.result in
    let within : k < length code = omega (arith, c.loop-instruction-test.true, ap length c.loop-instruction.invariant.items) in
    let item : i ≡ get_or code k i = c.instruction-item.is ∙ ap (λ (xs : List Instruction). get_or xs k i) c.loop-instruction.invariant.items in
    let b = c.in_err-to.field-0.0 in
    err_so (λ (r : Result Flow Break). RunsCode c.args.program.now code old new r) c.from_residual-in_err-to.result b c.from_residual-in_err-to.ensures.1 (record {
      answers = arrives_break c.args.program.now c.len-base.result code k c.loop-instruction.to old now i c.loop-instruction.invariant.arrives within item new b c.requires.code.lawful c.in_err-to.ensures.answers;
      stays = stays_then old now new c.loop-instruction.invariant.stays c.perform.ensures.stays;
    })

pub run_code-returns-in_err-to-clause-lawful : goal.running::run_code-returns-in_err-to-clause-lawful
run_code-returns-in_err-to-clause-lawful g t c =
    let b = c.in_err-to.field-0.0 in
    err_so (λ (r : Result Flow Break). UnlessCutOff r (IsLawfulMachine c.perform.new.machine none)) c.from_residual-in_err-to.result b c.from_residual-in_err-to.ensures.1 c.in_err-to.ensures.lawful

pub run_code-loop-instruction-preserved : goal.running::run_code-loop-instruction-preserved
run_code-loop-instruction-preserved g t c =
    let old : Scene = scene c.args.machine.now (g.O.Sink.written c.args.out.now) (g.O.Sink.faults c.args.out.now) (g.T.Sink.written c.args.trace.now) (g.T.Sink.faults c.args.trace.now) in
    let now : Scene = scene c.loop-instruction.machine (g.O.Sink.written c.loop-instruction.out) (g.O.Sink.faults c.loop-instruction.out) (g.T.Sink.written c.loop-instruction.trace) (g.T.Sink.faults c.loop-instruction.trace) in
    let new : Scene = scene c.perform.new.machine (g.O.Sink.written c.perform.new.out) (g.O.Sink.faults c.perform.new.out) (g.T.Sink.written c.perform.new.trace) (g.T.Sink.faults c.perform.new.trace) in
    let code : List Instruction = c.args.code.now.instructions in
    let k = c.loop-instruction.instruction-index in
    let i : Instruction = c.instruction-item.result in
    let within : k < length code = omega (arith, c.loop-instruction-test.true, ap length c.loop-instruction.invariant.items) in
    let item : i ≡ get_or code k i = c.instruction-item.is ∙ ap (λ (xs : List Instruction). get_or xs k i) c.loop-instruction.invariant.items in
    record {
      arrives = arrives_next c.args.program.now c.len-base.result code k c.loop-instruction.to old now i c.loop-instruction.invariant.arrives within item new c.in_ok-to.to c.in_ok-to.ensures.call.depth c.in_ok-to.ensures.answers;
      items = c.loop-instruction.invariant.items;
      lawful = c.in_ok-to.ensures.lawful;
      turns = c.in_ok-to.ensures.call.turns ∙ c.loop-instruction.invariant.turns;
      stays = stays_then old now new c.loop-instruction.invariant.stays c.perform.ensures.stays;
    }
