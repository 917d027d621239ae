use Rattle.std.proofs.Common.{◌≡◌, ℕ, get_or, ◌+◌, ◌-◌, ◌*◌, ◌<◌, ◌∙◌, ℤ, List, drop, length, Some, sym, ap, subst, arith}
use Rattle.std.proofs.lemmas.Option.{slice_get-get_or}
use Rattle.std.specs.Prelude.{Result, slice_get}
use Rattle.std.specs.Option.{option_copied}
use Rattle.array_desc.proofs.Walks.{cell_is}
use Rattle.apl_model.specs.declared.outlines.OutlineBody.{OutlineBody}
use Rattle.apl_model.specs.Call.{RoutineLine, next_line}
use Rattle.apl_compile.specs.declared.codes.Code.{Code}
use Rattle.apl_compile.specs.Running.{lines_with}
use Rattle.calling_steps.specs.Branches.{flow_of}
use Rattle.entry_steps.specs.Sound.{IsSoundCode}
use Rattle.d_machine.specs.declared.breaks.Break.{Break}
use Rattle.d_machine.specs.Answers.{Scene}
use Rattle.d_machine.specs.Calling.{RunsLines}
use Rattle.d_machine.specs.Running.{scene}
use Rattle.d_machine.proofs.LineLemmas.{LinesAt, line_there, lines_break, lines_done, lines_next, lines_stop, no_line_there, none_within, turn_less}
use Rattle.d_machine.proofs.LiteralLemmas.{all_there}
use Rattle.d_machine.proofs.PerformLemmas.{err_so}
use Rattle.d_machine.proofs.RunLemmas.{stays_then}
use Rattle.d_machine.proofs.+run.Goals as goal

pub run_lines-returns-in_default-checked_add-clause-lines : goal.lines::run_lines-returns-in_default-checked_add-clause-lines
run_lines-returns-in_default-checked_add-clause-lines g t c =
    let old : Scene = scene c.args.machine.now (g.O.Sink.written c.args.out.now) (g.O.Sink.faults c.args.out.now) (g.T.Sink.written c.args.trace.now) (g.T.Sink.faults c.args.trace.now) in
    let now : Scene = scene c.loop-at.machine (g.O.Sink.written c.loop-at.out) (g.O.Sink.faults c.loop-at.out) (g.T.Sink.written c.loop-at.trace) (g.T.Sink.faults c.loop-at.trace) in
    record { answers = lines_stop c.args.program.now (lines_with c.args.body.now (drop c.args.first c.args.program.now.codes)) _ old now c.loop-at.invariant.lines; stays = c.loop-at.invariant.stays }

pub run_lines-unreachable-requires : goal.lines::run_lines-unreachable-requires
run_lines-unreachable-requires g t c =
    none_within c.args.program.now.codes c.in-Some-checked_add.number (sym c.code.ensures ∙ ap option_copied c.in_default-code.is) (omega (arith, c.in-Some-checked_add.ensures.1, c.in-Some.ensures.1, c.requires.codes))

pub run_lines-turn-requires : goal.lines::run_lines-turn-requires
run_lines-turn-requires g t c =
    let sound = all_there (λ (x : Code). IsSoundCode x.instructions) c.args.program.now.codes c.in-Some-checked_add.number c.in-Some-code.code.now c.requires.program.codes (sym c.code.ensures ∙ ap option_copied c.in-Some-code.is) in
    let smaller : (257 - length c.loop-at.machine.names.frames) * 5 + 3 < t = omega (arith, c.decreases, c.loop-at.invariant.lines.depth) in
    λ κs lives. (smaller, (lives.0, (lives.1, (c.requires.program, (sound, ((c.requires.below.0, c.loop-at.invariant.below ∙ c.requires.below.1), (omega (arith, c.requires.turns, c.loop-at.invariant.turns), c.loop-at.invariant.lawful)))))))

pub run_lines-returns-in_err-to-clause-lines : goal.lines::run_lines-returns-in_err-to-clause-lines
run_lines-returns-in_err-to-clause-lines g t c =
    let old : Scene = scene c.args.machine.now (g.O.Sink.written c.args.out.now) (g.O.Sink.faults c.args.out.now) (g.T.Sink.written c.args.trace.now) (g.T.Sink.faults c.args.trace.now) in
    let now : Scene = scene c.loop-at.machine (g.O.Sink.written c.loop-at.out) (g.O.Sink.faults c.loop-at.out) (g.T.Sink.written c.loop-at.trace) (g.T.Sink.faults c.loop-at.trace) in
    let new : Scene = scene c.turn.new.machine (g.O.Sink.written c.turn.new.out) (g.O.Sink.faults c.turn.new.out) (g.T.Sink.written c.turn.new.trace) (g.T.Sink.faults c.turn.new.trace) in
    let codes : List Code = c.args.program.now.codes in
    let b0 : OutlineBody = get_or c.args.body.now c.in-Some.at c.index-body-at.result in
    let l : RoutineLine Code = record { line = b0.line; label = b0.label; statement = c.in-Some-code.code.now } in
    let found : slice_get codes (c.args.first + c.in-Some.at) ≡ Some c.in-Some-code.code.now =
    ap (λ (n : ℕ). slice_get codes n) (sym c.in-Some-checked_add.ensures.1) ∙ sym c.code.ensures ∙ ap option_copied c.in-Some-code.is in
    let there = line_there c.args.body.now codes c.args.first c.in-Some.at _ b0 c.in-Some-code.code.now c.in-Some.ensures.0 (slice_get-get_or c.args.body.now c.in-Some.at c.index-body-at.result c.in-Some.ensures.1) found in
    let b = c.in_err-to.field-0.0 in
    err_so (λ (r : Result (Unit {0}) Break). RunsLines c.args.program.now (lines_with c.args.body.now (drop c.args.first codes)) old new r) c.from_residual.result b c.from_residual.ensures.1 (record {
      answers = lines_break c.args.program.now (lines_with c.args.body.now (drop c.args.first codes)) _ old now c.loop-at.invariant.lines l b new there c.in_err-to.ensures.takes;
      stays = stays_then old now new c.loop-at.invariant.stays c.in_err-to.ensures.takes.stays;
    })

pub run_lines-loop-at-smaller : goal.lines::run_lines-loop-at-smaller
run_lines-loop-at-smaller g t c =
    let now : Scene = scene c.loop-at.machine (g.O.Sink.written c.loop-at.out) (g.O.Sink.faults c.loop-at.out) (g.T.Sink.written c.loop-at.trace) (g.T.Sink.faults c.loop-at.trace) in
    let new : Scene = scene c.turn.new.machine (g.O.Sink.written c.turn.new.out) (g.O.Sink.faults c.turn.new.out) (g.T.Sink.written c.turn.new.trace) (g.T.Sink.faults c.turn.new.trace) in
    let b0 : OutlineBody = get_or c.args.body.now c.in-Some.at c.index-body-at.result in
    let l : RoutineLine Code = record { line = b0.line; label = b0.label; statement = c.in-Some-code.code.now } in
    turn_less c.args.program.now l now new c.in_ok-to.to c.in_ok-to.ensures.takes

pub run_lines-loop-at-preserved : goal.lines::run_lines-loop-at-preserved
run_lines-loop-at-preserved g t c =
    let old : Scene = scene c.args.machine.now (g.O.Sink.written c.args.out.now) (g.O.Sink.faults c.args.out.now) (g.T.Sink.written c.args.trace.now) (g.T.Sink.faults c.args.trace.now) in
    let now : Scene = scene c.loop-at.machine (g.O.Sink.written c.loop-at.out) (g.O.Sink.faults c.loop-at.out) (g.T.Sink.written c.loop-at.trace) (g.T.Sink.faults c.loop-at.trace) in
    let new : Scene = scene c.turn.new.machine (g.O.Sink.written c.turn.new.out) (g.O.Sink.faults c.turn.new.out) (g.T.Sink.written c.turn.new.trace) (g.T.Sink.faults c.turn.new.trace) in
    let codes : List Code = c.args.program.now.codes in
    let lines : List (RoutineLine Code) = lines_with c.args.body.now (drop c.args.first codes) in
    let b0 : OutlineBody = get_or c.args.body.now c.in-Some.at c.index-body-at.result in
    let l : RoutineLine Code = record { line = b0.line; label = b0.label; statement = c.in-Some-code.code.now } in
    let found : slice_get codes (c.args.first + c.in-Some.at) ≡ Some c.in-Some-code.code.now =
    ap (λ (n : ℕ). slice_get codes n) (sym c.in-Some-checked_add.ensures.1) ∙ sym c.code.ensures ∙ ap option_copied c.in-Some-code.is in
    let there = line_there c.args.body.now codes c.args.first c.in-Some.at _ b0 c.in-Some-code.code.now c.in-Some.ensures.0 (slice_get-get_or c.args.body.now c.in-Some.at c.index-body-at.result c.in-Some.ensures.1) found in
    record {
      lines =
          subst (λ (z : ℤ). LinesAt c.args.program.now lines z old new)
          (ap (λ (n : ℤ). next_line n (flow_of c.in_ok-to.to)) c.in-Some.ensures.0 ∙ sym (cell_is c.number_after-next.result _ c.number_after-next.type_inv c.number_after-next.ensures))
          (lines_next c.args.program.now lines _ old now c.loop-at.invariant.lines l c.in_ok-to.to new there c.in_ok-to.ensures.depth c.in_ok-to.ensures.takes);
      stays = stays_then old now new c.loop-at.invariant.stays c.in_ok-to.ensures.takes.stays;
      below = c.in_ok-to.ensures.below ∙ c.loop-at.invariant.below;
      turns = omega (arith, c.loop-at.invariant.turns, c.in_ok-to.ensures.turns);
      lawful = c.in_ok-to.ensures.lawful;
    }

pub run_lines-returns-clause-lines : goal.lines::run_lines-returns-clause-lines
run_lines-returns-clause-lines g t c =
    let old : Scene = scene c.args.machine.now (g.O.Sink.written c.args.out.now) (g.O.Sink.faults c.args.out.now) (g.T.Sink.written c.args.trace.now) (g.T.Sink.faults c.args.trace.now) in
    let now : Scene = scene c.loop-at.machine (g.O.Sink.written c.loop-at.out) (g.O.Sink.faults c.loop-at.out) (g.T.Sink.written c.loop-at.trace) (g.T.Sink.faults c.loop-at.trace) in
    record {
      answers = lines_done c.args.program.now (lines_with c.args.body.now (drop c.args.first c.args.program.now.codes)) _ old now c.loop-at.invariant.lines (no_line_there c.args.body.now (drop c.args.first c.args.program.now.codes) _ c.in_default.ensures);
      stays = c.loop-at.invariant.stays;
    }
