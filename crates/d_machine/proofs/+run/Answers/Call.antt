use Rattle.std.proofs.Common.{◌≡◌, ◌+◌, ◌-◌, ◌*◌, ◌<◌, ◌≤◌, ◌∙◌, List, drop, length, Some, Ok, Err, sym, ap, subst, arith}
use Rattle.std.specs.Prelude.{OnOk, Result, slice_get}
use Rattle.std.specs.List.{IsDistinct}
use Rattle.std.specs.Option.{option_copied}
use Rattle.array_store.specs.Follows.{none}
use Rattle.apl_model.specs.declared.outlines.Outline.{Outline}
use Rattle.apl_model.specs.declared.outlines.OutlineBody.{OutlineBody}
use Rattle.apl_model.specs.declared.outlines.OutlineItem.{OutlineItem}
use Rattle.apl_model.specs.declared.outlines.OutlineItem.TheVariants as outline
use Rattle.apl_model.specs.Environment.{is_same_name}
use Rattle.apl_compile.specs.declared.codes.Instruction.{Instruction}
use Rattle.apl_compile.specs.declared.codes.Op.TheVariants as op
use Rattle.apl_compile.specs.declared.programs.Function.{Function}
use Rattle.apl_compile.specs.Running.{lines_with}
use Rattle.name_table.specs.Laws.{declared_by}
use Rattle.machine_state.specs.StandsFor.{IsLawfulMachine}
use Rattle.calling_steps.specs.Calls.{labels_in}
use Rattle.entry_steps.proofs.EntryLemmas.{as_many_pending}
use Rattle.d_machine.specs.declared.breaks.Break.{Break}
use Rattle.d_machine.specs.Answers.{Scene}
use Rattle.d_machine.specs.Calling.{AnswersCall, RunsLines}
use Rattle.d_machine.specs.Running.{scene, IsSameCall, UnlessCutOff, break_of}
use Rattle.d_machine.proofs.ArgumentLemmas.{call_found}
use Rattle.d_machine.proofs.CallLemmas.{Begins}
use Rattle.d_machine.proofs.CallingLemmas.{begins, call_breaks, call_lacks, call_needs, call_performs, call_returns, enter_halts, function_is, function_item, function_there, refuse_halts, result_lacks, result_there}
use Rattle.d_machine.proofs.PerformLemmas.{err_so, lawful_error}
use Rattle.d_machine.proofs.RunLemmas.{with_machine, count_of_run, stays_counted, stays_then}
use Rattle.d_machine.proofs.+run.Goals as goal

-- ---- a name that heads no definition

pub call-refuse-requires : goal.calling::call-refuse-requires
call-refuse-requires g t c =
    record { lawful = c.requires.lawful }

pub call-returns-in_default-clause-answers : goal.calling::call-returns-in_default-clause-answers
call-returns-in_default-clause-answers g t c =
    let old : Scene = scene c.args.machine.now (g.O.Sink.written c.args.out.now) (g.O.Sink.faults c.args.out.now) (g.T.Sink.written c.args.trace.now) (g.T.Sink.faults c.args.trace.now) in
    let i : Instruction = record { place = c.args.place; op = op.Call c.args.f.now c.args.arguments c.args.whole } in
    subst (λ (b : Break). AnswersCall c.args.program.now i old (with_machine old c.refuse.new.machine) (Err b)) (sym c.from.ensures)
    (refuse_halts c.args.program.now c.args.f.now c.args.arguments c.args.whole c.args.place old c.refuse.new.machine c.requires.lawful (count_of_run c.args.machine.now c.refuse.new.machine c.refuse.ensures.run) c.refuse.result c.refuse.ensures.keeps c.in_default.ensures c.refuse.ensures.halted)

pub call-returns-in_default-clause-stays : goal.calling::call-returns-in_default-clause-stays
call-returns-in_default-clause-stays g t c =
    let old : Scene = scene c.args.machine.now (g.O.Sink.written c.args.out.now) (g.O.Sink.faults c.args.out.now) (g.T.Sink.written c.args.trace.now) (g.T.Sink.faults c.args.trace.now) in
    stays_counted old c.refuse.new.machine (count_of_run c.args.machine.now c.refuse.new.machine c.refuse.ensures.run)

pub call-returns-in_default-clause-lawful : goal.calling::call-returns-in_default-clause-lawful
call-returns-in_default-clause-lawful g t c =
    subst (λ (b : Break). UnlessCutOff {A = Unit {0}} (Err b) (IsLawfulMachine c.refuse.new.machine none)) (sym c.from.ensures) (lawful_error (Unit {0}) c.args.machine.now c.refuse.new.machine c.refuse.result c.requires.lawful c.refuse.ensures.keeps)

pub call-unreachable-requires : goal.calling::call-unreachable-requires
call-unreachable-requires g t c =
    function_there c.args.program.now c.args.f.now c.in-Some.function c.in-Some.ensures
    (ap (λ (o : Outline). slice_get o.items c.in-Some.function.item) (sym c.outline.ensures) ∙ sym c.get.ensures.value ∙ ap option_copied c.in_default-get.is)

pub call-unreachable-unreachable : goal.calling::call-unreachable-unreachable
call-unreachable-unreachable g t c = c.unreachable.result

pub call-unreachable-requires-in_default-item : goal.calling::call-unreachable-requires-in_default-item
call-unreachable-requires-in_default-item g t c =
    let is = function_item c.args.program.now c.args.f.now c.in-Some.function c.in-Some-get.item.now c.in-Some.ensures
    (ap (λ (o : Outline). slice_get o.items c.in-Some.function.item) (sym c.outline.ensures) ∙ sym c.get.ensures.value ∙ ap option_copied c.in-Some-get.is) in
    c.in_default-item.not-Definition c.in-Some.ensures.opened c.in-Some.ensures.closed c.in-Some.ensures.header c.in-Some.ensures.body is

pub call-unreachable-unreachable-in_default-item : goal.calling::call-unreachable-unreachable-in_default-item
call-unreachable-unreachable-in_default-item g t c = c.unreachable-in_default-item.result

-- ---- the call begins

pub call-enter-requires-clause-arguments : goal.calling::call-enter-requires-clause-arguments
call-enter-requires-clause-arguments g t c =
    let ready = c.requires.ready.1 in
    let finds = call_found c.args.f.now c.args.arguments c.args.whole ready.before.found ready.next ready.mine ready.before.many ready.before.leaves in
    finds.few

pub call-enter-requires-clause-operands : goal.calling::call-enter-requires-clause-operands
call-enter-requires-clause-operands g t c =
    let ready = c.requires.ready.1 in
    let finds = call_found c.args.f.now c.args.arguments c.args.whole ready.before.found ready.next ready.mine ready.before.many ready.before.leaves in
    omega (arith, finds.enough, as_many_pending c.args.machine.now ready.below ready.mine ready.before.all)

pub call-enter-requires-clause-lawful : goal.calling::call-enter-requires-clause-lawful
call-enter-requires-clause-lawful g t c =
    (none, c.requires.lawful)

pub call-enter-requires-clause-distinct : goal.calling::call-enter-requires-clause-distinct
call-enter-requires-clause-distinct g t c =
    let fn : Function = c.in-Some.function in
    let there : slice_get c.args.program.now.outline.items fn.item ≡ Some (outline.Definition c.in-Definition.opened c.in-Definition.closed c.in-Definition.header c.in-Definition.body) =
    ap (λ (o : Outline). slice_get o.items fn.item) (sym c.outline.ensures) ∙ sym c.get.ensures.value ∙ ap option_copied c.in-Some-get.is ∙ ap (λ (x : OutlineItem). Some x) c.in-Definition.is in
    let found = function_is c.args.program.now c.args.f.now fn c.in-Definition.opened c.in-Definition.closed c.in-Definition.header c.in-Definition.body c.in-Some.ensures there in
    subst (λ (b : List OutlineBody). IsDistinct is_same_name (declared_by c.in-Definition.header (labels_in b))) (sym c.as_slice.ensures)
    (c.requires.program.definitions fn.item c.in-Definition.opened c.in-Definition.closed c.in-Definition.header c.in-Definition.body there)

pub call-returns-in_err-enter-clause-answers : goal.calling::call-returns-in_err-enter-clause-answers
call-returns-in_err-enter-clause-answers g t c =
    let old : Scene = scene c.args.machine.now (g.O.Sink.written c.args.out.now) (g.O.Sink.faults c.args.out.now) (g.T.Sink.written c.args.trace.now) (g.T.Sink.faults c.args.trace.now) in
    let i : Instruction = record { place = c.args.place; op = op.Call c.args.f.now c.args.arguments c.args.whole } in
    let h = c.in_err-enter.field-0.0 in
    err_so (λ (r : Result (Unit {0}) Break). AnswersCall c.args.program.now i old (with_machine old c.enter.new.machine) r) c.from_residual.result (break_of h) c.from_residual.ensures.1
    (enter_halts c.args.program.now c.args.f.now c.args.arguments c.args.whole c.args.place old c.enter.new.machine c.requires.lawful c.enter.ensures.run h c.in_err-enter.ensures.keeps c.in_err-enter.ensures.halted)

pub call-returns-in_err-enter-clause-stays : goal.calling::call-returns-in_err-enter-clause-stays
call-returns-in_err-enter-clause-stays g t c =
    let old : Scene = scene c.args.machine.now (g.O.Sink.written c.args.out.now) (g.O.Sink.faults c.args.out.now) (g.T.Sink.written c.args.trace.now) (g.T.Sink.faults c.args.trace.now) in
    stays_counted old c.enter.new.machine c.enter.ensures.run

pub call-returns-in_err-enter-clause-lawful : goal.calling::call-returns-in_err-enter-clause-lawful
call-returns-in_err-enter-clause-lawful g t c =
    let h = c.in_err-enter.field-0.0 in
    err_so (λ (r : Result (Unit {0}) Break). UnlessCutOff r (IsLawfulMachine c.enter.new.machine none)) c.from_residual.result (break_of h) c.from_residual.ensures.1 (lawful_error (Unit {0}) c.args.machine.now c.enter.new.machine h c.requires.lawful c.in_err-enter.ensures.keeps)

pub call-returns-in_err-enter-clause-call : goal.calling::call-returns-in_err-enter-clause-call
call-returns-in_err-enter-clause-call g t c =
    let h = c.in_err-enter.field-0.0 in
    err_so (λ (r : Result (Unit {0}) Break). OnOk r (IsSameCall c.args.machine.now c.enter.new.machine)) c.from_residual.result (break_of h) c.from_residual.ensures.1 tt

-- ---- its lines are run

pub call-run_lines-requires : goal.calling::call-run_lines-requires
call-run_lines-requires g t c =
    let fn : Function = c.in-Some.function in
    let there : slice_get c.args.program.now.outline.items fn.item ≡ Some (outline.Definition c.in-Definition.opened c.in-Definition.closed c.in-Definition.header c.in-Definition.body) =
    ap (λ (o : Outline). slice_get o.items fn.item) (sym c.outline.ensures) ∙ sym c.get.ensures.value ∙ ap option_copied c.in-Some-get.is ∙ ap (λ (x : OutlineItem). Some x) c.in-Definition.is in
    let found = function_is c.args.program.now c.args.f.now fn c.in-Definition.opened c.in-Definition.closed c.in-Definition.header c.in-Definition.body c.in-Some.ensures there in
    let codes = subst (λ (b : List OutlineBody). fn.code + length b ≤ length c.args.program.now.codes) (sym c.as_slice-2.ensures) found.0 in
    let smaller : (257 - length c.enter.new.machine.names.frames) * 5 + 4 < t = omega (arith, c.decreases, c.in_ok-enter.ensures.enters.depth, c.in_ok-enter.ensures.pending) in
    λ κs lives. (smaller, (lives.0, (lives.1, (c.requires.program, (codes, ((c.in_ok-enter.ensures.enters.older, c.in_ok-enter.ensures.enters.are), (omega (arith, c.requires.turns, c.enter.ensures.run.turns, c.enter.ensures.run.begun), c.in_ok-enter.ensures.enters.lawful none c.requires.lawful)))))))

pub call-returns-in_err-run_lines-clause-answers : goal.calling::call-returns-in_err-run_lines-clause-answers
call-returns-in_err-run_lines-clause-answers g t c =
    let old : Scene = scene c.args.machine.now (g.O.Sink.written c.args.out.now) (g.O.Sink.faults c.args.out.now) (g.T.Sink.written c.args.trace.now) (g.T.Sink.faults c.args.trace.now) in
    let mid : Scene = scene c.run_lines.new.machine (g.O.Sink.written c.run_lines.new.out) (g.O.Sink.faults c.run_lines.new.out) (g.T.Sink.written c.run_lines.new.trace) (g.T.Sink.faults c.run_lines.new.trace) in
    let i : Instruction = record { place = c.args.place; op = op.Call c.args.f.now c.args.arguments c.args.whole } in
    let fn : Function = c.in-Some.function in
    let there : slice_get c.args.program.now.outline.items fn.item ≡ Some (outline.Definition c.in-Definition.opened c.in-Definition.closed c.in-Definition.header c.in-Definition.body) =
    ap (λ (o : Outline). slice_get o.items fn.item) (sym c.outline.ensures) ∙ sym c.get.ensures.value ∙ ap option_copied c.in-Some-get.is ∙ ap (λ (x : OutlineItem). Some x) c.in-Definition.is in
    let found = function_is c.args.program.now c.args.f.now fn c.in-Definition.opened c.in-Definition.closed c.in-Definition.header c.in-Definition.body c.in-Some.ensures there in
    let begun : Begins c.args.program.now c.args.f.now c.args.arguments old c.enter.new.machine =
    begins c.args.program.now c.args.f.now c.args.arguments old c.enter.new.machine fn.code c.in-Definition.header c.in-Definition.body c.as_slice.result.now c.as_slice.ensures found c.in_ok-enter.ensures.pending c.requires.lawful c.in_ok-enter.ensures.enters c.enter.ensures.run in
    let b = c.in_err-run_lines.field-0.0 in
    let lines : RunsLines c.args.program.now (lines_with c.in-Definition.body (drop fn.code c.args.program.now.codes)) (with_machine old c.enter.new.machine) mid (Err b) =
    subst (λ (ls : List OutlineBody). RunsLines c.args.program.now (lines_with ls (drop fn.code c.args.program.now.codes)) (with_machine old c.enter.new.machine) mid (Err b)) c.as_slice-2.ensures c.in_err-run_lines.ensures.lines in
    err_so (λ (r : Result (Unit {0}) Break). AnswersCall c.args.program.now i old mid r) c.from_residual-in_err-run_lines.result b c.from_residual-in_err-run_lines.ensures.1
    (call_breaks c.args.program.now c.args.f.now c.args.arguments c.args.whole c.args.place old mid c.enter.new.machine begun b lines)

pub call-returns-in_err-run_lines-clause-stays : goal.calling::call-returns-in_err-run_lines-clause-stays
call-returns-in_err-run_lines-clause-stays g t c =
    let old : Scene = scene c.args.machine.now (g.O.Sink.written c.args.out.now) (g.O.Sink.faults c.args.out.now) (g.T.Sink.written c.args.trace.now) (g.T.Sink.faults c.args.trace.now) in
    let mid : Scene = scene c.run_lines.new.machine (g.O.Sink.written c.run_lines.new.out) (g.O.Sink.faults c.run_lines.new.out) (g.T.Sink.written c.run_lines.new.trace) (g.T.Sink.faults c.run_lines.new.trace) in
    stays_then old (with_machine old c.enter.new.machine) mid (stays_counted old c.enter.new.machine c.enter.ensures.run) c.in_err-run_lines.ensures.lines.stays

pub call-returns-in_err-run_lines-clause-lawful : goal.calling::call-returns-in_err-run_lines-clause-lawful
call-returns-in_err-run_lines-clause-lawful g t c =
    let b = c.in_err-run_lines.field-0.0 in
    err_so (λ (r : Result (Unit {0}) Break). UnlessCutOff r (IsLawfulMachine c.run_lines.new.machine none)) c.from_residual-in_err-run_lines.result b c.from_residual-in_err-run_lines.ensures.1 c.in_err-run_lines.ensures.lawful

pub call-returns-in_err-run_lines-clause-call : goal.calling::call-returns-in_err-run_lines-clause-call
call-returns-in_err-run_lines-clause-call g t c =
    let b = c.in_err-run_lines.field-0.0 in
    err_so (λ (r : Result (Unit {0}) Break). OnOk r (IsSameCall c.args.machine.now c.run_lines.new.machine)) c.from_residual-in_err-run_lines.result b c.from_residual-in_err-run_lines.ensures.1 tt

-- ---- it ends

pub call-leave-requires-clause-frame : goal.calling::call-leave-requires-clause-frame
call-leave-requires-clause-frame g t c =
    omega (arith, c.in_ok-run_lines.ensures.call.depth, c.in_ok-enter.ensures.enters.depth)

pub call-leave-requires-clause-lawful : goal.calling::call-leave-requires-clause-lawful
call-leave-requires-clause-lawful g t c =
    (none, λ key. omega arith, c.in_ok-run_lines.ensures.lawful)

pub call-returns-in_default-leave-clause-answers : goal.calling::call-returns-in_default-leave-clause-answers
call-returns-in_default-leave-clause-answers g t c =
    let old : Scene = scene c.args.machine.now (g.O.Sink.written c.args.out.now) (g.O.Sink.faults c.args.out.now) (g.T.Sink.written c.args.trace.now) (g.T.Sink.faults c.args.trace.now) in
    let mid : Scene = scene c.run_lines.new.machine (g.O.Sink.written c.run_lines.new.out) (g.O.Sink.faults c.run_lines.new.out) (g.T.Sink.written c.run_lines.new.trace) (g.T.Sink.faults c.run_lines.new.trace) in
    let fn : Function = c.in-Some.function in
    let there : slice_get c.args.program.now.outline.items fn.item ≡ Some (outline.Definition c.in-Definition.opened c.in-Definition.closed c.in-Definition.header c.in-Definition.body) =
    ap (λ (o : Outline). slice_get o.items fn.item) (sym c.outline.ensures) ∙ sym c.get.ensures.value ∙ ap option_copied c.in-Some-get.is ∙ ap (λ (x : OutlineItem). Some x) c.in-Definition.is in
    let found = function_is c.args.program.now c.args.f.now fn c.in-Definition.opened c.in-Definition.closed c.in-Definition.header c.in-Definition.body c.in-Some.ensures there in
    let begun : Begins c.args.program.now c.args.f.now c.args.arguments old c.enter.new.machine =
    begins c.args.program.now c.args.f.now c.args.arguments old c.enter.new.machine fn.code c.in-Definition.header c.in-Definition.body c.as_slice.result.now c.as_slice.ensures found c.in_ok-enter.ensures.pending c.requires.lawful c.in_ok-enter.ensures.enters c.enter.ensures.run in
    let lines : RunsLines c.args.program.now (lines_with c.in-Definition.body (drop fn.code c.args.program.now.codes)) (with_machine old c.enter.new.machine) mid (Ok tt) =
    subst (λ (ls : List OutlineBody). RunsLines c.args.program.now (lines_with ls (drop fn.code c.args.program.now.codes)) (with_machine old c.enter.new.machine) mid (Ok tt)) c.as_slice-2.ensures c.in_ok-run_lines.ensures.lines in
    call_lacks c.args.program.now c.args.f.now c.args.arguments c.args.whole c.args.place old mid c.enter.new.machine begun lines c.in_ok-run_lines.ensures.below c.in_ok-run_lines.ensures.lawful c.leave.new.machine c.leave.ensures.run

pub call-returns-in_default-leave-clause-stays : goal.calling::call-returns-in_default-leave-clause-stays
call-returns-in_default-leave-clause-stays g t c =
    let old : Scene = scene c.args.machine.now (g.O.Sink.written c.args.out.now) (g.O.Sink.faults c.args.out.now) (g.T.Sink.written c.args.trace.now) (g.T.Sink.faults c.args.trace.now) in
    let mid : Scene = scene c.run_lines.new.machine (g.O.Sink.written c.run_lines.new.out) (g.O.Sink.faults c.run_lines.new.out) (g.T.Sink.written c.run_lines.new.trace) (g.T.Sink.faults c.run_lines.new.trace) in
    stays_then old mid (with_machine mid c.leave.new.machine)
    (stays_then old (with_machine old c.enter.new.machine) mid (stays_counted old c.enter.new.machine c.enter.ensures.run) c.in_ok-run_lines.ensures.lines.stays)
    (stays_counted mid c.leave.new.machine c.leave.ensures.run)

pub call-returns-then-given-clause-answers : goal.calling::call-returns-then-given-clause-answers
call-returns-then-given-clause-answers g t c =
    let old : Scene = scene c.args.machine.now (g.O.Sink.written c.args.out.now) (g.O.Sink.faults c.args.out.now) (g.T.Sink.written c.args.trace.now) (g.T.Sink.faults c.args.trace.now) in
    let mid : Scene = scene c.run_lines.new.machine (g.O.Sink.written c.run_lines.new.out) (g.O.Sink.faults c.run_lines.new.out) (g.T.Sink.written c.run_lines.new.trace) (g.T.Sink.faults c.run_lines.new.trace) in
    let fn : Function = c.in-Some.function in
    let there : slice_get c.args.program.now.outline.items fn.item ≡ Some (outline.Definition c.in-Definition.opened c.in-Definition.closed c.in-Definition.header c.in-Definition.body) =
    ap (λ (o : Outline). slice_get o.items fn.item) (sym c.outline.ensures) ∙ sym c.get.ensures.value ∙ ap option_copied c.in-Some-get.is ∙ ap (λ (x : OutlineItem). Some x) c.in-Definition.is in
    let found = function_is c.args.program.now c.args.f.now fn c.in-Definition.opened c.in-Definition.closed c.in-Definition.header c.in-Definition.body c.in-Some.ensures there in
    let begun : Begins c.args.program.now c.args.f.now c.args.arguments old c.enter.new.machine =
    begins c.args.program.now c.args.f.now c.args.arguments old c.enter.new.machine fn.code c.in-Definition.header c.in-Definition.body c.as_slice.result.now c.as_slice.ensures found c.in_ok-enter.ensures.pending c.requires.lawful c.in_ok-enter.ensures.enters c.enter.ensures.run in
    let lines : RunsLines c.args.program.now (lines_with c.in-Definition.body (drop fn.code c.args.program.now.codes)) (with_machine old c.enter.new.machine) mid (Ok tt) =
    subst (λ (ls : List OutlineBody). RunsLines c.args.program.now (lines_with ls (drop fn.code c.args.program.now.codes)) (with_machine old c.enter.new.machine) mid (Ok tt)) c.as_slice-2.ensures c.in_ok-run_lines.ensures.lines in
    call_performs c.args.program.now c.args.f.now c.args.arguments c.args.whole c.args.place old mid c.enter.new.machine begun lines c.in_ok-run_lines.ensures.below c.in_ok-run_lines.ensures.lawful c.leave.new.machine c.leave.ensures.run c.in-Ok.ensures.leaves (result_there c.in-Ok.given c.args.whole _ c.then-given.either c.in-Ok.ensures.given)

pub call-returns-then-given-clause-stays : goal.calling::call-returns-then-given-clause-stays
call-returns-then-given-clause-stays g t c =
    let old : Scene = scene c.args.machine.now (g.O.Sink.written c.args.out.now) (g.O.Sink.faults c.args.out.now) (g.T.Sink.written c.args.trace.now) (g.T.Sink.faults c.args.trace.now) in
    let mid : Scene = scene c.run_lines.new.machine (g.O.Sink.written c.run_lines.new.out) (g.O.Sink.faults c.run_lines.new.out) (g.T.Sink.written c.run_lines.new.trace) (g.T.Sink.faults c.run_lines.new.trace) in
    stays_then old mid (with_machine mid c.leave.new.machine)
    (stays_then old (with_machine old c.enter.new.machine) mid (stays_counted old c.enter.new.machine c.enter.ensures.run) c.in_ok-run_lines.ensures.lines.stays)
    (stays_counted mid c.leave.new.machine c.leave.ensures.run)

pub call-returns-then-given-clause-lawful : goal.calling::call-returns-then-given-clause-lawful
call-returns-then-given-clause-lawful g t c =
    c.in-Ok.ensures.leaves.lawful none c.in_ok-run_lines.ensures.lawful

pub call-returns-then-given-clause-call : goal.calling::call-returns-then-given-clause-call
call-returns-then-given-clause-call g t c =
    call_returns c.args.machine.now c.enter.new.machine c.run_lines.new.machine c.leave.new.machine _ c.in_ok-enter.ensures.enters.depth c.enter.ensures.run c.in_ok-run_lines.ensures.call c.in-Ok.ensures.leaves c.leave.ensures.run

pub call-returns-clause-answers : goal.calling::call-returns-clause-answers
call-returns-clause-answers g t c =
    let old : Scene = scene c.args.machine.now (g.O.Sink.written c.args.out.now) (g.O.Sink.faults c.args.out.now) (g.T.Sink.written c.args.trace.now) (g.T.Sink.faults c.args.trace.now) in
    let mid : Scene = scene c.run_lines.new.machine (g.O.Sink.written c.run_lines.new.out) (g.O.Sink.faults c.run_lines.new.out) (g.T.Sink.written c.run_lines.new.trace) (g.T.Sink.faults c.run_lines.new.trace) in
    let fn : Function = c.in-Some.function in
    let there : slice_get c.args.program.now.outline.items fn.item ≡ Some (outline.Definition c.in-Definition.opened c.in-Definition.closed c.in-Definition.header c.in-Definition.body) =
    ap (λ (o : Outline). slice_get o.items fn.item) (sym c.outline.ensures) ∙ sym c.get.ensures.value ∙ ap option_copied c.in-Some-get.is ∙ ap (λ (x : OutlineItem). Some x) c.in-Definition.is in
    let found = function_is c.args.program.now c.args.f.now fn c.in-Definition.opened c.in-Definition.closed c.in-Definition.header c.in-Definition.body c.in-Some.ensures there in
    let begun : Begins c.args.program.now c.args.f.now c.args.arguments old c.enter.new.machine =
    begins c.args.program.now c.args.f.now c.args.arguments old c.enter.new.machine fn.code c.in-Definition.header c.in-Definition.body c.as_slice.result.now c.as_slice.ensures found c.in_ok-enter.ensures.pending c.requires.lawful c.in_ok-enter.ensures.enters c.enter.ensures.run in
    let lines : RunsLines c.args.program.now (lines_with c.in-Definition.body (drop fn.code c.args.program.now.codes)) (with_machine old c.enter.new.machine) mid (Ok tt) =
    subst (λ (ls : List OutlineBody). RunsLines c.args.program.now (lines_with ls (drop fn.code c.args.program.now.codes)) (with_machine old c.enter.new.machine) mid (Ok tt)) c.as_slice-2.ensures c.in_ok-run_lines.ensures.lines in
    call_needs c.args.program.now c.args.f.now c.args.arguments c.args.whole c.args.place old mid c.enter.new.machine begun lines c.in_ok-run_lines.ensures.below c.in_ok-run_lines.ensures.lawful c.leave.new.machine c.leave.ensures.run c.in-Ok.ensures.leaves c.if-whole.false (result_lacks c.in-Ok.given _ c.if-given.false c.in-Ok.ensures.given)

pub call-returns-clause-stays : goal.calling::call-returns-clause-stays
call-returns-clause-stays g t c =
    let old : Scene = scene c.args.machine.now (g.O.Sink.written c.args.out.now) (g.O.Sink.faults c.args.out.now) (g.T.Sink.written c.args.trace.now) (g.T.Sink.faults c.args.trace.now) in
    let mid : Scene = scene c.run_lines.new.machine (g.O.Sink.written c.run_lines.new.out) (g.O.Sink.faults c.run_lines.new.out) (g.T.Sink.written c.run_lines.new.trace) (g.T.Sink.faults c.run_lines.new.trace) in
    stays_then old mid (with_machine mid c.leave.new.machine)
    (stays_then old (with_machine old c.enter.new.machine) mid (stays_counted old c.enter.new.machine c.enter.ensures.run) c.in_ok-run_lines.ensures.lines.stays)
    (stays_counted mid c.leave.new.machine c.leave.ensures.run)

pub call-returns-clause-lawful : goal.calling::call-returns-clause-lawful
call-returns-clause-lawful g t c =
    c.in-Ok.ensures.leaves.lawful none c.in_ok-run_lines.ensures.lawful
