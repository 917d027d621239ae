use Rattle.std.proofs.Common.{ap, ◌∙◌, ◌≡◌, ◌+◌, ◌≤◌, arith, length, subst, sym, Ok, Err}
use Rattle.std.specs.Prelude.{Result}
use Rattle.array_store.specs.Follows.{none}
use Rattle.apl_compile.specs.declared.codes.Instruction.{Instruction}
use Rattle.apl_compile.specs.declared.codes.Op.{Op}
use Rattle.apl_compile.specs.declared.codes.Op.TheVariants as op
use Rattle.machine_state.specs.StandsFor.{IsLawfulMachine}
use Rattle.d_machine.specs.declared.breaks.Break.{Break}
use Rattle.calling_steps.specs.declared.flows.Flow.{Flow}
use Rattle.calling_steps.specs.declared.flows.Flow.TheVariants as flow
use Rattle.calling_steps.specs.declared.outputs.OutputHalt.TheVariants.{OutFault}
use Rattle.d_machine.specs.Answers.{Scene}
use Rattle.d_machine.specs.Running.{scene, break_of, break_of_output, AnswersInstruction, UnlessCutOff}
use Rattle.d_machine.proofs.AssignLemmas.{assign_depth, assign_performs}
use Rattle.entry_steps.proofs.ChangeLemmas.{at_op, enough}
use Rattle.entry_steps.proofs.CountLemmas.{counts_show}
use Rattle.entry_steps.proofs.EntryLemmas.{Counts, not_computed}
use Rattle.indexing_steps.specs.Operands.{positions_in}
use Rattle.d_machine.proofs.ReplaceLemmas.{counts_replace, replace_depth, replace_halts, replace_performs}
use Rattle.d_machine.proofs.PerformLemmas.{err_of, err_so, lawful_error, unless_always}
use Rattle.d_machine.proofs.RunLemmas.{count_of_run, entries_perform, halts, reached_error, same_call, same_turns, stays_counted}
use Rattle.d_machine.proofs.BranchLemmas.{branch_halts, branch_performs, counts_branch}
use Rattle.d_machine.proofs.OutputLemmas.{print_halts, print_performs, show_halts, show_performs, shown_scene, stays_shown}
use Rattle.d_machine.proofs.+run.Goals as goal

-- ---- entries

pub perform-returns-in_ok-change_entries-in-Lit-clause-call : goal.performing::perform-returns-in_ok-change_entries-in-Lit-clause-call
perform-returns-in_ok-change_entries-in-Lit-clause-call g t c = same_call c.args.machine.now c.change_entries.new.machine c.change_entries.ensures.run

pub perform-returns-in_ok-change_entries-in-Lit-clause-answers : goal.performing::perform-returns-in_ok-change_entries-in-Lit-clause-answers
perform-returns-in_ok-change_entries-in-Lit-clause-answers g t c =
    let old : Scene = scene c.args.machine.now (g.O.Sink.written c.args.out.now) (g.O.Sink.faults c.args.out.now) (g.T.Sink.written c.args.trace.now) (g.T.Sink.faults c.args.trace.now) in
    entries_perform c.args.program.now c.args.base c.args.instruction.now old c.change_entries.new.machine c.args.to c.requires.lawful c.change_entries.ensures.run
    c.in_ok-change_entries-in-Lit.ensures.keeps c.in_ok-change_entries-in-Lit.ensures.changes

pub perform-returns-in_ok-change_entries-in-Lit-clause-lawful : goal.performing::perform-returns-in_ok-change_entries-in-Lit-clause-lawful
perform-returns-in_ok-change_entries-in-Lit-clause-lawful g t c = c.in_ok-change_entries-in-Lit.ensures.keeps.lawful none c.requires.lawful

pub perform-returns-in_ok-change_entries-in-Lit-clause-stays : goal.performing::perform-returns-in_ok-change_entries-in-Lit-clause-stays
perform-returns-in_ok-change_entries-in-Lit-clause-stays g t c =
    let old : Scene = scene c.args.machine.now (g.O.Sink.written c.args.out.now) (g.O.Sink.faults c.args.out.now) (g.T.Sink.written c.args.trace.now) (g.T.Sink.faults c.args.trace.now) in
    stays_counted old c.change_entries.new.machine (count_of_run c.args.machine.now c.change_entries.new.machine c.change_entries.ensures.run)

pub perform-returns-in_err-change_entries-in-Lit-clause-answers : goal.performing::perform-returns-in_err-change_entries-in-Lit-clause-answers
perform-returns-in_err-change_entries-in-Lit-clause-answers g t c =
    let old : Scene = scene c.args.machine.now (g.O.Sink.written c.args.out.now) (g.O.Sink.faults c.args.out.now) (g.T.Sink.written c.args.trace.now) (g.T.Sink.faults c.args.trace.now) in
    let new : Scene = scene c.change_entries.new.machine (g.O.Sink.written c.args.out.now) (g.O.Sink.faults c.args.out.now) (g.T.Sink.written c.args.trace.now) (g.T.Sink.faults c.args.trace.now) in
    let h = c.in_err-change_entries-in-Lit.field-0.0 in
    err_so (λ (r : Result Flow Break). AnswersInstruction c.args.program.now c.args.base c.args.instruction.now old new c.args.to r) c.from_residual-in_err-change_entries-in-Lit.result (break_of h) c.from_residual-in_err-change_entries-in-Lit.ensures.1
    (halts c.args.program.now c.args.base c.args.instruction.now old c.change_entries.new.machine c.args.to h c.requires.lawful (count_of_run c.args.machine.now c.change_entries.new.machine c.change_entries.ensures.run)
    (reached_error h _ c.in_err-change_entries-in-Lit.ensures.keeps) c.in_err-change_entries-in-Lit.ensures.halted)

pub perform-returns-in_err-change_entries-in-Lit-clause-stays : goal.performing::perform-returns-in_err-change_entries-in-Lit-clause-stays
perform-returns-in_err-change_entries-in-Lit-clause-stays g t c =
    let old : Scene = scene c.args.machine.now (g.O.Sink.written c.args.out.now) (g.O.Sink.faults c.args.out.now) (g.T.Sink.written c.args.trace.now) (g.T.Sink.faults c.args.trace.now) in
    stays_counted old c.change_entries.new.machine (count_of_run c.args.machine.now c.change_entries.new.machine c.change_entries.ensures.run)

pub perform-returns-in_err-change_entries-in-Lit-clause-lawful : goal.performing::perform-returns-in_err-change_entries-in-Lit-clause-lawful
perform-returns-in_err-change_entries-in-Lit-clause-lawful g t c =
    let h = c.in_err-change_entries-in-Lit.field-0.0 in
    err_so (λ (r : Result Flow Break). UnlessCutOff r (IsLawfulMachine c.change_entries.new.machine none)) c.from_residual-in_err-change_entries-in-Lit.result (break_of h) c.from_residual-in_err-change_entries-in-Lit.ensures.1
    (lawful_error Flow c.args.machine.now c.change_entries.new.machine h c.requires.lawful (reached_error h _ c.in_err-change_entries-in-Lit.ensures.keeps))

-- ---- assignments

pub perform-returns-in_ok-assign-in-Asg-clause-call : goal.performing::perform-returns-in_ok-assign-in-Asg-clause-call
perform-returns-in_ok-assign-in-Asg-clause-call g t c = record { depth = assign_depth c.args.machine.now c.assign.new.self c.in-Asg.name c.requires.lawful c.in_ok-assign-in-Asg.ensures.assigns; turns = same_turns c.args.machine.now c.assign.new.self c.assign.ensures.run }

pub perform-returns-in_ok-assign-in-Asg-clause-answers : goal.performing::perform-returns-in_ok-assign-in-Asg-clause-answers
perform-returns-in_ok-assign-in-Asg-clause-answers g t c =
    let old : Scene = scene c.args.machine.now (g.O.Sink.written c.args.out.now) (g.O.Sink.faults c.args.out.now) (g.T.Sink.written c.args.trace.now) (g.T.Sink.faults c.args.trace.now) in
    let new : Scene = scene c.assign.new.self (g.O.Sink.written c.args.out.now) (g.O.Sink.faults c.args.out.now) (g.T.Sink.written c.args.trace.now) (g.T.Sink.faults c.args.trace.now) in
    at_op (λ (i : Instruction). AnswersInstruction c.args.program.now c.args.base i old new c.args.to (Ok c.args.to)) c.args.instruction.now (op.Asg c.in-Asg.name) c.in-Asg.is
    (assign_performs c.args.program.now c.args.base c.args.instruction.now.place c.in-Asg.name old c.assign.new.self c.args.to c.requires.lawful c.assign.ensures.run c.in_ok-assign-in-Asg.ensures.assigns)

pub perform-returns-in_ok-assign-in-Asg-clause-lawful : goal.performing::perform-returns-in_ok-assign-in-Asg-clause-lawful
perform-returns-in_ok-assign-in-Asg-clause-lawful g t c = c.in_ok-assign-in-Asg.ensures.assigns.lawful none c.requires.lawful

pub perform-returns-in_ok-assign-in-Asg-clause-stays : goal.performing::perform-returns-in_ok-assign-in-Asg-clause-stays
perform-returns-in_ok-assign-in-Asg-clause-stays g t c =
    let old : Scene = scene c.args.machine.now (g.O.Sink.written c.args.out.now) (g.O.Sink.faults c.args.out.now) (g.T.Sink.written c.args.trace.now) (g.T.Sink.faults c.args.trace.now) in
    stays_counted old c.assign.new.self c.assign.ensures.run

pub perform-returns-in_err-assign-in-Asg-clause-answers : goal.performing::perform-returns-in_err-assign-in-Asg-clause-answers
perform-returns-in_err-assign-in-Asg-clause-answers g t c =
    let old : Scene = scene c.args.machine.now (g.O.Sink.written c.args.out.now) (g.O.Sink.faults c.args.out.now) (g.T.Sink.written c.args.trace.now) (g.T.Sink.faults c.args.trace.now) in
    let new : Scene = scene c.assign.new.self (g.O.Sink.written c.args.out.now) (g.O.Sink.faults c.args.out.now) (g.T.Sink.written c.args.trace.now) (g.T.Sink.faults c.args.trace.now) in
    let h = c.in_err-assign-in-Asg.field-0.0 in
    err_so (λ (r : Result Flow Break). AnswersInstruction c.args.program.now c.args.base c.args.instruction.now old new c.args.to r) c.from_residual.result (break_of h) c.from_residual.ensures.1
    (halts c.args.program.now c.args.base c.args.instruction.now old c.assign.new.self c.args.to h c.requires.lawful c.assign.ensures.run c.in_err-assign-in-Asg.ensures.keeps
    (not_computed c.args.instruction.now c.args.machine.now h c.in_err-assign-in-Asg.ensures.halted))

pub perform-returns-in_err-assign-in-Asg-clause-stays : goal.performing::perform-returns-in_err-assign-in-Asg-clause-stays
perform-returns-in_err-assign-in-Asg-clause-stays g t c =
    let old : Scene = scene c.args.machine.now (g.O.Sink.written c.args.out.now) (g.O.Sink.faults c.args.out.now) (g.T.Sink.written c.args.trace.now) (g.T.Sink.faults c.args.trace.now) in
    stays_counted old c.assign.new.self c.assign.ensures.run

pub perform-returns-in_err-assign-in-Asg-clause-lawful : goal.performing::perform-returns-in_err-assign-in-Asg-clause-lawful
perform-returns-in_err-assign-in-Asg-clause-lawful g t c =
    let h = c.in_err-assign-in-Asg.field-0.0 in
    err_so (λ (r : Result Flow Break). UnlessCutOff r (IsLawfulMachine c.assign.new.self none)) c.from_residual.result (break_of h) c.from_residual.ensures.1
    (lawful_error Flow c.args.machine.now c.assign.new.self h c.requires.lawful c.in_err-assign-in-Asg.ensures.keeps)

-- ---- show

pub perform-show-requires-clause-operand : goal.performing::perform-show-requires-clause-operand
perform-show-requires-clause-operand g t c =
    let some : 1 ≤ length c.args.machine.now.stack = enough c.args.machine.now c.args.base 1 1 c.args.instruction.now.op (subst (λ (o : Op). Counts o 1 1) (sym c.in-Show.is) counts_show) c.requires.ready in
    omega (arith, some)

pub perform-show-requires-clause-lawful : goal.performing::perform-show-requires-clause-lawful
perform-show-requires-clause-lawful g t c = (none, c.requires.lawful)

pub perform-returns-in_ok-show-in-Show-clause-call : goal.performing::perform-returns-in_ok-show-in-Show-clause-call
perform-returns-in_ok-show-in-Show-clause-call g t c = same_call c.args.machine.now c.show.new.machine c.show.ensures.run

pub perform-returns-in_ok-show-in-Show-clause-answers : goal.performing::perform-returns-in_ok-show-in-Show-clause-answers
perform-returns-in_ok-show-in-Show-clause-answers g t c =
    let old : Scene = scene c.args.machine.now (g.O.Sink.written c.args.out.now) (g.O.Sink.faults c.args.out.now) (g.T.Sink.written c.args.trace.now) (g.T.Sink.faults c.args.trace.now) in
    let new : Scene = shown_scene old c.show.new.machine (g.O.Sink.written c.show.new.out) (g.O.Sink.faults c.show.new.out) in
    at_op (λ (i : Instruction). AnswersInstruction c.args.program.now c.args.base i old new c.args.to (Ok c.args.to)) c.args.instruction.now op.Show c.in-Show.is
    (show_performs c.args.program.now c.args.base c.args.instruction.now.place old c.show.new.machine (g.O.Sink.written c.show.new.out) (g.O.Sink.faults c.show.new.out) c.args.to c.requires.lawful c.show.ensures.run c.show.ensures.keeps c.show.ensures.never_falls c.in_ok-show-in-Show.ensures.shows)

pub perform-returns-in_ok-show-in-Show-clause-stays : goal.performing::perform-returns-in_ok-show-in-Show-clause-stays
perform-returns-in_ok-show-in-Show-clause-stays g t c =
    let old : Scene = scene c.args.machine.now (g.O.Sink.written c.args.out.now) (g.O.Sink.faults c.args.out.now) (g.T.Sink.written c.args.trace.now) (g.T.Sink.faults c.args.trace.now) in
    stays_shown old c.show.new.machine (g.O.Sink.written c.show.new.out) (g.O.Sink.faults c.show.new.out) c.show.ensures.run c.show.ensures.never_falls

pub perform-returns-in_ok-show-in-Show-clause-lawful : goal.performing::perform-returns-in_ok-show-in-Show-clause-lawful
perform-returns-in_ok-show-in-Show-clause-lawful g t c = c.show.ensures.keeps.lawful none c.requires.lawful

pub perform-returns-in_err-show-in-Show-clause-answers : goal.performing::perform-returns-in_err-show-in-Show-clause-answers
perform-returns-in_err-show-in-Show-clause-answers g t c =
    let old : Scene = scene c.args.machine.now (g.O.Sink.written c.args.out.now) (g.O.Sink.faults c.args.out.now) (g.T.Sink.written c.args.trace.now) (g.T.Sink.faults c.args.trace.now) in
    let new : Scene = shown_scene old c.show.new.machine (g.O.Sink.written c.show.new.out) (g.O.Sink.faults c.show.new.out) in
    let h = c.in_err-show-in-Show.field-0.0 in
    err_so (λ (r : Result Flow Break). AnswersInstruction c.args.program.now c.args.base c.args.instruction.now old new c.args.to r) c.from_residual-in_err-show-in-Show.result (break_of_output h) c.from_residual-in_err-show-in-Show.ensures.1
    (at_op (λ (i : Instruction). AnswersInstruction c.args.program.now c.args.base i old new c.args.to (Err (break_of_output h))) c.args.instruction.now op.Show c.in-Show.is
    (show_halts c.args.program.now c.args.base c.args.instruction.now.place old c.show.new.machine (g.O.Sink.written c.show.new.out) (g.O.Sink.faults c.show.new.out) c.args.to c.requires.lawful c.show.ensures.run c.show.ensures.keeps c.show.ensures.never_falls h (λ is. c.show.ensures.rose (err_of c.show.result h OutFault c.in_err-show-in-Show.was is)) c.in_err-show-in-Show.ensures.halted))

pub perform-returns-in_err-show-in-Show-clause-stays : goal.performing::perform-returns-in_err-show-in-Show-clause-stays
perform-returns-in_err-show-in-Show-clause-stays g t c =
    let old : Scene = scene c.args.machine.now (g.O.Sink.written c.args.out.now) (g.O.Sink.faults c.args.out.now) (g.T.Sink.written c.args.trace.now) (g.T.Sink.faults c.args.trace.now) in
    stays_shown old c.show.new.machine (g.O.Sink.written c.show.new.out) (g.O.Sink.faults c.show.new.out) c.show.ensures.run c.show.ensures.never_falls

pub perform-returns-in_err-show-in-Show-clause-lawful : goal.performing::perform-returns-in_err-show-in-Show-clause-lawful
perform-returns-in_err-show-in-Show-clause-lawful g t c = unless_always c.from_residual-in_err-show-in-Show.result _ (c.show.ensures.keeps.lawful none c.requires.lawful)

-- ---- print

pub perform-print-requires-clause-operand : goal.performing::perform-print-requires-clause-operand
perform-print-requires-clause-operand g t c =
    omega (arith, c.if-len-base.true, c.len.ensures.value)

pub perform-print-requires-clause-lawful : goal.performing::perform-print-requires-clause-lawful
perform-print-requires-clause-lawful g t c = (none, c.requires.lawful)

pub perform-returns-in_ok-print-in-Print-clause-call : goal.performing::perform-returns-in_ok-print-in-Print-clause-call
perform-returns-in_ok-print-in-Print-clause-call g t c = same_call c.args.machine.now c.print.new.machine c.print.ensures.run

pub perform-returns-in_ok-print-in-Print-clause-answers : goal.performing::perform-returns-in_ok-print-in-Print-clause-answers
perform-returns-in_ok-print-in-Print-clause-answers g t c =
    let some : c.args.base + 1 ≤ length c.args.machine.now.stack = omega (arith, c.if-len-base.true, c.len.ensures.value) in
    let old : Scene = scene c.args.machine.now (g.O.Sink.written c.args.out.now) (g.O.Sink.faults c.args.out.now) (g.T.Sink.written c.args.trace.now) (g.T.Sink.faults c.args.trace.now) in
    let new : Scene = shown_scene old c.print.new.machine (g.O.Sink.written c.print.new.out) (g.O.Sink.faults c.print.new.out) in
    at_op (λ (i : Instruction). AnswersInstruction c.args.program.now c.args.base i old new c.args.to (Ok flow.Onwards)) c.args.instruction.now op.Print c.in-Print.is
    (print_performs c.args.program.now c.args.base c.args.instruction.now.place old c.print.new.machine (g.O.Sink.written c.print.new.out) (g.O.Sink.faults c.print.new.out) c.args.to c.requires.lawful c.print.ensures.run c.print.ensures.keeps c.print.ensures.never_falls some c.in_ok-print-in-Print.ensures.prints)

pub perform-returns-in_ok-print-in-Print-clause-stays : goal.performing::perform-returns-in_ok-print-in-Print-clause-stays
perform-returns-in_ok-print-in-Print-clause-stays g t c =
    let old : Scene = scene c.args.machine.now (g.O.Sink.written c.args.out.now) (g.O.Sink.faults c.args.out.now) (g.T.Sink.written c.args.trace.now) (g.T.Sink.faults c.args.trace.now) in
    stays_shown old c.print.new.machine (g.O.Sink.written c.print.new.out) (g.O.Sink.faults c.print.new.out) c.print.ensures.run c.print.ensures.never_falls

pub perform-returns-in_ok-print-in-Print-clause-lawful : goal.performing::perform-returns-in_ok-print-in-Print-clause-lawful
perform-returns-in_ok-print-in-Print-clause-lawful g t c = c.print.ensures.keeps.lawful none c.requires.lawful

pub perform-returns-in_err-print-in-Print-clause-answers : goal.performing::perform-returns-in_err-print-in-Print-clause-answers
perform-returns-in_err-print-in-Print-clause-answers g t c =
    let some : c.args.base + 1 ≤ length c.args.machine.now.stack = omega (arith, c.if-len-base.true, c.len.ensures.value) in
    let old : Scene = scene c.args.machine.now (g.O.Sink.written c.args.out.now) (g.O.Sink.faults c.args.out.now) (g.T.Sink.written c.args.trace.now) (g.T.Sink.faults c.args.trace.now) in
    let new : Scene = shown_scene old c.print.new.machine (g.O.Sink.written c.print.new.out) (g.O.Sink.faults c.print.new.out) in
    let h = c.in_err-print-in-Print.field-0.0 in
    err_so (λ (r : Result Flow Break). AnswersInstruction c.args.program.now c.args.base c.args.instruction.now old new c.args.to r) c.from_residual-in_err-print-in-Print.result (break_of_output h) c.from_residual-in_err-print-in-Print.ensures.1
    (at_op (λ (i : Instruction). AnswersInstruction c.args.program.now c.args.base i old new c.args.to (Err (break_of_output h))) c.args.instruction.now op.Print c.in-Print.is
    (print_halts c.args.program.now c.args.base c.args.instruction.now.place old c.print.new.machine (g.O.Sink.written c.print.new.out) (g.O.Sink.faults c.print.new.out) c.args.to c.requires.lawful c.print.ensures.run c.print.ensures.keeps c.print.ensures.never_falls some h (λ is. c.print.ensures.rose (err_of c.print.result h OutFault c.in_err-print-in-Print.was is)) c.in_err-print-in-Print.ensures.halted))

pub perform-returns-in_err-print-in-Print-clause-stays : goal.performing::perform-returns-in_err-print-in-Print-clause-stays
perform-returns-in_err-print-in-Print-clause-stays g t c =
    let old : Scene = scene c.args.machine.now (g.O.Sink.written c.args.out.now) (g.O.Sink.faults c.args.out.now) (g.T.Sink.written c.args.trace.now) (g.T.Sink.faults c.args.trace.now) in
    stays_shown old c.print.new.machine (g.O.Sink.written c.print.new.out) (g.O.Sink.faults c.print.new.out) c.print.ensures.run c.print.ensures.never_falls

pub perform-returns-in_err-print-in-Print-clause-lawful : goal.performing::perform-returns-in_err-print-in-Print-clause-lawful
perform-returns-in_err-print-in-Print-clause-lawful g t c = unless_always c.from_residual-in_err-print-in-Print.result _ (c.print.ensures.keeps.lawful none c.requires.lawful)

-- ---- branches

pub perform-branch-machine-requires-clause-operand : goal.performing::perform-branch-machine-requires-clause-operand
perform-branch-machine-requires-clause-operand g t c =
    let some : 1 ≤ length c.args.machine.now.stack = enough c.args.machine.now c.args.base 1 0 c.args.instruction.now.op (subst (λ (o : Op). Counts o 1 0) (sym c.in-Goto.is) counts_branch) c.requires.ready in
    omega (arith, some)

pub perform-branch-machine-requires-clause-lawful : goal.performing::perform-branch-machine-requires-clause-lawful
perform-branch-machine-requires-clause-lawful g t c = (none, c.requires.lawful)

pub perform-returns-in-Goto-clause-call : goal.performing::perform-returns-in-Goto-clause-call
perform-returns-in-Goto-clause-call g t c = same_call c.args.machine.now c.branch-machine.new.machine c.branch-machine.ensures.run

pub perform-returns-in-Goto-clause-answers : goal.performing::perform-returns-in-Goto-clause-answers
perform-returns-in-Goto-clause-answers g t c =
    let old : Scene = scene c.args.machine.now (g.O.Sink.written c.args.out.now) (g.O.Sink.faults c.args.out.now) (g.T.Sink.written c.args.trace.now) (g.T.Sink.faults c.args.trace.now) in
    let new : Scene = record old { machine = c.branch-machine.new.machine } in
    let further = c.in_ok-branch-in-Goto.field-0 in
    at_op (λ (i : Instruction). AnswersInstruction c.args.program.now c.args.base i old new c.args.to (Ok further)) c.args.instruction.now op.Goto c.in-Goto.is
    (branch_performs c.args.program.now c.args.base c.args.instruction.now.place old c.branch-machine.new.machine c.args.to further c.requires.lawful c.branch-machine.ensures.run c.branch-machine.ensures.keeps c.in_ok-branch-in-Goto.ensures.branches)

pub perform-returns-in-Goto-clause-lawful : goal.performing::perform-returns-in-Goto-clause-lawful
perform-returns-in-Goto-clause-lawful g t c = c.branch-machine.ensures.keeps.lawful none c.requires.lawful

pub perform-returns-in_err-branch-in-Goto-clause-answers : goal.performing::perform-returns-in_err-branch-in-Goto-clause-answers
perform-returns-in_err-branch-in-Goto-clause-answers g t c =
    let old : Scene = scene c.args.machine.now (g.O.Sink.written c.args.out.now) (g.O.Sink.faults c.args.out.now) (g.T.Sink.written c.args.trace.now) (g.T.Sink.faults c.args.trace.now) in
    let new : Scene = record old { machine = c.branch-machine.new.machine } in
    let h = c.in_err-branch-in-Goto.field-0.0 in
    err_so (λ (r : Result Flow Break). AnswersInstruction c.args.program.now c.args.base c.args.instruction.now old new c.args.to r) c.from_residual-in_err-branch-in-Goto.result (break_of h) c.from_residual-in_err-branch-in-Goto.ensures.1
    (at_op (λ (i : Instruction). AnswersInstruction c.args.program.now c.args.base i old new c.args.to (Err (break_of h))) c.args.instruction.now op.Goto c.in-Goto.is
    (branch_halts c.args.program.now c.args.base c.args.instruction.now.place old c.branch-machine.new.machine c.args.to h c.requires.lawful c.branch-machine.ensures.run c.branch-machine.ensures.keeps c.in_err-branch-in-Goto.ensures.halted))

pub perform-returns-in_err-branch-in-Goto-clause-lawful : goal.performing::perform-returns-in_err-branch-in-Goto-clause-lawful
perform-returns-in_err-branch-in-Goto-clause-lawful g t c = unless_always c.from_residual-in_err-branch-in-Goto.result _ (c.branch-machine.ensures.keeps.lawful none c.requires.lawful)

pub perform-returns-in_err-branch-in-Goto-clause-stays : goal.performing::perform-returns-in_err-branch-in-Goto-clause-stays
perform-returns-in_err-branch-in-Goto-clause-stays g t c =
    let old : Scene = scene c.args.machine.now (g.O.Sink.written c.args.out.now) (g.O.Sink.faults c.args.out.now) (g.T.Sink.written c.args.trace.now) (g.T.Sink.faults c.args.trace.now) in
    stays_counted old c.branch-machine.new.machine (count_of_run c.args.machine.now c.branch-machine.new.machine c.branch-machine.ensures.run)

pub perform-returns-in-Goto-clause-stays : goal.performing::perform-returns-in-Goto-clause-stays
perform-returns-in-Goto-clause-stays g t c =
    let old : Scene = scene c.args.machine.now (g.O.Sink.written c.args.out.now) (g.O.Sink.faults c.args.out.now) (g.T.Sink.written c.args.trace.now) (g.T.Sink.faults c.args.trace.now) in
    stays_counted old c.branch-machine.new.machine (count_of_run c.args.machine.now c.branch-machine.new.machine c.branch-machine.ensures.run)

-- ---- calls

pub perform-returns-in_ok-call-in-Call-clause-answers : goal.performing::perform-returns-in_ok-call-in-Call-clause-answers
perform-returns-in_ok-call-in-Call-clause-answers g t c =
    let old : Scene = scene c.args.machine.now (g.O.Sink.written c.args.out.now) (g.O.Sink.faults c.args.out.now) (g.T.Sink.written c.args.trace.now) (g.T.Sink.faults c.args.trace.now) in
    let new : Scene = scene c.call.new.machine (g.O.Sink.written c.call.new.out) (g.O.Sink.faults c.call.new.out) (g.T.Sink.written c.call.new.trace) (g.T.Sink.faults c.call.new.trace) in
    at_op (λ (i : Instruction). AnswersInstruction c.args.program.now c.args.base i old new c.args.to (Ok c.args.to)) c.args.instruction.now (op.Call c.in-Call.f c.in-Call.arguments c.in-Call.whole) c.in-Call.is
    (c.in_ok-call-in-Call.ensures.answers c.args.base c.args.to)

pub perform-returns-in_err-call-in-Call-clause-answers : goal.performing::perform-returns-in_err-call-in-Call-clause-answers
perform-returns-in_err-call-in-Call-clause-answers g t c =
    let old : Scene = scene c.args.machine.now (g.O.Sink.written c.args.out.now) (g.O.Sink.faults c.args.out.now) (g.T.Sink.written c.args.trace.now) (g.T.Sink.faults c.args.trace.now) in
    let new : Scene = scene c.call.new.machine (g.O.Sink.written c.call.new.out) (g.O.Sink.faults c.call.new.out) (g.T.Sink.written c.call.new.trace) (g.T.Sink.faults c.call.new.trace) in
    let b = c.in_err-call-in-Call.field-0.0 in
    err_so (λ (r : Result Flow Break). AnswersInstruction c.args.program.now c.args.base c.args.instruction.now old new c.args.to r) c.from_residual-in_err-call-in-Call.result b c.from_residual-in_err-call-in-Call.ensures.1
    (at_op (λ (i : Instruction). AnswersInstruction c.args.program.now c.args.base i old new c.args.to (Err b)) c.args.instruction.now (op.Call c.in-Call.f c.in-Call.arguments c.in-Call.whole) c.in-Call.is
    (c.in_err-call-in-Call.ensures.answers c.args.base c.args.to))

-- ---- indexed assignments

pub perform-replace-requires-clause-operands : goal.performing::perform-replace-requires-clause-operands
perform-replace-requires-clause-operands g t c =
    let mask = c.as_slice.result.now in
    let is : c.args.instruction.now.op ≡ op.Iasg c.in-Iasg.name mask = c.in-Iasg.is ∙ ap (λ m. op.Iasg c.in-Iasg.name m) (sym c.as_slice.ensures) in
    enough c.args.machine.now c.args.base (1 + positions_in mask) 1 c.args.instruction.now.op (subst (λ (o : Op). Counts o (1 + positions_in mask) 1) (sym is) (counts_replace c.in-Iasg.name mask)) c.requires.ready

pub perform-replace-requires-clause-lawful : goal.performing::perform-replace-requires-clause-lawful
perform-replace-requires-clause-lawful g t c = (none, c.requires.lawful)

pub perform-returns-in_ok-replace-in-Iasg-clause-answers : goal.performing::perform-returns-in_ok-replace-in-Iasg-clause-answers
perform-returns-in_ok-replace-in-Iasg-clause-answers g t c =
    let old : Scene = scene c.args.machine.now (g.O.Sink.written c.args.out.now) (g.O.Sink.faults c.args.out.now) (g.T.Sink.written c.args.trace.now) (g.T.Sink.faults c.args.trace.now) in
    let new : Scene = scene c.replace.new.machine (g.O.Sink.written c.args.out.now) (g.O.Sink.faults c.args.out.now) (g.T.Sink.written c.args.trace.now) (g.T.Sink.faults c.args.trace.now) in
    let mask = c.as_slice.result.now in
    let is : c.args.instruction.now.op ≡ op.Iasg c.in-Iasg.name mask = c.in-Iasg.is ∙ ap (λ m. op.Iasg c.in-Iasg.name m) (sym c.as_slice.ensures) in
    at_op (λ (i : Instruction). AnswersInstruction c.args.program.now c.args.base i old new c.args.to (Ok c.args.to)) c.args.instruction.now (op.Iasg c.in-Iasg.name mask) is
    (replace_performs c.args.program.now c.args.base c.args.instruction.now.place c.in-Iasg.name mask old c.replace.new.machine c.args.to c.requires.lawful c.replace.ensures.run c.in_ok-replace-in-Iasg.ensures.replaces)

pub perform-returns-in_ok-replace-in-Iasg-clause-lawful : goal.performing::perform-returns-in_ok-replace-in-Iasg-clause-lawful
perform-returns-in_ok-replace-in-Iasg-clause-lawful g t c = c.in_ok-replace-in-Iasg.ensures.replaces.lawful none c.requires.lawful

pub perform-returns-in_ok-replace-in-Iasg-clause-stays : goal.performing::perform-returns-in_ok-replace-in-Iasg-clause-stays
perform-returns-in_ok-replace-in-Iasg-clause-stays g t c =
    let old : Scene = scene c.args.machine.now (g.O.Sink.written c.args.out.now) (g.O.Sink.faults c.args.out.now) (g.T.Sink.written c.args.trace.now) (g.T.Sink.faults c.args.trace.now) in
    stays_counted old c.replace.new.machine c.replace.ensures.run

pub perform-returns-in_ok-replace-in-Iasg-clause-call : goal.performing::perform-returns-in_ok-replace-in-Iasg-clause-call
perform-returns-in_ok-replace-in-Iasg-clause-call g t c = record {
  depth = replace_depth c.args.machine.now c.replace.new.machine c.in-Iasg.name c.as_slice.result.now c.requires.lawful c.in_ok-replace-in-Iasg.ensures.replaces;
  turns = same_turns c.args.machine.now c.replace.new.machine c.replace.ensures.run;
}

pub perform-returns-in_err-replace-in-Iasg-clause-answers : goal.performing::perform-returns-in_err-replace-in-Iasg-clause-answers
perform-returns-in_err-replace-in-Iasg-clause-answers g t c =
    let old : Scene = scene c.args.machine.now (g.O.Sink.written c.args.out.now) (g.O.Sink.faults c.args.out.now) (g.T.Sink.written c.args.trace.now) (g.T.Sink.faults c.args.trace.now) in
    let new : Scene = scene c.replace.new.machine (g.O.Sink.written c.args.out.now) (g.O.Sink.faults c.args.out.now) (g.T.Sink.written c.args.trace.now) (g.T.Sink.faults c.args.trace.now) in
    let mask = c.as_slice.result.now in
    let is : c.args.instruction.now.op ≡ op.Iasg c.in-Iasg.name mask = c.in-Iasg.is ∙ ap (λ m. op.Iasg c.in-Iasg.name m) (sym c.as_slice.ensures) in
    let h = c.in_err-replace-in-Iasg.field-0.0 in
    err_so (λ (r : Result Flow Break). AnswersInstruction c.args.program.now c.args.base c.args.instruction.now old new c.args.to r) c.from_residual-in_err-replace-in-Iasg.result (break_of h) c.from_residual-in_err-replace-in-Iasg.ensures.1
    (at_op (λ (i : Instruction). AnswersInstruction c.args.program.now c.args.base i old new c.args.to (Err (break_of h))) c.args.instruction.now (op.Iasg c.in-Iasg.name mask) is
    (replace_halts c.args.program.now c.args.base c.args.instruction.now.place c.in-Iasg.name mask old c.replace.new.machine c.args.to h c.requires.lawful c.replace.ensures.run c.in_err-replace-in-Iasg.ensures.keeps c.in_err-replace-in-Iasg.ensures.halted))

pub perform-returns-in_err-replace-in-Iasg-clause-stays : goal.performing::perform-returns-in_err-replace-in-Iasg-clause-stays
perform-returns-in_err-replace-in-Iasg-clause-stays g t c =
    let old : Scene = scene c.args.machine.now (g.O.Sink.written c.args.out.now) (g.O.Sink.faults c.args.out.now) (g.T.Sink.written c.args.trace.now) (g.T.Sink.faults c.args.trace.now) in
    stays_counted old c.replace.new.machine c.replace.ensures.run

pub perform-returns-in_err-replace-in-Iasg-clause-lawful : goal.performing::perform-returns-in_err-replace-in-Iasg-clause-lawful
perform-returns-in_err-replace-in-Iasg-clause-lawful g t c =
    let h = c.in_err-replace-in-Iasg.field-0.0 in
    err_so (λ (r : Result Flow Break). UnlessCutOff r (IsLawfulMachine c.replace.new.machine none)) c.from_residual-in_err-replace-in-Iasg.result (break_of h) c.from_residual-in_err-replace-in-Iasg.ensures.1
    (lawful_error Flow c.args.machine.now c.replace.new.machine h c.requires.lawful c.in_err-replace-in-Iasg.ensures.keeps)
