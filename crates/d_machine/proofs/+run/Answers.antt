mod Turn
mod RunCode
mod Perform
mod Call
mod RunLines
use Rattle.d_machine.proofs.+run.Answers.Turn.{turn-returns-then-machine-eq0-clause-takes, turn-returns-then-machine-eq0-clause-lawful, turn-returns-then-machine-eq0-clause-turns, turn-overflow_sub-machine, turn-overflow_add-machine, turn-end-requires, turn-end-requires-in-Err-Error, turn-returns-in-Ok-end-clause-takes, turn-returns-in-Ok-end-clause-below, turn-returns-in-Ok-end-clause-lawful, turn-returns-in-Ok-end-clause-turns, turn-returns-in-Ok-end-clause-depth, turn-returns-in-Err-clause-takes, turn-returns-in-Err-clause-lawful, turn-returns-in-Err-clause-turns, turn-returns-in-Ok-end-2-clause-takes, turn-returns-in-Ok-end-2-clause-lawful, turn-returns-in-Ok-end-2-clause-turns, turn-returns-in-Err-end-clause-takes, turn-returns-in-Err-end-clause-lawful, turn-returns-in-Err-end-clause-turns, turn-returns-in-Err-Stop-clause-takes, turn-returns-in-Err-Stop-clause-lawful, turn-returns-in-Err-Stop-clause-turns}
use Rattle.d_machine.proofs.+run.Answers.RunCode.{run_code-loop-instruction-init, run_code-finish-requires-clause-base, run_code-finish-requires-clause-one, run_code-finish-requires-clause-below, run_code-returns-in_err-finish-clause-runs, run_code-returns-in_err-finish-clause-lawful, run_code-returns-then-matches-clause-runs, run_code-returns-then-matches-clause-below, run_code-returns-then-matches-clause-lawful, run_code-returns-then-matches-clause-depth, run_code-perform-requires, run_code-returns-in_err-to-clause-runs, run_code-returns-in_err-to-clause-lawful, run_code-loop-instruction-preserved}
use Rattle.d_machine.proofs.+run.Answers.Perform.{perform-returns-in_ok-change_entries-in-Lit-clause-call, perform-returns-in_ok-change_entries-in-Lit-clause-answers, perform-returns-in_ok-change_entries-in-Lit-clause-lawful, perform-returns-in_ok-change_entries-in-Lit-clause-stays, perform-returns-in_err-change_entries-in-Lit-clause-answers, perform-returns-in_err-change_entries-in-Lit-clause-stays, perform-returns-in_err-change_entries-in-Lit-clause-lawful, perform-returns-in_ok-assign-in-Asg-clause-call, perform-returns-in_ok-assign-in-Asg-clause-answers, perform-returns-in_ok-assign-in-Asg-clause-lawful, perform-returns-in_ok-assign-in-Asg-clause-stays, perform-returns-in_err-assign-in-Asg-clause-answers, perform-returns-in_err-assign-in-Asg-clause-stays, perform-returns-in_err-assign-in-Asg-clause-lawful, perform-show-requires-clause-operand, perform-show-requires-clause-lawful, perform-returns-in_ok-show-in-Show-clause-call, perform-returns-in_ok-show-in-Show-clause-answers, perform-returns-in_ok-show-in-Show-clause-stays, perform-returns-in_ok-show-in-Show-clause-lawful, perform-returns-in_err-show-in-Show-clause-answers, perform-returns-in_err-show-in-Show-clause-stays, perform-returns-in_err-show-in-Show-clause-lawful, perform-print-requires-clause-operand, perform-print-requires-clause-lawful, perform-returns-in_ok-print-in-Print-clause-call, perform-returns-in_ok-print-in-Print-clause-answers, perform-returns-in_ok-print-in-Print-clause-stays, perform-returns-in_ok-print-in-Print-clause-lawful, perform-returns-in_err-print-in-Print-clause-answers, perform-returns-in_err-print-in-Print-clause-stays, perform-returns-in_err-print-in-Print-clause-lawful, perform-branch-machine-requires-clause-operand, perform-branch-machine-requires-clause-lawful, perform-returns-in-Goto-clause-call, perform-returns-in-Goto-clause-answers, perform-returns-in-Goto-clause-lawful, perform-returns-in_err-branch-in-Goto-clause-answers, perform-returns-in_err-branch-in-Goto-clause-lawful, perform-returns-in_err-branch-in-Goto-clause-stays, perform-returns-in-Goto-clause-stays, perform-returns-in_ok-call-in-Call-clause-answers, perform-returns-in_err-call-in-Call-clause-answers, perform-replace-requires-clause-operands, perform-replace-requires-clause-lawful, perform-returns-in_ok-replace-in-Iasg-clause-answers, perform-returns-in_ok-replace-in-Iasg-clause-lawful, perform-returns-in_ok-replace-in-Iasg-clause-stays, perform-returns-in_ok-replace-in-Iasg-clause-call, perform-returns-in_err-replace-in-Iasg-clause-answers, perform-returns-in_err-replace-in-Iasg-clause-stays, perform-returns-in_err-replace-in-Iasg-clause-lawful}
use Rattle.d_machine.proofs.+run.Answers.Call.{call-refuse-requires, call-returns-in_default-clause-answers, call-returns-in_default-clause-stays, call-returns-in_default-clause-lawful, call-unreachable-requires, call-unreachable-unreachable, call-unreachable-requires-in_default-item, call-unreachable-unreachable-in_default-item, call-enter-requires-clause-arguments, call-enter-requires-clause-operands, call-enter-requires-clause-lawful, call-enter-requires-clause-distinct, call-returns-in_err-enter-clause-answers, call-returns-in_err-enter-clause-stays, call-returns-in_err-enter-clause-lawful, call-returns-in_err-enter-clause-call, call-run_lines-requires, call-returns-in_err-run_lines-clause-answers, call-returns-in_err-run_lines-clause-stays, call-returns-in_err-run_lines-clause-lawful, call-returns-in_err-run_lines-clause-call, call-leave-requires-clause-frame, call-leave-requires-clause-lawful, call-returns-in_default-leave-clause-answers, call-returns-in_default-leave-clause-stays, call-returns-then-given-clause-answers, call-returns-then-given-clause-stays, call-returns-then-given-clause-lawful, call-returns-then-given-clause-call, call-returns-clause-answers, call-returns-clause-stays, call-returns-clause-lawful}
use Rattle.d_machine.proofs.+run.Answers.RunLines.{run_lines-returns-in_default-checked_add-clause-lines, run_lines-unreachable-requires, run_lines-turn-requires, run_lines-returns-in_err-to-clause-lines, run_lines-loop-at-smaller, run_lines-loop-at-preserved, run_lines-returns-clause-lines}
use Rattle.d_machine.proofs.+run.Goals as goal

-- turns::turn
pub turns::turn-returns-then-machine-eq0-clause-takes : goal.turns::turn-returns-then-machine-eq0-clause-takes
turns::turn-returns-then-machine-eq0-clause-takes = turn-returns-then-machine-eq0-clause-takes

pub turns::turn-returns-then-machine-eq0-clause-lawful : goal.turns::turn-returns-then-machine-eq0-clause-lawful
turns::turn-returns-then-machine-eq0-clause-lawful = turn-returns-then-machine-eq0-clause-lawful

pub turns::turn-returns-then-machine-eq0-clause-turns : goal.turns::turn-returns-then-machine-eq0-clause-turns
turns::turn-returns-then-machine-eq0-clause-turns = turn-returns-then-machine-eq0-clause-turns

pub turns::turn-overflow_sub-machine : goal.turns::turn-overflow_sub-machine
turns::turn-overflow_sub-machine = turn-overflow_sub-machine

pub turns::turn-overflow_add-machine : goal.turns::turn-overflow_add-machine
turns::turn-overflow_add-machine = turn-overflow_add-machine

pub turns::turn-end-requires : goal.turns::turn-end-requires
turns::turn-end-requires = turn-end-requires

pub turns::turn-end-requires-in-Err-Error : goal.turns::turn-end-requires-in-Err-Error
turns::turn-end-requires-in-Err-Error = turn-end-requires-in-Err-Error

pub turns::turn-returns-in-Ok-end-clause-takes : goal.turns::turn-returns-in-Ok-end-clause-takes
turns::turn-returns-in-Ok-end-clause-takes = turn-returns-in-Ok-end-clause-takes

pub turns::turn-returns-in-Ok-end-clause-below : goal.turns::turn-returns-in-Ok-end-clause-below
turns::turn-returns-in-Ok-end-clause-below = turn-returns-in-Ok-end-clause-below

pub turns::turn-returns-in-Ok-end-clause-lawful : goal.turns::turn-returns-in-Ok-end-clause-lawful
turns::turn-returns-in-Ok-end-clause-lawful = turn-returns-in-Ok-end-clause-lawful

pub turns::turn-returns-in-Ok-end-clause-turns : goal.turns::turn-returns-in-Ok-end-clause-turns
turns::turn-returns-in-Ok-end-clause-turns = turn-returns-in-Ok-end-clause-turns

pub turns::turn-returns-in-Ok-end-clause-depth : goal.turns::turn-returns-in-Ok-end-clause-depth
turns::turn-returns-in-Ok-end-clause-depth = turn-returns-in-Ok-end-clause-depth

pub turns::turn-returns-in-Err-clause-takes : goal.turns::turn-returns-in-Err-clause-takes
turns::turn-returns-in-Err-clause-takes = turn-returns-in-Err-clause-takes

pub turns::turn-returns-in-Err-clause-lawful : goal.turns::turn-returns-in-Err-clause-lawful
turns::turn-returns-in-Err-clause-lawful = turn-returns-in-Err-clause-lawful

pub turns::turn-returns-in-Err-clause-turns : goal.turns::turn-returns-in-Err-clause-turns
turns::turn-returns-in-Err-clause-turns = turn-returns-in-Err-clause-turns

pub turns::turn-returns-in-Ok-end-2-clause-takes : goal.turns::turn-returns-in-Ok-end-2-clause-takes
turns::turn-returns-in-Ok-end-2-clause-takes = turn-returns-in-Ok-end-2-clause-takes

pub turns::turn-returns-in-Ok-end-2-clause-lawful : goal.turns::turn-returns-in-Ok-end-2-clause-lawful
turns::turn-returns-in-Ok-end-2-clause-lawful = turn-returns-in-Ok-end-2-clause-lawful

pub turns::turn-returns-in-Ok-end-2-clause-turns : goal.turns::turn-returns-in-Ok-end-2-clause-turns
turns::turn-returns-in-Ok-end-2-clause-turns = turn-returns-in-Ok-end-2-clause-turns

pub turns::turn-returns-in-Err-end-clause-takes : goal.turns::turn-returns-in-Err-end-clause-takes
turns::turn-returns-in-Err-end-clause-takes = turn-returns-in-Err-end-clause-takes

pub turns::turn-returns-in-Err-end-clause-lawful : goal.turns::turn-returns-in-Err-end-clause-lawful
turns::turn-returns-in-Err-end-clause-lawful = turn-returns-in-Err-end-clause-lawful

pub turns::turn-returns-in-Err-end-clause-turns : goal.turns::turn-returns-in-Err-end-clause-turns
turns::turn-returns-in-Err-end-clause-turns = turn-returns-in-Err-end-clause-turns

pub turns::turn-returns-in-Err-Stop-clause-takes : goal.turns::turn-returns-in-Err-Stop-clause-takes
turns::turn-returns-in-Err-Stop-clause-takes = turn-returns-in-Err-Stop-clause-takes

pub turns::turn-returns-in-Err-Stop-clause-lawful : goal.turns::turn-returns-in-Err-Stop-clause-lawful
turns::turn-returns-in-Err-Stop-clause-lawful = turn-returns-in-Err-Stop-clause-lawful

pub turns::turn-returns-in-Err-Stop-clause-turns : goal.turns::turn-returns-in-Err-Stop-clause-turns
turns::turn-returns-in-Err-Stop-clause-turns = turn-returns-in-Err-Stop-clause-turns

-- running::run_code
pub running::run_code-loop-instruction-init : goal.running::run_code-loop-instruction-init
running::run_code-loop-instruction-init = run_code-loop-instruction-init

pub running::run_code-finish-requires-clause-base : goal.running::run_code-finish-requires-clause-base
running::run_code-finish-requires-clause-base = run_code-finish-requires-clause-base

pub running::run_code-finish-requires-clause-one : goal.running::run_code-finish-requires-clause-one
running::run_code-finish-requires-clause-one = run_code-finish-requires-clause-one

pub running::run_code-finish-requires-clause-below : goal.running::run_code-finish-requires-clause-below
running::run_code-finish-requires-clause-below = run_code-finish-requires-clause-below

pub running::run_code-returns-in_err-finish-clause-runs : goal.running::run_code-returns-in_err-finish-clause-runs
running::run_code-returns-in_err-finish-clause-runs = run_code-returns-in_err-finish-clause-runs

pub running::run_code-returns-in_err-finish-clause-lawful : goal.running::run_code-returns-in_err-finish-clause-lawful
running::run_code-returns-in_err-finish-clause-lawful = run_code-returns-in_err-finish-clause-lawful

pub running::run_code-returns-then-matches-clause-runs : goal.running::run_code-returns-then-matches-clause-runs
running::run_code-returns-then-matches-clause-runs = run_code-returns-then-matches-clause-runs

pub running::run_code-returns-then-matches-clause-below : goal.running::run_code-returns-then-matches-clause-below
running::run_code-returns-then-matches-clause-below = run_code-returns-then-matches-clause-below

pub running::run_code-returns-then-matches-clause-lawful : goal.running::run_code-returns-then-matches-clause-lawful
running::run_code-returns-then-matches-clause-lawful = run_code-returns-then-matches-clause-lawful

pub running::run_code-returns-then-matches-clause-depth : goal.running::run_code-returns-then-matches-clause-depth
running::run_code-returns-then-matches-clause-depth = run_code-returns-then-matches-clause-depth

pub running::run_code-perform-requires : goal.running::run_code-perform-requires
running::run_code-perform-requires = run_code-perform-requires

pub running::run_code-returns-in_err-to-clause-runs : goal.running::run_code-returns-in_err-to-clause-runs
running::run_code-returns-in_err-to-clause-runs = run_code-returns-in_err-to-clause-runs

pub running::run_code-returns-in_err-to-clause-lawful : goal.running::run_code-returns-in_err-to-clause-lawful
running::run_code-returns-in_err-to-clause-lawful = run_code-returns-in_err-to-clause-lawful

pub running::run_code-loop-instruction-preserved : goal.running::run_code-loop-instruction-preserved
running::run_code-loop-instruction-preserved = run_code-loop-instruction-preserved

-- performing::perform
pub performing::perform-returns-in_ok-change_entries-in-Lit-clause-call : goal.performing::perform-returns-in_ok-change_entries-in-Lit-clause-call
performing::perform-returns-in_ok-change_entries-in-Lit-clause-call = perform-returns-in_ok-change_entries-in-Lit-clause-call

pub performing::perform-returns-in_ok-change_entries-in-Lit-clause-answers : goal.performing::perform-returns-in_ok-change_entries-in-Lit-clause-answers
performing::perform-returns-in_ok-change_entries-in-Lit-clause-answers = perform-returns-in_ok-change_entries-in-Lit-clause-answers

pub performing::perform-returns-in_ok-change_entries-in-Lit-clause-lawful : goal.performing::perform-returns-in_ok-change_entries-in-Lit-clause-lawful
performing::perform-returns-in_ok-change_entries-in-Lit-clause-lawful = perform-returns-in_ok-change_entries-in-Lit-clause-lawful

pub performing::perform-returns-in_ok-change_entries-in-Lit-clause-stays : goal.performing::perform-returns-in_ok-change_entries-in-Lit-clause-stays
performing::perform-returns-in_ok-change_entries-in-Lit-clause-stays = perform-returns-in_ok-change_entries-in-Lit-clause-stays

pub performing::perform-returns-in_err-change_entries-in-Lit-clause-answers : goal.performing::perform-returns-in_err-change_entries-in-Lit-clause-answers
performing::perform-returns-in_err-change_entries-in-Lit-clause-answers = perform-returns-in_err-change_entries-in-Lit-clause-answers

pub performing::perform-returns-in_err-change_entries-in-Lit-clause-stays : goal.performing::perform-returns-in_err-change_entries-in-Lit-clause-stays
performing::perform-returns-in_err-change_entries-in-Lit-clause-stays = perform-returns-in_err-change_entries-in-Lit-clause-stays

pub performing::perform-returns-in_err-change_entries-in-Lit-clause-lawful : goal.performing::perform-returns-in_err-change_entries-in-Lit-clause-lawful
performing::perform-returns-in_err-change_entries-in-Lit-clause-lawful = perform-returns-in_err-change_entries-in-Lit-clause-lawful

pub performing::perform-returns-in_ok-assign-in-Asg-clause-call : goal.performing::perform-returns-in_ok-assign-in-Asg-clause-call
performing::perform-returns-in_ok-assign-in-Asg-clause-call = perform-returns-in_ok-assign-in-Asg-clause-call

pub performing::perform-returns-in_ok-assign-in-Asg-clause-answers : goal.performing::perform-returns-in_ok-assign-in-Asg-clause-answers
performing::perform-returns-in_ok-assign-in-Asg-clause-answers = perform-returns-in_ok-assign-in-Asg-clause-answers

pub performing::perform-returns-in_ok-assign-in-Asg-clause-lawful : goal.performing::perform-returns-in_ok-assign-in-Asg-clause-lawful
performing::perform-returns-in_ok-assign-in-Asg-clause-lawful = perform-returns-in_ok-assign-in-Asg-clause-lawful

pub performing::perform-returns-in_ok-assign-in-Asg-clause-stays : goal.performing::perform-returns-in_ok-assign-in-Asg-clause-stays
performing::perform-returns-in_ok-assign-in-Asg-clause-stays = perform-returns-in_ok-assign-in-Asg-clause-stays

pub performing::perform-returns-in_err-assign-in-Asg-clause-answers : goal.performing::perform-returns-in_err-assign-in-Asg-clause-answers
performing::perform-returns-in_err-assign-in-Asg-clause-answers = perform-returns-in_err-assign-in-Asg-clause-answers

pub performing::perform-returns-in_err-assign-in-Asg-clause-stays : goal.performing::perform-returns-in_err-assign-in-Asg-clause-stays
performing::perform-returns-in_err-assign-in-Asg-clause-stays = perform-returns-in_err-assign-in-Asg-clause-stays

pub performing::perform-returns-in_err-assign-in-Asg-clause-lawful : goal.performing::perform-returns-in_err-assign-in-Asg-clause-lawful
performing::perform-returns-in_err-assign-in-Asg-clause-lawful = perform-returns-in_err-assign-in-Asg-clause-lawful

pub performing::perform-show-requires-clause-operand : goal.performing::perform-show-requires-clause-operand
performing::perform-show-requires-clause-operand = perform-show-requires-clause-operand

pub performing::perform-show-requires-clause-lawful : goal.performing::perform-show-requires-clause-lawful
performing::perform-show-requires-clause-lawful = perform-show-requires-clause-lawful

pub performing::perform-returns-in_ok-show-in-Show-clause-call : goal.performing::perform-returns-in_ok-show-in-Show-clause-call
performing::perform-returns-in_ok-show-in-Show-clause-call = perform-returns-in_ok-show-in-Show-clause-call

pub performing::perform-returns-in_ok-show-in-Show-clause-answers : goal.performing::perform-returns-in_ok-show-in-Show-clause-answers
performing::perform-returns-in_ok-show-in-Show-clause-answers = perform-returns-in_ok-show-in-Show-clause-answers

pub performing::perform-returns-in_ok-show-in-Show-clause-stays : goal.performing::perform-returns-in_ok-show-in-Show-clause-stays
performing::perform-returns-in_ok-show-in-Show-clause-stays = perform-returns-in_ok-show-in-Show-clause-stays

pub performing::perform-returns-in_ok-show-in-Show-clause-lawful : goal.performing::perform-returns-in_ok-show-in-Show-clause-lawful
performing::perform-returns-in_ok-show-in-Show-clause-lawful = perform-returns-in_ok-show-in-Show-clause-lawful

pub performing::perform-returns-in_err-show-in-Show-clause-answers : goal.performing::perform-returns-in_err-show-in-Show-clause-answers
performing::perform-returns-in_err-show-in-Show-clause-answers = perform-returns-in_err-show-in-Show-clause-answers

pub performing::perform-returns-in_err-show-in-Show-clause-stays : goal.performing::perform-returns-in_err-show-in-Show-clause-stays
performing::perform-returns-in_err-show-in-Show-clause-stays = perform-returns-in_err-show-in-Show-clause-stays

pub performing::perform-returns-in_err-show-in-Show-clause-lawful : goal.performing::perform-returns-in_err-show-in-Show-clause-lawful
performing::perform-returns-in_err-show-in-Show-clause-lawful = perform-returns-in_err-show-in-Show-clause-lawful

pub performing::perform-print-requires-clause-operand : goal.performing::perform-print-requires-clause-operand
performing::perform-print-requires-clause-operand = perform-print-requires-clause-operand

pub performing::perform-print-requires-clause-lawful : goal.performing::perform-print-requires-clause-lawful
performing::perform-print-requires-clause-lawful = perform-print-requires-clause-lawful

pub performing::perform-returns-in_ok-print-in-Print-clause-call : goal.performing::perform-returns-in_ok-print-in-Print-clause-call
performing::perform-returns-in_ok-print-in-Print-clause-call = perform-returns-in_ok-print-in-Print-clause-call

pub performing::perform-returns-in_ok-print-in-Print-clause-answers : goal.performing::perform-returns-in_ok-print-in-Print-clause-answers
performing::perform-returns-in_ok-print-in-Print-clause-answers = perform-returns-in_ok-print-in-Print-clause-answers

pub performing::perform-returns-in_ok-print-in-Print-clause-stays : goal.performing::perform-returns-in_ok-print-in-Print-clause-stays
performing::perform-returns-in_ok-print-in-Print-clause-stays = perform-returns-in_ok-print-in-Print-clause-stays

pub performing::perform-returns-in_ok-print-in-Print-clause-lawful : goal.performing::perform-returns-in_ok-print-in-Print-clause-lawful
performing::perform-returns-in_ok-print-in-Print-clause-lawful = perform-returns-in_ok-print-in-Print-clause-lawful

pub performing::perform-returns-in_err-print-in-Print-clause-answers : goal.performing::perform-returns-in_err-print-in-Print-clause-answers
performing::perform-returns-in_err-print-in-Print-clause-answers = perform-returns-in_err-print-in-Print-clause-answers

pub performing::perform-returns-in_err-print-in-Print-clause-stays : goal.performing::perform-returns-in_err-print-in-Print-clause-stays
performing::perform-returns-in_err-print-in-Print-clause-stays = perform-returns-in_err-print-in-Print-clause-stays

pub performing::perform-returns-in_err-print-in-Print-clause-lawful : goal.performing::perform-returns-in_err-print-in-Print-clause-lawful
performing::perform-returns-in_err-print-in-Print-clause-lawful = perform-returns-in_err-print-in-Print-clause-lawful

pub performing::perform-branch-machine-requires-clause-operand : goal.performing::perform-branch-machine-requires-clause-operand
performing::perform-branch-machine-requires-clause-operand = perform-branch-machine-requires-clause-operand

pub performing::perform-branch-machine-requires-clause-lawful : goal.performing::perform-branch-machine-requires-clause-lawful
performing::perform-branch-machine-requires-clause-lawful = perform-branch-machine-requires-clause-lawful

pub performing::perform-returns-in-Goto-clause-call : goal.performing::perform-returns-in-Goto-clause-call
performing::perform-returns-in-Goto-clause-call = perform-returns-in-Goto-clause-call

pub performing::perform-returns-in-Goto-clause-answers : goal.performing::perform-returns-in-Goto-clause-answers
performing::perform-returns-in-Goto-clause-answers = perform-returns-in-Goto-clause-answers

pub performing::perform-returns-in-Goto-clause-lawful : goal.performing::perform-returns-in-Goto-clause-lawful
performing::perform-returns-in-Goto-clause-lawful = perform-returns-in-Goto-clause-lawful

pub performing::perform-returns-in_err-branch-in-Goto-clause-answers : goal.performing::perform-returns-in_err-branch-in-Goto-clause-answers
performing::perform-returns-in_err-branch-in-Goto-clause-answers = perform-returns-in_err-branch-in-Goto-clause-answers

pub performing::perform-returns-in_err-branch-in-Goto-clause-lawful : goal.performing::perform-returns-in_err-branch-in-Goto-clause-lawful
performing::perform-returns-in_err-branch-in-Goto-clause-lawful = perform-returns-in_err-branch-in-Goto-clause-lawful

pub performing::perform-returns-in_err-branch-in-Goto-clause-stays : goal.performing::perform-returns-in_err-branch-in-Goto-clause-stays
performing::perform-returns-in_err-branch-in-Goto-clause-stays = perform-returns-in_err-branch-in-Goto-clause-stays

pub performing::perform-returns-in-Goto-clause-stays : goal.performing::perform-returns-in-Goto-clause-stays
performing::perform-returns-in-Goto-clause-stays = perform-returns-in-Goto-clause-stays

pub performing::perform-returns-in_ok-call-in-Call-clause-answers : goal.performing::perform-returns-in_ok-call-in-Call-clause-answers
performing::perform-returns-in_ok-call-in-Call-clause-answers = perform-returns-in_ok-call-in-Call-clause-answers

pub performing::perform-returns-in_err-call-in-Call-clause-answers : goal.performing::perform-returns-in_err-call-in-Call-clause-answers
performing::perform-returns-in_err-call-in-Call-clause-answers = perform-returns-in_err-call-in-Call-clause-answers

pub performing::perform-replace-requires-clause-operands : goal.performing::perform-replace-requires-clause-operands
performing::perform-replace-requires-clause-operands = perform-replace-requires-clause-operands

pub performing::perform-replace-requires-clause-lawful : goal.performing::perform-replace-requires-clause-lawful
performing::perform-replace-requires-clause-lawful = perform-replace-requires-clause-lawful

pub performing::perform-returns-in_ok-replace-in-Iasg-clause-answers : goal.performing::perform-returns-in_ok-replace-in-Iasg-clause-answers
performing::perform-returns-in_ok-replace-in-Iasg-clause-answers = perform-returns-in_ok-replace-in-Iasg-clause-answers

pub performing::perform-returns-in_ok-replace-in-Iasg-clause-lawful : goal.performing::perform-returns-in_ok-replace-in-Iasg-clause-lawful
performing::perform-returns-in_ok-replace-in-Iasg-clause-lawful = perform-returns-in_ok-replace-in-Iasg-clause-lawful

pub performing::perform-returns-in_ok-replace-in-Iasg-clause-stays : goal.performing::perform-returns-in_ok-replace-in-Iasg-clause-stays
performing::perform-returns-in_ok-replace-in-Iasg-clause-stays = perform-returns-in_ok-replace-in-Iasg-clause-stays

pub performing::perform-returns-in_ok-replace-in-Iasg-clause-call : goal.performing::perform-returns-in_ok-replace-in-Iasg-clause-call
performing::perform-returns-in_ok-replace-in-Iasg-clause-call = perform-returns-in_ok-replace-in-Iasg-clause-call

pub performing::perform-returns-in_err-replace-in-Iasg-clause-answers : goal.performing::perform-returns-in_err-replace-in-Iasg-clause-answers
performing::perform-returns-in_err-replace-in-Iasg-clause-answers = perform-returns-in_err-replace-in-Iasg-clause-answers

pub performing::perform-returns-in_err-replace-in-Iasg-clause-stays : goal.performing::perform-returns-in_err-replace-in-Iasg-clause-stays
performing::perform-returns-in_err-replace-in-Iasg-clause-stays = perform-returns-in_err-replace-in-Iasg-clause-stays

pub performing::perform-returns-in_err-replace-in-Iasg-clause-lawful : goal.performing::perform-returns-in_err-replace-in-Iasg-clause-lawful
performing::perform-returns-in_err-replace-in-Iasg-clause-lawful = perform-returns-in_err-replace-in-Iasg-clause-lawful

-- calling::call
pub calling::call-refuse-requires : goal.calling::call-refuse-requires
calling::call-refuse-requires = call-refuse-requires

pub calling::call-returns-in_default-clause-answers : goal.calling::call-returns-in_default-clause-answers
calling::call-returns-in_default-clause-answers = call-returns-in_default-clause-answers

pub calling::call-returns-in_default-clause-stays : goal.calling::call-returns-in_default-clause-stays
calling::call-returns-in_default-clause-stays = call-returns-in_default-clause-stays

pub calling::call-returns-in_default-clause-lawful : goal.calling::call-returns-in_default-clause-lawful
calling::call-returns-in_default-clause-lawful = call-returns-in_default-clause-lawful

pub calling::call-unreachable-requires : goal.calling::call-unreachable-requires
calling::call-unreachable-requires = call-unreachable-requires

pub calling::call-unreachable-unreachable : goal.calling::call-unreachable-unreachable
calling::call-unreachable-unreachable = call-unreachable-unreachable

pub calling::call-unreachable-requires-in_default-item : goal.calling::call-unreachable-requires-in_default-item
calling::call-unreachable-requires-in_default-item = call-unreachable-requires-in_default-item

pub calling::call-unreachable-unreachable-in_default-item : goal.calling::call-unreachable-unreachable-in_default-item
calling::call-unreachable-unreachable-in_default-item = call-unreachable-unreachable-in_default-item

pub calling::call-enter-requires-clause-arguments : goal.calling::call-enter-requires-clause-arguments
calling::call-enter-requires-clause-arguments = call-enter-requires-clause-arguments

pub calling::call-enter-requires-clause-operands : goal.calling::call-enter-requires-clause-operands
calling::call-enter-requires-clause-operands = call-enter-requires-clause-operands

pub calling::call-enter-requires-clause-lawful : goal.calling::call-enter-requires-clause-lawful
calling::call-enter-requires-clause-lawful = call-enter-requires-clause-lawful

pub calling::call-enter-requires-clause-distinct : goal.calling::call-enter-requires-clause-distinct
calling::call-enter-requires-clause-distinct = call-enter-requires-clause-distinct

pub calling::call-returns-in_err-enter-clause-answers : goal.calling::call-returns-in_err-enter-clause-answers
calling::call-returns-in_err-enter-clause-answers = call-returns-in_err-enter-clause-answers

pub calling::call-returns-in_err-enter-clause-stays : goal.calling::call-returns-in_err-enter-clause-stays
calling::call-returns-in_err-enter-clause-stays = call-returns-in_err-enter-clause-stays

pub calling::call-returns-in_err-enter-clause-lawful : goal.calling::call-returns-in_err-enter-clause-lawful
calling::call-returns-in_err-enter-clause-lawful = call-returns-in_err-enter-clause-lawful

pub calling::call-returns-in_err-enter-clause-call : goal.calling::call-returns-in_err-enter-clause-call
calling::call-returns-in_err-enter-clause-call = call-returns-in_err-enter-clause-call

pub calling::call-run_lines-requires : goal.calling::call-run_lines-requires
calling::call-run_lines-requires = call-run_lines-requires

pub calling::call-returns-in_err-run_lines-clause-answers : goal.calling::call-returns-in_err-run_lines-clause-answers
calling::call-returns-in_err-run_lines-clause-answers = call-returns-in_err-run_lines-clause-answers

pub calling::call-returns-in_err-run_lines-clause-stays : goal.calling::call-returns-in_err-run_lines-clause-stays
calling::call-returns-in_err-run_lines-clause-stays = call-returns-in_err-run_lines-clause-stays

pub calling::call-returns-in_err-run_lines-clause-lawful : goal.calling::call-returns-in_err-run_lines-clause-lawful
calling::call-returns-in_err-run_lines-clause-lawful = call-returns-in_err-run_lines-clause-lawful

pub calling::call-returns-in_err-run_lines-clause-call : goal.calling::call-returns-in_err-run_lines-clause-call
calling::call-returns-in_err-run_lines-clause-call = call-returns-in_err-run_lines-clause-call

pub calling::call-leave-requires-clause-frame : goal.calling::call-leave-requires-clause-frame
calling::call-leave-requires-clause-frame = call-leave-requires-clause-frame

pub calling::call-leave-requires-clause-lawful : goal.calling::call-leave-requires-clause-lawful
calling::call-leave-requires-clause-lawful = call-leave-requires-clause-lawful

pub calling::call-returns-in_default-leave-clause-answers : goal.calling::call-returns-in_default-leave-clause-answers
calling::call-returns-in_default-leave-clause-answers = call-returns-in_default-leave-clause-answers

pub calling::call-returns-in_default-leave-clause-stays : goal.calling::call-returns-in_default-leave-clause-stays
calling::call-returns-in_default-leave-clause-stays = call-returns-in_default-leave-clause-stays

pub calling::call-returns-then-given-clause-answers : goal.calling::call-returns-then-given-clause-answers
calling::call-returns-then-given-clause-answers = call-returns-then-given-clause-answers

pub calling::call-returns-then-given-clause-stays : goal.calling::call-returns-then-given-clause-stays
calling::call-returns-then-given-clause-stays = call-returns-then-given-clause-stays

pub calling::call-returns-then-given-clause-lawful : goal.calling::call-returns-then-given-clause-lawful
calling::call-returns-then-given-clause-lawful = call-returns-then-given-clause-lawful

pub calling::call-returns-then-given-clause-call : goal.calling::call-returns-then-given-clause-call
calling::call-returns-then-given-clause-call = call-returns-then-given-clause-call

pub calling::call-returns-clause-answers : goal.calling::call-returns-clause-answers
calling::call-returns-clause-answers = call-returns-clause-answers

pub calling::call-returns-clause-stays : goal.calling::call-returns-clause-stays
calling::call-returns-clause-stays = call-returns-clause-stays

pub calling::call-returns-clause-lawful : goal.calling::call-returns-clause-lawful
calling::call-returns-clause-lawful = call-returns-clause-lawful

-- lines::run_lines
pub lines::run_lines-returns-in_default-checked_add-clause-lines : goal.lines::run_lines-returns-in_default-checked_add-clause-lines
lines::run_lines-returns-in_default-checked_add-clause-lines = run_lines-returns-in_default-checked_add-clause-lines

pub lines::run_lines-unreachable-requires : goal.lines::run_lines-unreachable-requires
lines::run_lines-unreachable-requires = run_lines-unreachable-requires

pub lines::run_lines-turn-requires : goal.lines::run_lines-turn-requires
lines::run_lines-turn-requires = run_lines-turn-requires

pub lines::run_lines-returns-in_err-to-clause-lines : goal.lines::run_lines-returns-in_err-to-clause-lines
lines::run_lines-returns-in_err-to-clause-lines = run_lines-returns-in_err-to-clause-lines

pub lines::run_lines-loop-at-smaller : goal.lines::run_lines-loop-at-smaller
lines::run_lines-loop-at-smaller = run_lines-loop-at-smaller

pub lines::run_lines-loop-at-preserved : goal.lines::run_lines-loop-at-preserved
lines::run_lines-loop-at-preserved = run_lines-loop-at-preserved

pub lines::run_lines-returns-clause-lines : goal.lines::run_lines-returns-clause-lines
lines::run_lines-returns-clause-lines = run_lines-returns-clause-lines
