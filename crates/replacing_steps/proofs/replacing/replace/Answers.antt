use Rattle.std.proofs.Common.{refl}
use Rattle.std.proofs.lemmas.Result.{IfOk-weaker, IfErr-weaker}
use Rattle.machine_state.specs.declared.machines.Machine.{Machine}
use Rattle.machine_state.proofs.KeepsLemmas.{keeps, keeps_then}
use Rattle.machine_state.proofs.GivesLemmas.{on_error_so}
use Rattle.replacing_steps.proofs.FreeLemmas.{on_error_then}
use Rattle.replacing_steps.proofs.MachineLemmas.{replaces_from, halted_from}
use Rattle.replacing_steps.proofs.replacing.replace.Goals as goal

pub returns-in_err-make_ready-clause-keeps : goal.returns-in_err-make_ready-clause-keeps
returns-in_err-make_ready-clause-keeps c = on_error_so c.from_residual.result _ (keeps _ _ refl refl c.make_ready.ensures.moves)

pub check_and_write-requires-clause-lawful : goal.check_and_write-requires-clause-lawful
check_and_write-requires-clause-lawful c = (c.requires.lawful.0, (keeps c.args.machine.now _ refl refl c.make_ready.ensures.moves).lawful c.requires.lawful.0 c.requires.lawful.1)

pub returns-clause-replaces : goal.returns-clause-replaces
returns-clause-replaces c =
    let m1 : Machine = record c.args.machine.now { store = c.make_ready.new.store; stack = c.make_ready.new.stack } in
    IfOk-weaker c.check_and_write.result _ _ (λ _ r.
    replaces_from c.args.machine.now m1 c.check_and_write.new.machine c.args.name.now c.args.mask.now (keeps c.args.machine.now m1 refl refl c.make_ready.ensures.moves) c.make_ready.ensures.means r c.requires.lawful.0 c.requires.lawful.1) c.check_and_write.ensures.replaces

pub returns-clause-keeps : goal.returns-clause-keeps
returns-clause-keeps c =
    let m1 : Machine = record c.args.machine.now { store = c.make_ready.new.store; stack = c.make_ready.new.stack } in
    on_error_then c.check_and_write.result _ _ (keeps_then c.args.machine.now m1 c.check_and_write.new.machine (keeps c.args.machine.now m1 refl refl c.make_ready.ensures.moves)) c.check_and_write.ensures.keeps

pub returns-clause-halted : goal.returns-clause-halted
returns-clause-halted c =
    let m1 : Machine = record c.args.machine.now { store = c.make_ready.new.store; stack = c.make_ready.new.stack } in
    let k = keeps c.args.machine.now m1 refl refl c.make_ready.ensures.moves in
    IfErr-weaker c.check_and_write.result _ _ (λ why h.
    halted_from c.args.machine.now m1 c.args.name.now c.args.mask.now c.args.place why k.limit (k.variables c.requires.lawful.0 c.requires.lawful.1) c.make_ready.ensures.means h) c.check_and_write.ensures.halted
