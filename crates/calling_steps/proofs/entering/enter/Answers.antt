use Rattle.std.proofs.Common.{inr, refl, sym, ◌∙◌, arith}
use Rattle.std.proofs.lemmas.Result.{IfOk-weaker}
use Rattle.alias_force.proofs.SafeLemmas.{safe_means}
use Rattle.machine_state.specs.declared.machines.Machine.{Machine}
use Rattle.machine_state.proofs.KeepsLemmas.{keeps}
use Rattle.machine_state.proofs.GivesLemmas.{on_error_so}
use Rattle.calling_steps.specs.Calls.{labels_in}
use Rattle.calling_steps.proofs.EnterLemmas.{settled_enters}
use Rattle.calling_steps.proofs.entering.enter.Goals as goal

pub returns-in_err-settle_entries-clause-keeps : goal.returns-in_err-settle_entries-clause-keeps
returns-in_err-settle_entries-clause-keeps c = on_error_so c.from_residual.result _ (keeps _ _ refl refl c.settle_entries.ensures.moves)

pub returns-then-depth-ge-MOST_CALLS-clause-keeps : goal.returns-then-depth-ge-MOST_CALLS-clause-keeps
returns-then-depth-ge-MOST_CALLS-clause-keeps c = keeps _ _ refl refl c.settle_entries.ensures.moves

pub returns-then-depth-ge-MOST_CALLS-clause-halted : goal.returns-then-depth-ge-MOST_CALLS-clause-halted
returns-then-depth-ge-MOST_CALLS-clause-halted c =
    let arrays = safe_means c.settle_entries.new.store c.settle_entries.new.stack c.settle_entries.ensures.moves.lawful c.in_ok-settle_entries.ensures.safe in
    inr (
      refl,
      record {
        depth = omega (arith, c.if-depth-ge-MOST_CALLS.true, c.depth.ensures.depth);
        same = refl;
        arrays = arrays.0;
        are = sym c.settle_entries.ensures.means ∙ arrays.1;
      },
    )

pub begin-requires-clause-lawful : goal.begin-requires-clause-lawful
begin-requires-clause-lawful c =
    let settled : Machine = record c.args.machine.now { store = c.settle_entries.new.store; stack = c.settle_entries.new.stack } in
    (c.requires.lawful.0, (keeps c.args.machine.now settled refl refl c.settle_entries.ensures.moves).lawful c.requires.lawful.0 c.requires.lawful.1)

pub begin-requires-clause-arrays : goal.begin-requires-clause-arrays
begin-requires-clause-arrays c = safe_means c.settle_entries.new.store c.settle_entries.new.stack c.settle_entries.ensures.moves.lawful c.in_ok-settle_entries.ensures.safe

pub returns-clause-enters : goal.returns-clause-enters
returns-clause-enters c =
    let settled : Machine = record c.args.machine.now { store = c.settle_entries.new.store; stack = c.settle_entries.new.stack } in
    IfOk-weaker c.begin.result _ _ (λ _ enters.
    settled_enters c.args.machine.now settled c.begin.new.machine c.args.header.now (labels_in c.args.body.now) c.args.arguments refl (keeps c.args.machine.now settled refl refl c.settle_entries.ensures.moves) c.settle_entries.ensures.means enters) c.begin.ensures.enters

pub returns-clause-pending : goal.returns-clause-pending
returns-clause-pending c = IfOk-weaker c.begin.result _ _ (λ _ _. omega (arith, c.if-depth-ge-MOST_CALLS.false, c.depth.ensures.depth)) c.begin.ensures.enters
