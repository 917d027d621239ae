use Rattle.std.proofs.Common.{refl}
use Rattle.std.proofs.lemmas.Result.{IfOk-weaker}
use Rattle.machine_state.proofs.KeepsLemmas.{keeps}
use Rattle.machine_state.proofs.GivesLemmas.{settled_assigns, on_error_so}
use Rattle.machine_state.proofs.machines.Machine.assign.Goals as goal

pub returns-in_err-settle_entries-clause-keeps : goal.returns-in_err-settle_entries-clause-keeps
returns-in_err-settle_entries-clause-keeps c = on_error_so c.from_residual.result _ (keeps _ _ refl refl c.settle_entries.ensures.moves)

pub assign_newest-requires-clause-lawful : goal.assign_newest-requires-clause-lawful
assign_newest-requires-clause-lawful c =
    (c.requires.lawful.0, c.requires.lawful.1, (keeps c.args.self.now _ refl refl c.settle_entries.ensures.moves).lawful c.requires.lawful.0 c.requires.lawful.2)

pub returns-clause-assigns : goal.returns-clause-assigns
returns-clause-assigns c =
    IfOk-weaker c.assign_newest.result _ _ (λ _ a.
    settled_assigns c.args.self.now _ c.assign_newest.new.self c.args.name.now (keeps c.args.self.now _ refl refl c.settle_entries.ensures.moves) c.settle_entries.ensures.means a) c.assign_newest.ensures.assigns
