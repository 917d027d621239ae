use Rattle.std.proofs.Common.{ℕ, List, ◌∙◌, subst}
use Rattle.std.specs.Prelude.{◌≡◌, map}
use Rattle.std.proofs.lemmas.Result.{IfOk-weaker}
use Rattle.apl_model.specs.Environment.{with_frame}
use Rattle.apl_model.specs.Frames.{unset}
use Rattle.name_table.specs.Laws.{declared_by}
use Rattle.machine_state.specs.declared.machines.Machine.{Machine}
use Rattle.calling_steps.specs.Calls.{labels_in}
use Rattle.calling_steps.specs.Ready.{Changes}
use Rattle.calling_steps.proofs.EnterLemmas.{frame_bound}
use Rattle.calling_steps.proofs.entering.bind_frame.Goals as goal

pub returns-clause-bound : goal.returns-clause-bound
returns-clause-bound c =
    let m = c.args.machine.now in
    let bound : Machine = record m { names = c.bind.new.self } in
    let same : c.as_slice.result.now ≡ declared_by c.args.header.now (labels_in c.args.body.now) = c.as_slice.ensures.value ∙ c.in_ok-declared.ensures in
    IfOk-weaker c.bind.result _ _ (λ _ means.
    subst (λ (ns : List (List ℕ)). Changes m bound (with_frame (map unset ns))) same
    (frame_bound m c.bind.new.self c.as_slice.result.now means c.bind.ensures.lawful c.bind.ensures.fills c.bind.ensures.leaves)) c.bind.ensures.means
