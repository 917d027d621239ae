use Rattle.std.proofs.Common.{ℕ, List, ◌++◌, sym, ap, ◌∙◌, append_assoc}
use Rattle.std.specs.Prelude.{take}
use Rattle.std.specs.Option.{option_to_list}
use Rattle.name_table.specs.Laws.{label_names}
use Rattle.calling_steps.specs.Calls.{labels_in}
use Rattle.calling_steps.proofs.ProgramLemmas.{labels_more}
use Rattle.calling_steps.proofs.declaring.declared_names.Goals as goal

pub loop-line-preserved : goal.loop-line-preserved
loop-line-preserved c =
    let before : List (List ℕ) = label_names (labels_in (take c.loop-line.line-index c.args.body.now)) in
    c.in_ok-add_name-4.ensures
    ∙ ap (λ (ns : List (List ℕ)). ns ++ option_to_list c.line-item.result.label) c.loop-line.invariant
    ∙ append_assoc c.loop-name.names.items before (option_to_list c.line-item.result.label)
    ∙ ap (λ (ns : List (List ℕ)). c.loop-name.names.items ++ ns) (sym (labels_more c.args.body.now c.loop-line.line-index c.line-item.result c.loop-line-test.true c.line-item.is))
