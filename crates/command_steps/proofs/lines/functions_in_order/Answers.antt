use Rattle.std.proofs.Common.{rules, sym, subst, ap, map, take, ◌+◌, ◌∙◌}
use Rattle.std.specs.Str.{chars}
use Rattle.std.proofs.lemmas.List.{take_all}
use Rattle.command_steps.proofs.Gathers.{Gathered, gathered_more, gathered_same, sorted_names}
use Rattle.command_steps.proofs.lines.functions_in_order.Goals.{in-Some+in_ok-push, in_default}
use Rattle.command_steps.proofs.lines.functions_in_order.Goals as goal

pub loop-item-preserved : goal.loop-item-preserved
loop-item-preserved c =
    let items = c.as_slice-item-items.result.now in
    elim c.match-function_in.branch [
      | in-Some+in_ok-push w ↦
          gathered_more c.loop-item.texts.items c.match-function_in.texts.items items c.loop-item.item-index w.in-Some.text c.item-item.result (search rules) (search rules)
          (search rules) (search rules) c.loop-item.invariant (ap (λ v. v.items) w.texts-is ∙ w.in_ok-push.ensures.items)
      | in_default w ↦
          let same = gathered_same c.loop-item.texts.items items c.loop-item.item-index c.item-item.result (search rules) (search rules) (search rules) c.loop-item.invariant in
          subst (λ ts. Gathered ts (take (c.loop-item.item-index + 1) items)) (sym (ap (λ v. v.items) w.texts-is)) same
    ]

pub returns : goal.returns
returns c =
    sorted_names c.loop-item.texts.items c.sort.new.self.items c.loop-text.names.items c.args.outline.now.items
    (subst (Gathered c.loop-item.texts.items) (take_all c.loop-item.item-index c.as_slice-item-items.result.now (search rules) ∙ search rules) c.loop-item.invariant)
    c.in_ok-sort.ensures.permutation c.in_ok-sort.ensures.sorted
    (c.loop-text.invariant ∙ ap (map (λ t. chars t.now)) (take_all c.loop-text.text-index c.as_slice-text-items.result.now (search rules) ∙ c.as_slice-text-items.ensures.value))
