use Rattle.std.proofs.Common.{◌≡◌, map, take}
use Rattle.std.specs.Str.{chars}
use Rattle.command_steps.proofs.Gathers.{Gathered}
use Rattle.command_steps.proofs.lines.functions_in_order.Given as goal

abbrev pub invariant-loop-item : goal.invariant-loop-item
invariant-loop-item l = Gathered l.texts.items (take l.item-index l.item-items)

abbrev pub invariant-loop-text : goal.invariant-loop-text
invariant-loop-text l = l.names.items ≡ map (λ t. chars t.now) (take l.text-index l.text-items)
