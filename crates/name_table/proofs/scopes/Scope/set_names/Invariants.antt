use Rattle.std.proofs.Common.{◌≡◌, map, take}
use Rattle.std.specs.Str.{chars}
use Rattle.name_table.proofs.OrderLemmas.{set_texts}
use Rattle.name_table.proofs.scopes.Scope.set_names.Given as goal

abbrev pub invariant-loop-at : goal.invariant-loop-at
invariant-loop-at l = map (λ t. t.now) l.texts.items ≡ set_texts (take l.at l.self-inside.table.entries)

abbrev pub invariant-loop-text : goal.invariant-loop-text
invariant-loop-text l = l.names.items ≡ map (λ t. chars t.now) (take l.text-index l.text-items)
