use Rattle.std.proofs.Common.{◌∙◌, ap, ◌-◌}
use Rattle.std.proofs.lemmas.List.{length-drop}
use Rattle.iter_stack.specs.Indices.{walk}
use Rattle.iter_stack.proofs.Walks.{Next, walk-next, walk-all, length-walk}
use Rattle.iter_stack.proofs.laws.walk_laws.Goals as goal

pub returns-clause-next : goal.returns-clause-next
returns-clause-next c = λ back ns k i left e.
    let n : Next back ns k i left = walk-next back ns k i left e in (n.below, n.is, n.lawful, n.rest)

pub returns-clause-end : goal.returns-clause-end
returns-clause-end c = walk-all

pub returns-clause-left : goal.returns-clause-left
returns-clause-left c = λ back ns k. length-drop k (walk back ns) ∙ ap (λ n. n - k) (length-walk back ns)
