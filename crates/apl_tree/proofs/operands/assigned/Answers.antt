use Rattle.std.proofs.Common.{◌≡◌, sym, ap, subst, ◌∙◌, IfOk}
use Rattle.apl_model.proofs.Bridge.{tree-name, tree-index, positions_with}
use Rattle.apl_model.proofs.Machine as machine
use Rattle.apl_model.specs.Mirror.{tree_of}
use Rattle.apl_model.specs.Tree.{variable, subscript}
use Rattle.apl_tree.specs.Mirror.{stack_of, reading_of}
use Rattle.apl_tree.proofs.operands.assigned.Goals as goal

pub returns-in-Name-into_inner : goal.returns-in-Name-into_inner
returns-in-Name-into_inner c =
    let i = c.in-Index in
    let n = c.in-Name-into_inner in
    let inner : tree_of i.array ≡ variable n.name n.place = ap tree_of (sym c.into_inner.ensures ∙ n.is) ∙ tree-name n.name n.place in
    let whole : tree_of c.args.tree ≡ subscript (variable n.name n.place) (positions_with i.positions) i.place =
    ap tree_of i.is ∙ tree-index i.array i.positions i.place ∙ ap (λ t. subscript t (positions_with i.positions) i.place) inner in
    subst (λ t. IfOk c.awaits-in-Name-into_inner.result (λ r. reading_of r ≡ machine.assigned t (stack_of c.args.opens))) (sym whole) c.awaits-in-Name-into_inner.ensures
