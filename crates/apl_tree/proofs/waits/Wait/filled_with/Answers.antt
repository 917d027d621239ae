use Rattle.std.proofs.Common.{Some, ap, sym, ◌∙◌}
use Rattle.apl_model.proofs.Bridge.{tree-call, tree-one, tree-two, tree-reduce, tree-assign, tree-output}
use Rattle.apl_model.proofs.Machine as machine
use Rattle.apl_model.specs.Mirror.{tree_of}
use Rattle.apl_tree.specs.Mirror.{wait_of}
use Rattle.apl_tree.proofs.waits.Wait.filled_with.Goals as goal

pub returns-in-Call : goal.returns-in-Call
returns-in-Call c =
    tree-call c.in-Call.f c.in-Call.left (Some c.args.right) c.in-Call.place
    ∙ sym (ap (λ w. machine.filled (wait_of w) (tree_of c.args.right)) c.in-Call.is)

pub returns-in-One : goal.returns-in-One
returns-in-One c =
    tree-one c.in-One.f c.args.right c.in-One.place
    ∙ sym (ap (λ w. machine.filled (wait_of w) (tree_of c.args.right)) c.in-One.is)

pub returns-in-Two : goal.returns-in-Two
returns-in-Two c =
    tree-two c.in-Two.f c.in-Two.left c.args.right c.in-Two.place
    ∙ sym (ap (λ w. machine.filled (wait_of w) (tree_of c.args.right)) c.in-Two.is)

pub returns-in-Reduce : goal.returns-in-Reduce
returns-in-Reduce c =
    tree-reduce c.in-Reduce.f c.in-Reduce.axis c.args.right c.in-Reduce.place
    ∙ sym (ap (λ w. machine.filled (wait_of w) (tree_of c.args.right)) c.in-Reduce.is)

pub returns-in-Outer : goal.returns-in-Outer
returns-in-Outer c =
    c.outer_product.ensures
    ∙ sym (ap (λ w. machine.filled (wait_of w) (tree_of c.args.right)) c.in-Outer.is)

pub returns-in-Inner : goal.returns-in-Inner
returns-in-Inner c =
    c.inner_product.ensures
    ∙ sym (ap (λ w. machine.filled (wait_of w) (tree_of c.args.right)) c.in-Inner.is)

pub returns-in-Assign : goal.returns-in-Assign
returns-in-Assign c =
    tree-assign c.in-Assign.name c.args.right c.in-Assign.place
    ∙ sym (ap (λ w. machine.filled (wait_of w) (tree_of c.args.right)) c.in-Assign.is)

pub returns-in-IndexAssign : goal.returns-in-IndexAssign
returns-in-IndexAssign c =
    c.indexed_assignment.ensures
    ∙ sym (ap (λ w. machine.filled (wait_of w) (tree_of c.args.right)) c.in-IndexAssign.is)

pub returns-in-Output : goal.returns-in-Output
returns-in-Output c =
    tree-output c.args.right c.in-Output.place
    ∙ sym (ap (λ w. machine.filled (wait_of w) (tree_of c.args.right)) c.in-Output.is)
