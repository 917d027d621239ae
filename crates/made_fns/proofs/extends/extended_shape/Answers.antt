use Rattle.std.proofs.Common.{◌∙◌, ◌<◌, ℕ, List, length, sym, ap, subst, arith}
use Rattle.apl_base.specs.Array.{Array}
use Rattle.leaf_names.specs.Variables.{array_of}
use Rattle.drag_along.specs.Nodes.{leaf_shape}
use Rattle.made_fns.proofs.KeepLemmas.{extended_shape, extended_else, axis_first, axis_there}
use Rattle.made_fns.proofs.extends.extended_shape.Goals as goal

pub returns-then-is_extendable-clause-shape : goal.returns-then-is_extendable-clause-shape
returns-then-is_extendable-clause-shape c = λ store.
    c.vector_shape.ensures ∙ sym (extended_shape c.args.n (array_of store c.args.leaf.now) (sym c.is_extendable.ensures.value ∙ c.if-is_extendable.true))

pub returns-else-is_extendable-clause-shape : goal.returns-else-is_extendable-clause-shape
returns-else-is_extendable-clause-shape c = λ store.
    c.copy.ensures ∙ c.shape.ensures ∙ ap (λ (x : Array). x.shape) (sym (extended_else c.args.n (array_of store c.args.leaf.now) (sym c.is_extendable.ensures.value ∙ c.if-is_extendable.false)))

pub returns-then-is_extendable-clause-axis : goal.returns-then-is_extendable-clause-axis
returns-then-is_extendable-clause-axis c = λ k within.
    omega (arith, ap length c.vector_shape.ensures, axis_first (leaf_shape c.args.leaf.now) k within (sym c.is_extendable.ensures.value ∙ c.if-is_extendable.true))

pub returns-else-is_extendable-clause-axis : goal.returns-else-is_extendable-clause-axis
returns-else-is_extendable-clause-axis c = λ k within.
    subst (λ (ns : List ℕ). k < length ns) (sym (c.copy.ensures ∙ c.shape.ensures)) (axis_there (leaf_shape c.args.leaf.now) k within (sym c.is_extendable.ensures.value ∙ c.if-is_extendable.false))
