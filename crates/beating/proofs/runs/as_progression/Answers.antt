use Rattle.std.proofs.Common.{◌≡◌, sym, ap, subst, ◌∙◌}
use Rattle.apl_base.specs.declared.cells.Kind.{Kind}
use Rattle.apl_base.specs.declared.cells.Kind.TheVariants.{Num}
use Rattle.drag_along.specs.declared.leaves.Leaf.{Leaf}
use Rattle.drag_along.specs.declared.leaves.Leaf.TheVariants.{Stored}
use Rattle.drag_along.specs.Nodes.{leaf_kind, leaf_shape}
use Rattle.drag_along.specs.Meaning.{leaf_array}
use Rattle.beating.specs.Runs.{IsRunIfAny}
use Rattle.beating.proofs.runs.as_progression.Goals as goal

pub returns-in-Stored-clause-run : goal.returns-in-Stored-clause-run
returns-in-Stored-clause-run c =
    let numbers : c.in-Stored.kind ≡ Num = sym (ap leaf_kind c.in-Stored.is) ∙ c.requires.numbers in
    let is : c.args.leaf.now ≡ Stored c.in-Stored.owner c.in-Stored.desc Num =
    c.in-Stored.is ∙ ap (λ (k : Kind). Stored c.in-Stored.owner c.in-Stored.desc k) numbers in
    subst (λ (l : Leaf). IsRunIfAny (leaf_array c.args.store.now (leaf_shape l) l).cells c.run_of_cells.result) (sym is) c.run_of_cells.ensures.run
