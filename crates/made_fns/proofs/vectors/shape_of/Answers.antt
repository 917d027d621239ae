use Rattle.std.proofs.Common.{◌≡◌, refl, pos, map, arith}
use Rattle.std.proofs.lemmas.Grind.{common_steps}
use Rattle.drag_along.specs.Nodes.{leaf_shape}
use Rattle.made_leaf.proofs.MadeLemmas.{leaf_is_array}
use Rattle.apl_model_laws.proofs.Forms.{shape-gives}
use Rattle.apl_model.specs.Made.{shape_of as lengths_of}
use Rattle.apl_model.specs.Whole.{vector}
use Rattle.apl_base.specs.declared.cells.Kind.TheVariants.{Num}
use Rattle.leaf_names.specs.Variables.{array_of}
use Rattle.made_fns.proofs.Finish.{array_lawful, cells_lawful}
use Rattle.made_fns.proofs.vectors.shape_of.Goals as goal

pub make_leaf-requires-clause-lawful : goal.make_leaf-requires-clause-lawful
make_leaf-requires-clause-lawful c =
    let s = c.args.store.now in
    let are : c.loop-n.cells.items ≡ map pos (leaf_shape c.args.b.now) = grind (arith, common_steps, c.lengths-lengths.ensures.value, c.behind-b.view_is, c.desc.ensures) in
    cells_lawful (vector Num (map pos (leaf_shape c.args.b.now))) Num _ (array_lawful (lengths_of (array_of s c.args.b.now)) _ (shape-gives _ (leaf_is_array s c.args.b.now c.counts-counts.ensures.store c.rank-count.ensures.lawful c.requires.b)) refl) refl are
