use Rattle.std.proofs.Common.{◌∙◌, ℤ, List, pos, get_or, sym, ap, rules, to_z-of_z, FitsSigned}
use Rattle.std.specs.Int.{w128}
use Rattle.apl_base.proofs.Elements.{tabulated-place}
use Rattle.drag_along.specs.Nodes.{leaf_kind, leaf_shape}
use Rattle.drag_along.specs.Meaning.{leaf_cell}
use Rattle.value_fns.proofs.decodes.cell_at.Goals as goal

pub returns-clause-cell : goal.returns-clause-cell
returns-clause-cell c =
    let fits : FitsSigned w128 (get_or c.read_block.new.into 0 (pos 0)) = search rules in
    to_z-of_z {w = w128} {z = get_or c.read_block.new.into 0 (pos 0)} fits
    ∙ ap (λ (xs : List ℤ). get_or xs 0 (pos 0)) c.read_block.ensures.cells
    ∙ sym (tabulated-place (leaf_kind c.args.leaf.now) (leaf_shape c.args.leaf.now) (leaf_cell c.args.store.now c.args.leaf.now) c.args.place (pos 0) c.requires.place)
