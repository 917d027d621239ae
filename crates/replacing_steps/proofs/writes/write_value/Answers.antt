use mir.Syntax.{w128}
use Rattle.std.proofs.Common.{◌≡◌, ◌∙◌, ◌+◌, ◌<◌, ℕ, ℤ, ◌+ℤ◌, length, sym, ap, subst, arith, rules, to_z-of_z, FitsSigned}
use Rattle.apl_base.specs.Array.{IsIndex, size_of}
use Rattle.apl_base.proofs.Elements.{tabulated-count}
use Rattle.array_desc.specs.Desc.{DescView, dot}
use Rattle.array_store.specs.Stores.{StoreView}
use Rattle.drag_along.specs.Meaning.{leaf_cell}
use Rattle.drag_along.specs.Nodes.{leaf_kind, leaf_shape}
use Rattle.made_picks.specs.Picks.{IsReadable}
use Rattle.replacing_steps.specs.Writes.{places_in, owner_leaf}
use Rattle.replacing_steps.proofs.SelectLemmas.{start_reached, cells_counted, holders_counted, has_all, only_read}
use Rattle.replacing_steps.proofs.writes.write_value.Goals as goal

pub write_along-requires-clause-reached : goal.write_along-requires-clause-reached
write_along-requires-clause-reached c =
    let base_fits : FitsSigned w128 c.desc.inside.base = search rules in
    let base = to_z-of_z {w = w128} {z = c.desc.inside.base} base_fits in
    let only = only_read c.args.store.now c.read_block.new.store c.args.value.now 1 c.read_block.ensures.counted in
    let from = start_reached c.read_block.new.store c.args.owner c.args.desc.now c.requires.whole
    (holders_counted c.args.store.now c.read_block.new.store c.args.owner only ∙ c.requires.alone)
    (ap length (cells_counted c.args.store.now c.read_block.new.store c.args.owner only) ∙ c.requires.fills) in
    rw base (λ is index. subst (λ (z : ℤ). IsReadable c.read_block.new.store (owner_leaf c.args.owner) (z +ℤ dot c.args.desc.now.strides is)) (sym (ap (λ (d : DescView). d.base) c.desc.view_is)) (from is index))

pub write_along-requires-2-clause-reached : goal.write_along-requires-2-clause-reached
write_along-requires-2-clause-reached c =
    let base_fits : FitsSigned w128 c.desc.inside.base = search rules in
    let base = to_z-of_z {w = w128} {z = c.desc.inside.base} base_fits in
    let only = c.read_cells.ensures.counted.only in
    let from = start_reached c.read_cells.new.store c.args.owner c.args.desc.now c.requires.whole
    (holders_counted c.args.store.now c.read_cells.new.store c.args.owner only ∙ c.requires.alone)
    (ap length (cells_counted c.args.store.now c.read_cells.new.store c.args.owner only) ∙ c.requires.fills) in
    rw base (λ is index. subst (λ (z : ℤ). IsReadable c.read_cells.new.store (owner_leaf c.args.owner) (z +ℤ dot c.args.desc.now.strides is)) (sym (ap (λ (d : DescView). d.base) c.desc.view_is)) (from is index))

pub write_along-requires-2-clause-values : goal.write_along-requires-2-clause-values
write_along-requires-2-clause-values c =
    let cells = c.in_ok-cells.ensures.cells in
    has_all c.as_slice.result.now (size_of (leaf_shape c.args.value.now)) (places_in c.args.tracks.now)
    (ap length (c.as_slice.ensures.value ∙ cells) ∙ tabulated-count (leaf_kind c.args.value.now) (leaf_shape c.args.value.now) (leaf_cell c.args.store.now c.args.value.now))
    (λ e. c.if-elements-eq1.false (c.elements.ensures.value ∙ e)) c.requires.count
