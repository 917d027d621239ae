use mir.Syntax.{w128}
use Rattle.std.proofs.Common.{◌≡◌, ℤ, false, ap, ◌∙◌, subst, slice_index}
use Rattle.std.proofs.lemmas.Int.{to_z-of_z}
use Rattle.drag_along.specs.Segments.{SegmentView}
use Rattle.beating.specs.Positions.{IsItemOf}
use Rattle.beating.specs.declared.selections.Selection.TheVariants as select
use Rattle.pending_use.proofs.Vectors.{shape_of_item, place_of_item}
use Rattle.pending_use.proofs.positions.select_positions.Goals as goal

pub returns-clause-selected : goal.returns-clause-selected
returns-clause-selected c =
    let item = c.in_ok-item.item in
    let items = c.one_item.result.items in
    let long : c.len.result ≡ slice_index c.args.s.now.shape 0 =
    c.len.ensures.value ∙ ap (λ (g : SegmentView). slice_index g.shape 0) c.s.view_is in
    let of_item : IsItemOf c.args.origin c.len.result c.args.positions false item =
    subst (λ (o : ℤ). IsItemOf o c.len.result c.args.positions false item) (to_z-of_z w128 _ c.ranges.origin) c.in_ok-item.ensures.item in
    record {
      by = select.Index c.one_item.result;
      shape = shape_of_item c.args.origin c.len.result c.args.positions item items c.args.s.now.shape c.requires.vector long c.one_item.ensures of_item;
      places = place_of_item c.args.origin c.len.result c.args.positions item items c.one_item.ensures of_item;
      meaning = c.select.ensures.meaning;
    }
