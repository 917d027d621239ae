use Rattle.std.proofs.Common.{◌≡◌, List, ℕ, length, vec_len, ap, ◌∙◌, subst, rules}
use Rattle.apl_base.specs.declared.cells.Kind.{Kind}
use Rattle.array_desc.specs.Desc.{DescView}
use Rattle.array_store.specs.Stores.{Makes, new_owner}
use Rattle.drag_along.specs.Nodes.{leaf_kind, leaf_shape}
use Rattle.drag_along.specs.Views.{IsWholeView}
use Rattle.e_machine.proofs.CopyLemmas.{room_for_cells, IsCopy-made}
use Rattle.e_machine.proofs.copies.own.Goals as goal

pub make-requires-clause-room : goal.make-requires-clause-room
make-requires-clause-room c =
    let count : length c.read_all.new.cells.items ≡ vec_len c.read_all.new.cells = search rules in
    room_for_cells c.args.store.now _ c.args.leaf.now _ _ c.read_all.ensures.counted (search (rules, c.in_ok-cells.ensures.within)) c.read_all.ensures.cells count

pub returns-clause-copy : goal.returns-clause-copy
returns-clause-copy c =
    let made : Makes c.read_all.new.store c.make.new.self c.in_ok-owner.owner (new_owner c.read_all.new.cells.items (leaf_kind c.args.leaf.now)) =
    subst (λ (k : Kind). Makes c.read_all.new.store c.make.new.self c.in_ok-owner.owner (new_owner c.read_all.new.cells.items k)) c.kind.ensures c.in_ok-owner.ensures.made in
    let shape : c.behind-leaf.inside.shape ≡ leaf_shape c.args.leaf.now = ap (λ (d : DescView). d.shape) (c.behind-leaf.view_is ∙ c.desc-2.ensures) in
    let shaped = subst (λ (ns : List ℕ). IsWholeView c.in_ok-owner.owner ns c.kind-2.result c.whole_view.result) shape c.whole_view.ensures in
    let view = subst (λ (k : Kind). IsWholeView c.in_ok-owner.owner (leaf_shape c.args.leaf.now) k c.whole_view.result) c.kind-2.ensures shaped in
    IsCopy-made c.args.store.now _ _ c.args.leaf.now _ _ _ c.read_all.ensures.counted c.read_all.ensures.cells made view
