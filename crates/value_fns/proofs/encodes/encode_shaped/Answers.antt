use Rattle.std.proofs.Common.{◌≡◌, ◌∙◌, false, ap, subst}
use Rattle.apl_base.specs.Array.{IsArray, size_of}
use Rattle.apl_base.specs.Number.{IsCell}
use Rattle.array_desc.specs.Desc.{DescView, IsDesc}
use Rattle.drag_along.specs.Nodes.{leaf_desc, leaf_kind, leaf_shape}
use Rattle.apl_model.specs.Whole.{is_text}
use Rattle.leaf_names.specs.Variables.{array_of}
use Rattle.made_leaf.proofs.MadeLemmas.{all_places, leaf_is_array}
use Rattle.value_fns.proofs.Graded.{numbers_only}
use Rattle.value_fns.proofs.Decoding.{no_text}
use Rattle.value_fns.proofs.encodes.encode_shaped.Goals as goal

pub encode_leaves-requires-clause-bases : goal.encode_leaves-requires-clause-bases
encode_leaves-requires-clause-bases c =
    let s = c.args.store.now in
    let x = array_of s c.args.a.now in
    let size : c.size.result ≡ size_of (leaf_shape c.args.a.now) = c.size.ensures.value ∙ ap (λ (d : DescView). size_of d.shape) c.desc.ensures in
    let desc : IsDesc (leaf_desc c.args.a.now) = subst IsDesc c.desc.ensures c.size.ensures.lawful in
    let is : IsArray x = leaf_is_array s c.args.a.now c.counts-counts.ensures.store desc c.requires.left in
    let text : is_text x ≡ false = no_text c.kind.result (leaf_kind c.args.a.now) c.size.result (size_of (leaf_shape c.args.a.now)) c.is_text.result c.is_text.ensures c.if-is_text.false c.kind.ensures size in
    numbers_only (leaf_kind c.args.a.now) (size_of (leaf_shape c.args.a.now)) x.cells text is.count (all_places (IsCell x.kind) x.cells is.cells)

pub encode_leaves-requires-clause-values : goal.encode_leaves-requires-clause-values
encode_leaves-requires-clause-values c =
    let s = c.args.store.now in
    let x = array_of s c.args.b.now in
    let size : c.size-else-is_text.result ≡ size_of (leaf_shape c.args.b.now) = c.size-else-is_text.ensures.value ∙ ap (λ (d : DescView). size_of d.shape) c.desc-else-is_text.ensures in
    let desc : IsDesc (leaf_desc c.args.b.now) = subst IsDesc c.desc-else-is_text.ensures c.size-else-is_text.ensures.lawful in
    let is : IsArray x = leaf_is_array s c.args.b.now c.counts-counts.ensures.store desc c.requires.right in
    let text : is_text x ≡ false = no_text c.kind-else-is_text.result (leaf_kind c.args.b.now) c.size-else-is_text.result (size_of (leaf_shape c.args.b.now)) c.is_text-else-is_text.result c.is_text-else-is_text.ensures c.if-is_text-2.false c.kind-else-is_text.ensures size in
    numbers_only (leaf_kind c.args.b.now) (size_of (leaf_shape c.args.b.now)) x.cells text is.count (all_places (IsCell x.kind) x.cells is.cells)
