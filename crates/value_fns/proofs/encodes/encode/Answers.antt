use Rattle.std.proofs.Common.{◌≡◌, ◌∙◌, ◌+◌, ◌++◌, ◌||◌, ℕ, List, false, length, refl, ap, sym, subst, arith}
use Rattle.apl_base.specs.Array.{IsShape, size_of}
use Rattle.array_desc.specs.Desc.{DescView}
use Rattle.drag_along.specs.Nodes.{leaf_shape}
use Rattle.apl_model.specs.Whole.{Answer}
use Rattle.apl_model.specs.Made.{is_above_one}
use Rattle.leaf_names.specs.Variables.{array_of}
use Rattle.made_leaf.specs.Made.{Fetched, IsMadeBy}
use Rattle.value_fns.proofs.Decoding.{low_ranks}
use Rattle.value_fns.proofs.Encoded.{shaped_answer}
use Rattle.value_fns.proofs.encodes.encode.Goals as goal

pub returns-clause-made : goal.returns-clause-made
returns-clause-made c =
    let s = c.args.store.now in
    let a = array_of s c.args.a.now in
    let b = array_of s c.args.b.now in
    let rank_a : c.rank.result ≡ length (leaf_shape c.args.a.now) = c.rank.ensures.value ∙ ap (λ (d : DescView). length d.shape) (c.behind-a.view_is ∙ c.desc.ensures) in
    let rank_b : c.rank-else-rank-gt1.result ≡ length (leaf_shape c.args.b.now) = c.rank-else-rank-gt1.ensures.value ∙ ap (λ (d : DescView). length d.shape) (c.behind-b.view_is ∙ c.desc-else-rank-gt1.ensures) in
    let ranks : (is_above_one a || is_above_one b) ≡ false = low_ranks a b c.rank.result c.rank-else-rank-gt1.result rank_a rank_b (omega arith) (omega arith) in
    let left : c.behind-a-2.inside.shape ≡ leaf_shape c.args.a.now = ap (λ (d : DescView). d.shape) (c.behind-a-2.view_is ∙ c.desc-2.ensures) in
    let right : c.behind-b-2.inside.shape ≡ leaf_shape c.args.b.now = ap (λ (d : DescView). d.shape) (c.behind-b-2.view_is ∙ c.desc-3.ensures) in
    let both : c.behind-a-2.inside.shape ++ c.behind-b-2.inside.shape ≡ leaf_shape c.args.a.now ++ leaf_shape c.args.b.now = ap (λ (ns : List ℕ). ns ++ c.behind-b-2.inside.shape) left ∙ ap (λ (ns : List ℕ). leaf_shape c.args.a.now ++ ns) right in
    let shape : IsShape (leaf_shape c.args.a.now ++ leaf_shape c.args.b.now) = subst IsShape both (c.in-Ok.ensures.exact.0 refl) in
    subst (λ (r : Answer). IsMadeBy (Fetched s (size_of (leaf_shape c.args.a.now) + size_of (leaf_shape c.args.b.now))) s c.encode_shaped.new.store r c.encode_shaped.result) (sym (shaped_answer a b ranks shape)) c.encode_shaped.ensures.made
