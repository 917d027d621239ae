use Rattle.std.proofs.Common.{length, ◌+ℤ◌, ◌∙◌, ap, sym, subst, rules}
use Rattle.std.specs.Int.{int_wrap}
use Rattle.std.proofs.lemmas.Int.{to_z-of_z}
use mir.Val.{SFits}
use mir.Syntax.{w128}
use Rattle.array_desc.specs.Desc.{DescView, IsDesc, dot}
use Rattle.array_desc.specs.Steps.{paired, window_start, window_length}
use Rattle.array_desc.proofs.Walks.{cell_is}
use Rattle.array_desc.proofs.Maps.{window_lengths, window-made, window_fits, window_is_shape}
use Rattle.array_desc.proofs.Sums.{meets-makes}
use Rattle.array_desc.proofs.desc.Desc.window.Goals as goal

pub dot_from-requires : goal.dot_from-requires
dot_from-requires c =
    let e = ap (λ (v : DescView). v.strides) c.self.view_is in
    let n = ap (λ (v : DescView). v.shape) c.self.view_is in
    let st = c.as_slice-2.ensures ∙ c.window_starts-starts.ensures ∙ ap (λ v. paired (window_start c.args.taking) v c.args.counts.now) (c.lengths.ensures.value ∙ n) in
    let l = (window_lengths c.args.self.now.shape (paired (window_start c.args.taking) c.args.self.now.shape c.args.counts.now) (paired (window_length c.args.taking) c.args.self.now.shape c.args.counts.now)
    (window_fits c.args.taking c.args.self.now.shape c.args.counts.now c.requires)).0 in
    ap length c.as_slice.ensures ∙ c.self.invariant.0.strides ∙ ap length n ∙ sym l ∙ ap length (sym st)

pub returns : goal.returns
returns c =
    let old = c.args.self.now in
    let P : DescView → Type 0 = IsDesc in
    let d = subst P c.self.view_is c.self.invariant.0 in
    let b = c.self.inside.base in
    let s : SFits w128 b = search rules in
    let base_is = to_z-of_z w128 b s ∙ ap (λ (v : DescView). v.base) c.self.view_is in
    let strides_are = ap (λ (v : DescView). v.strides) c.self.view_is in
    let shape_is = ap (λ (v : DescView). v.shape) c.self.view_is in
    let counts = c.args.counts.now in
    let starts = paired (window_start c.args.taking) old.shape counts in
    let lengths = paired (window_length c.args.taking) old.shape counts in
    let fits = window_fits c.args.taking old.shape counts c.requires in
    let st = c.as_slice-2.ensures ∙ c.window_starts-starts.ensures ∙ ap (λ v. paired (window_start c.args.taking) v counts) (c.lengths.ensures.value ∙ shape_is) in
    let ns = c.window_lengths.ensures ∙ ap (λ v. paired (window_length c.args.taking) v counts) (c.lengths-2.ensures.value ∙ shape_is) in
    let m = window-made old starts lengths _ _ _ d fits
    (cell_is _ _ c.dot_from.type_inv (c.dot_from.ensures
    ∙ ap (λ z. int_wrap w128 (z +ℤ dot c.as_slice.result.now c.as_slice-2.result.now)) base_is
    ∙ ap (λ v. int_wrap w128 (old.base +ℤ dot v c.as_slice-2.result.now)) (c.as_slice.ensures ∙ strides_are)
    ∙ ap (λ v. int_wrap w128 (old.base +ℤ dot old.strides v)) st))
    (c.held_inline.ensures.items ∙ c.as_slice-3.ensures ∙ strides_are)
    ns in
    meets-makes _ _ _ old _ _ d (window_is_shape old.shape starts lengths fits d.shape) ns m
