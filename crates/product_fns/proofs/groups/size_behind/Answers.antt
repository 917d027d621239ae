use Rattle.std.proofs.Common.{◌≡◌, ℕ, suc, ◌+◌, true, false, List, drop, sym, ap, ◌∙◌, subst, arith}
use Rattle.apl_base.specs.Array.{IsShape}
use Rattle.product_fns.proofs.GroupLemmas.{behind_is_shape, rest-whole}
use Rattle.product_fns.proofs.groups.size_behind.Goals as goal

pub unreachable-requires : goal.unreachable-requires
unreachable-requires c =
    let next : c.args.axis + 1 ≡ suc c.args.axis = omega arith in
    let rest = rest-whole (c.args.axis + 1) c.lengths.result.now ∙ ap (λ (k : ℕ). drop k c.lengths.result.now) next ∙ ap (λ (ns : List ℕ). drop (suc c.args.axis) ns) c.lengths.ensures.value in
    let fits = subst IsShape (sym rest) (behind_is_shape c.args.shape.now c.args.axis c.lengths.ensures.lawful c.requires.some c.requires.few) in
    let f : false ≡ true = c.in-Err.ensures.exact.1 fits in
    cc
