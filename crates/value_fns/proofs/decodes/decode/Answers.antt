use Rattle.std.proofs.Common.{◌≡◌, ◌∙◌, ℤ, ◌||◌, false, Some, Ok, length, ap, subst, arith, rules, Option, to_z, of_z, to_z-of_z, FitsSigned}
use Rattle.std.specs.Int.{w128}
use Rattle.apl_base.specs.declared.cells.Kind.TheVariants.{Num}
use Rattle.apl_base.specs.Array.{IsArray, size_of}
use Rattle.apl_base.specs.Number.{IsCell}
use Rattle.array_desc.specs.Desc.{DescView, IsDesc}
use Rattle.drag_along.specs.Nodes.{leaf_desc, leaf_kind, leaf_shape}
use Rattle.apl_model.specs.Whole.{is_text, scalar}
use Rattle.apl_model.specs.Made.{decode, is_above_one}
use Rattle.leaf_names.specs.Variables.{array_of}
use Rattle.made_leaf.proofs.MadeLemmas.{all_places, leaf_is_array}
use Rattle.value_fns.specs.Decoded.{AreOfOneLength, decoded_of}
use Rattle.value_fns.proofs.Ends.{widened}
use Rattle.value_fns.proofs.Graded.{numbers_only}
use Rattle.value_fns.proofs.Decoding.{decode_answer, low_ranks, same_lengths, left_single, right_single, no_text, no_texts}
use Rattle.value_fns.proofs.decodes.decode.Goals as goal
use Rattle.value_fns.proofs.decodes.decode.Goals.{else-bases-ne1-via-then-bases-ne1+then-digits-ne1+else-bases-digits, else-bases-ne1-via-then-bases-ne1+else-digits-ne1, else-bases-ne1-via-else-bases-ne1}

pub decode_leaves-requires-clause-digits : goal.decode_leaves-requires-clause-digits
decode_leaves-requires-clause-digits c =
    let a = array_of c.args.store.now c.args.a.now in
    let b = array_of c.args.store.now c.args.b.now in
    let count_a : c.size-bases.result ≡ size_of (leaf_shape c.args.a.now) = c.size-bases.ensures.value ∙ ap (λ (d : DescView). size_of d.shape) c.desc-2.ensures in
    let count_b : c.size-digits.result ≡ size_of (leaf_shape c.args.b.now) = c.size-digits.ensures.value ∙ ap (λ (d : DescView). size_of d.shape) c.desc-3.ensures in
    let text_b : is_text b ≡ false = no_text c.kind-else-is_text.result (leaf_kind c.args.b.now) c.size-digits.result (size_of (leaf_shape c.args.b.now)) c.is_text-else-is_text.result c.is_text-else-is_text.ensures c.if-is_text-2.false c.kind-else-is_text.ensures count_b in
    let desc : IsDesc (leaf_desc c.args.b.now) = subst IsDesc c.desc-3.ensures c.size-digits.ensures.lawful in
    let is : IsArray b = leaf_is_array c.args.store.now c.args.b.now c.counts-counts.ensures.store desc c.requires.right in
    numbers_only (leaf_kind c.args.b.now) (size_of (leaf_shape c.args.b.now)) b.cells text_b is.count (all_places (IsCell b.kind) b.cells is.cells)

pub returns-clause-made : goal.returns-clause-made
returns-clause-made c =
    let a = array_of c.args.store.now c.args.a.now in
    let b = array_of c.args.store.now c.args.b.now in
    let count_a : c.size-bases.result ≡ size_of (leaf_shape c.args.a.now) = c.size-bases.ensures.value ∙ ap (λ (d : DescView). size_of d.shape) c.desc-2.ensures in
    let count_b : c.size-digits.result ≡ size_of (leaf_shape c.args.b.now) = c.size-digits.ensures.value ∙ ap (λ (d : DescView). size_of d.shape) c.desc-3.ensures in
    let text_b : is_text b ≡ false = no_text c.kind-else-is_text.result (leaf_kind c.args.b.now) c.size-digits.result (size_of (leaf_shape c.args.b.now)) c.is_text-else-is_text.result c.is_text-else-is_text.ensures c.if-is_text-2.false c.kind-else-is_text.ensures count_b in
    let text_a : is_text a ≡ false = no_text c.kind.result (leaf_kind c.args.a.now) c.size-bases.result (size_of (leaf_shape c.args.a.now)) c.is_text.result c.is_text.ensures c.if-is_text.false c.kind.ensures count_a in
    let rank_a : c.rank.result ≡ length (leaf_shape c.args.a.now) = c.rank.ensures.value ∙ ap (λ (d : DescView). length d.shape) (c.behind-a.view_is ∙ c.desc.ensures) in
    let rank_b : c.rank-else-rank-gt1.result ≡ length (leaf_shape c.args.b.now) = c.rank-else-rank-gt1.ensures.value ∙ ap (λ (d : DescView). length d.shape) (c.behind-b.view_is ∙ c.desc-else-rank-gt1.ensures) in
    let ranks : (is_above_one a || is_above_one b) ≡ false = low_ranks a b c.rank.result c.rank-else-rank-gt1.result rank_a rank_b (omega arith) (omega arith) in
    let lengths : AreOfOneLength a b = elim c.else-bases-ne1.branch [
      | else-bases-ne1-via-then-bases-ne1+then-digits-ne1+else-bases-digits w ↦ same_lengths a b c.size-bases.result c.size-digits.result count_a count_b w.if-bases-digits.false
      | else-bases-ne1-via-then-bases-ne1+else-digits-ne1 w ↦ right_single a b c.size-digits.result count_b w.if-digits-ne1.false
      | else-bases-ne1-via-else-bases-ne1 w ↦ left_single a b c.size-bases.result count_a w.if-bases-ne1.false
    ] in
    let fits : FitsSigned w128 c.in-Some.number = search rules in
    let number : Some (to_z w128 (of_z w128 c.in-Some.number)) ≡ decoded_of a b = ap (λ (z : ℤ). let o : Option ℤ = Some z in o) (to_z-of_z {w = w128} {z = c.in-Some.number} fits) ∙ c.in-Some.ensures.number in
    widened c.args.store.now c.decode_leaves.new.store _ (decode a b) (Ok (scalar Num (to_z w128 (of_z w128 c.in-Some.number)))) _ _
    (decode_answer a b (to_z w128 (of_z w128 c.in-Some.number)) ranks lengths (no_texts a b text_a text_b) number) c.decode_leaves.ensures.counted c.number_leaf.ensures.made
