use Rattle.std.proofs.Common.{◌≡◌, ◌==◌, Bool, pos, if◌then◌else◌, sym, subst, ◌∙◌, ap, rules}
use Rattle.std.proofs.lemmas.Int.{to_z-of_z}
use mir.Val.{SFits, to_z, of_z}
use mir.Syntax.{w128}
use Rattle.apl_base.specs.Array.{size_of}
use Rattle.array_desc.specs.Steps.{paired, stride_kept}
use Rattle.array_desc.specs.Desc.{DescView, IsDesc, number}
use Rattle.array_desc.proofs.Kept.{kept, kept_is, kept-lawful, number-kept}
use Rattle.array_desc.proofs.Walks.{cell_is}
use Rattle.array_desc.proofs.Sums.{Numbers}
use Rattle.array_desc.proofs.parts.Parts.settled.Goals as goal

abbrev made : goal.After-kept_strides → DescView
made c = record { base = to_z w128 (of_z w128 c.kept_base.result); strides = c.kept_strides.result.items; shape = c.shape_of-shape.result }

abbrev is_empty : goal.After-kept_strides → Bool
is_empty c = c.size-empty.result == 0

shape_is : (c : goal.After-kept_strides) → c.shape_of-shape.result ≡ c.args.self.now.lengths.items
shape_is c = c.shape_of-shape.ensures ∙ c.as_slice.ensures

made_is : (c : goal.After-kept_strides) → made c ≡ kept (is_empty c) c.args.self.now.base c.args.self.now.strides.items c.args.self.now.lengths.items
made_is c =
    let b = c.args.self.now.base in
    let ss = c.args.self.now.strides.items in
    let ns = c.args.self.now.lengths.items in
    let e = is_empty c in
    let s : SFits w128 b = search rules in
    kept_is e b ss ns (made c)
    (cell_is _ _ c.kept_base.type_inv c.kept_base.ensures ∙ ap (λ x. if e then pos 0 else x) (to_z-of_z w128 b s))
    (c.kept_strides.ensures.items ∙ ap (λ x. paired (stride_kept e) x c.as_slice-3.result.now) c.as_slice-2.ensures ∙ ap (paired (stride_kept e) ss) c.as_slice-3.ensures)
    (shape_is c)

empty_is : (c : goal.After-kept_strides) → is_empty c ≡ (size_of c.args.self.now.lengths.items == 0)
empty_is c = ap (λ n. n == 0) (c.size-empty.ensures.value ∙ ap size_of (shape_is c))

lawful : (c : goal.After-kept_strides) → IsDesc (made c)
lawful c =
    let h : Numbers c.args.self.now.base c.args.self.now.strides.items c.args.self.now.lengths.items = record { each = c.requires.numbers } in
    let P : DescView → Type 0 = IsDesc in
    subst P (sym (made_is c)) (kept-lawful (is_empty c) c.args.self.now.base c.args.self.now.strides.items c.args.self.now.lengths.items (empty_is c) c.requires.shape c.requires.axes h)

pub invariant_of-result : goal.invariant_of-result
invariant_of-result c = (lawful c, c.kept_strides.ensures.capacity)

pub returns-clause-numbers : goal.returns-clause-numbers
returns-clause-numbers c = λ i q.
    ap (λ (d : DescView). number d i) (made_is c)
    ∙ number-kept (is_empty c) c.args.self.now.base c.args.self.now.strides.items c.args.self.now.lengths.items i (empty_is c) q

pub returns-clause-lawful : goal.returns-clause-lawful
returns-clause-lawful c = lawful c
