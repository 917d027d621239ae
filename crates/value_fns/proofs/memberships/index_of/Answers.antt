use Rattle.std.proofs.Common.{◌≡◌, ◌+◌, ◌∙◌, ℤ, List, length, All, refl, sym, ap, subst}
use Rattle.apl_base.specs.declared.cells.Kind.TheVariants.{Num}
use Rattle.apl_base.specs.Number.{IsCell}
use Rattle.array_store.specs.Counting.{OnlyFetched}
use Rattle.apl_base.specs.Array.{IsArray, size_of}
use Rattle.array_desc.specs.Desc.{DescView, IsDesc}
use Rattle.array_store.specs.Stores.{StoreView}
use Rattle.drag_along.specs.Nodes.{leaf_desc, leaf_shape}
use Rattle.leaf_names.specs.Variables.{array_of}
use Rattle.made_leaf.proofs.MadeLemmas.{all_places, leaf_is_array}
use Rattle.value_fns.proofs.Looked.{places_array, places_answer, places_lawful, places_cells}
use Rattle.value_fns.proofs.Ends.{no_room, no_memory, made_of}
use Rattle.value_fns.proofs.memberships.index_of.Goals as goal

pub returns-in_err-cells-clause-made : goal.returns-in_err-cells-clause-made
returns-in_err-cells-clause-made c =
    let a = array_of c.args.store.now c.args.a.now in
    let b = array_of c.args.store.now c.args.b.now in
    let desc_a : IsDesc (leaf_desc c.args.a.now) = subst IsDesc (c.behind-a.view_is ∙ c.desc.ensures) c.behind-a.invariant.0 in
    let desc_b : IsDesc (leaf_desc c.args.b.now) = subst IsDesc c.desc-2.ensures c.size.ensures.lawful in
    let one : length (leaf_shape c.args.a.now) ≡ 1 = sym (ap (λ (d : DescView). length d.shape) (c.behind-a.view_is ∙ c.desc.ensures)) ∙ sym c.rank.ensures.value ∙ c.if-rank-ne1.false in
    let lawful : IsArray (places_array c.args.origin a b) = places_lawful c.args.origin a b c.requires.origin
    (leaf_is_array c.args.store.now c.args.a.now c.counts-counts.ensures.store desc_a c.requires.left)
    (leaf_is_array c.args.store.now c.args.b.now c.counts-counts.ensures.store desc_b c.requires.right) one in
    let many : length (places_array c.args.origin a b).cells ≡ c.size.result = lawful.count ∙ sym (c.size.ensures.value ∙ ap (λ (d : DescView). size_of d.shape) c.desc-2.ensures) in
    no_room c.args.store.now _ (places_array c.args.origin a b) c.size.result _ _ c.in_err-cells.field-0.0 (places_answer c.args.origin a b one) many c.from_residual.ensures.1 c.in_err-cells.ensures.refused

pub returns-in_err-find_elements-clause-made : goal.returns-in_err-find_elements-clause-made
returns-in_err-find_elements-clause-made c =
    let a = array_of c.args.store.now c.args.a.now in
    let b = array_of c.args.store.now c.args.b.now in
    let desc_a : IsDesc (leaf_desc c.args.a.now) = subst IsDesc (c.behind-a.view_is ∙ c.desc.ensures) c.behind-a.invariant.0 in
    let desc_b : IsDesc (leaf_desc c.args.b.now) = subst IsDesc c.desc-2.ensures c.size.ensures.lawful in
    let one : length (leaf_shape c.args.a.now) ≡ 1 = sym (ap (λ (d : DescView). length d.shape) (c.behind-a.view_is ∙ c.desc.ensures)) ∙ sym c.rank.ensures.value ∙ c.if-rank-ne1.false in
    let lawful : IsArray (places_array c.args.origin a b) = places_lawful c.args.origin a b c.requires.origin
    (leaf_is_array c.args.store.now c.args.a.now c.counts-counts.ensures.store desc_a c.requires.left)
    (leaf_is_array c.args.store.now c.args.b.now c.counts-counts.ensures.store desc_b c.requires.right) one in
    let many : length (places_array c.args.origin a b).cells ≡ c.size.result = lawful.count ∙ sym (c.size.ensures.value ∙ ap (λ (d : DescView). size_of d.shape) c.desc-2.ensures) in
    no_memory c.args.store.now _ _ (places_array c.args.origin a b) c.size.result _ _ (places_answer c.args.origin a b one) many c.in_ok-cells.ensures.within c.find_elements.ensures.counted c.from_residual-in_err-find_elements.ensures.1

pub make_leaf-requires-clause-count : goal.make_leaf-requires-clause-count
make_leaf-requires-clause-count c =
    let a = array_of c.args.store.now c.args.a.now in
    let b = array_of c.args.store.now c.args.b.now in
    let desc_a : IsDesc (leaf_desc c.args.a.now) = subst IsDesc (c.behind-a.view_is ∙ c.desc.ensures) c.behind-a.invariant.0 in
    let desc_b : IsDesc (leaf_desc c.args.b.now) = subst IsDesc c.desc-2.ensures c.size.ensures.lawful in
    let one : length (leaf_shape c.args.a.now) ≡ 1 = sym (ap (λ (d : DescView). length d.shape) (c.behind-a.view_is ∙ c.desc.ensures)) ∙ sym c.rank.ensures.value ∙ c.if-rank-ne1.false in
    let lawful : IsArray (places_array c.args.origin a b) = places_lawful c.args.origin a b c.requires.origin
    (leaf_is_array c.args.store.now c.args.a.now c.counts-counts.ensures.store desc_a c.requires.left)
    (leaf_is_array c.args.store.now c.args.b.now c.counts-counts.ensures.store desc_b c.requires.right) one in
    let many : length (places_array c.args.origin a b).cells ≡ c.size.result = lawful.count ∙ sym (c.size.ensures.value ∙ ap (λ (d : DescView). size_of d.shape) c.desc-2.ensures) in
    let cells : c.find_elements.new.into.items ≡ (places_array c.args.origin a b).cells = places_cells c.args.origin a b _ c.requires.origin c.in_ok-find_elements.ensures.places in
    let shape : c.behind-b.inside.shape ≡ leaf_shape c.args.b.now = ap (λ (d : DescView). d.shape) (c.behind-b.view_is ∙ c.desc-3.ensures) in
    ap length cells ∙ lawful.count ∙ sym (ap size_of shape)

pub make_leaf-requires-clause-lawful : goal.make_leaf-requires-clause-lawful
make_leaf-requires-clause-lawful c =
    let a = array_of c.args.store.now c.args.a.now in
    let b = array_of c.args.store.now c.args.b.now in
    let desc_a : IsDesc (leaf_desc c.args.a.now) = subst IsDesc (c.behind-a.view_is ∙ c.desc.ensures) c.behind-a.invariant.0 in
    let desc_b : IsDesc (leaf_desc c.args.b.now) = subst IsDesc c.desc-2.ensures c.size.ensures.lawful in
    let one : length (leaf_shape c.args.a.now) ≡ 1 = sym (ap (λ (d : DescView). length d.shape) (c.behind-a.view_is ∙ c.desc.ensures)) ∙ sym c.rank.ensures.value ∙ c.if-rank-ne1.false in
    let lawful : IsArray (places_array c.args.origin a b) = places_lawful c.args.origin a b c.requires.origin
    (leaf_is_array c.args.store.now c.args.a.now c.counts-counts.ensures.store desc_a c.requires.left)
    (leaf_is_array c.args.store.now c.args.b.now c.counts-counts.ensures.store desc_b c.requires.right) one in
    let many : length (places_array c.args.origin a b).cells ≡ c.size.result = lawful.count ∙ sym (c.size.ensures.value ∙ ap (λ (d : DescView). size_of d.shape) c.desc-2.ensures) in
    let cells : c.find_elements.new.into.items ≡ (places_array c.args.origin a b).cells = places_cells c.args.origin a b _ c.requires.origin c.in_ok-find_elements.ensures.places in
    subst (λ (xs : List ℤ). All (IsCell Num) xs) (sym cells) (all_places (IsCell Num) (places_array c.args.origin a b).cells lawful.cells)

pub returns-in_err-make_leaf-clause-made : goal.returns-in_err-make_leaf-clause-made
returns-in_err-make_leaf-clause-made c =
    let a = array_of c.args.store.now c.args.a.now in
    let b = array_of c.args.store.now c.args.b.now in
    let desc_a : IsDesc (leaf_desc c.args.a.now) = subst IsDesc (c.behind-a.view_is ∙ c.desc.ensures) c.behind-a.invariant.0 in
    let desc_b : IsDesc (leaf_desc c.args.b.now) = subst IsDesc c.desc-2.ensures c.size.ensures.lawful in
    let one : length (leaf_shape c.args.a.now) ≡ 1 = sym (ap (λ (d : DescView). length d.shape) (c.behind-a.view_is ∙ c.desc.ensures)) ∙ sym c.rank.ensures.value ∙ c.if-rank-ne1.false in
    let lawful : IsArray (places_array c.args.origin a b) = places_lawful c.args.origin a b c.requires.origin
    (leaf_is_array c.args.store.now c.args.a.now c.counts-counts.ensures.store desc_a c.requires.left)
    (leaf_is_array c.args.store.now c.args.b.now c.counts-counts.ensures.store desc_b c.requires.right) one in
    let many : length (places_array c.args.origin a b).cells ≡ c.size.result = lawful.count ∙ sym (c.size.ensures.value ∙ ap (λ (d : DescView). size_of d.shape) c.desc-2.ensures) in
    let counted : OnlyFetched c.args.store.now c.make_leaf.new.store (size_of (leaf_shape c.args.b.now) + size_of (leaf_shape c.args.a.now)) =
    subst (λ (s : StoreView). OnlyFetched c.args.store.now s (size_of (leaf_shape c.args.b.now) + size_of (leaf_shape c.args.a.now))) (sym c.in_err-make_leaf.ensures.unchanged) c.find_elements.ensures.counted in
    no_memory c.args.store.now _ _ (places_array c.args.origin a b) c.size.result _ _ (places_answer c.args.origin a b one) many c.in_ok-cells.ensures.within counted c.from_residual-in_err-make_leaf.ensures.1

pub returns-clause-made : goal.returns-clause-made
returns-clause-made c =
    let a = array_of c.args.store.now c.args.a.now in
    let b = array_of c.args.store.now c.args.b.now in
    let desc_a : IsDesc (leaf_desc c.args.a.now) = subst IsDesc (c.behind-a.view_is ∙ c.desc.ensures) c.behind-a.invariant.0 in
    let desc_b : IsDesc (leaf_desc c.args.b.now) = subst IsDesc c.desc-2.ensures c.size.ensures.lawful in
    let one : length (leaf_shape c.args.a.now) ≡ 1 = sym (ap (λ (d : DescView). length d.shape) (c.behind-a.view_is ∙ c.desc.ensures)) ∙ sym c.rank.ensures.value ∙ c.if-rank-ne1.false in
    let lawful : IsArray (places_array c.args.origin a b) = places_lawful c.args.origin a b c.requires.origin
    (leaf_is_array c.args.store.now c.args.a.now c.counts-counts.ensures.store desc_a c.requires.left)
    (leaf_is_array c.args.store.now c.args.b.now c.counts-counts.ensures.store desc_b c.requires.right) one in
    let many : length (places_array c.args.origin a b).cells ≡ c.size.result = lawful.count ∙ sym (c.size.ensures.value ∙ ap (λ (d : DescView). size_of d.shape) c.desc-2.ensures) in
    let cells : c.find_elements.new.into.items ≡ (places_array c.args.origin a b).cells = places_cells c.args.origin a b _ c.requires.origin c.in_ok-find_elements.ensures.places in
    let shape : c.behind-b.inside.shape ≡ leaf_shape c.args.b.now = ap (λ (d : DescView). d.shape) (c.behind-b.view_is ∙ c.desc-3.ensures) in
    made_of c.args.store.now c.find_elements.new.store c.make_leaf.new.store _ (places_array c.args.origin a b) _ Num c.behind-b.inside.shape c.find_elements.new.into.items _
    (places_answer c.args.origin a b one) refl shape cells c.find_elements.ensures.counted c.in_ok-make_leaf.ensures.made
