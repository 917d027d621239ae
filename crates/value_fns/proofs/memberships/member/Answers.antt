use Rattle.std.proofs.Common.{◌≡◌, ◌++◌, take, drop, int_lt, ◌+◌, ◌∙◌, ℤ, List, pos, map, length, All, refl, sym, ap, subst, rules}
use Rattle.apl_base.specs.declared.cells.Kind.TheVariants.{Num}
use Rattle.apl_base.specs.Number.{IsCell}
use Rattle.apl_base.specs.Array.{IsArray, size_of}
use Rattle.std.proofs.lemmas.List.{length-map}
use Rattle.apl_base.specs.Scalar.{truth}
use Rattle.apl_base.proofs.Elements.{tabulated-count}
use Rattle.array_store.specs.Counting.{OnlyFetched}
use Rattle.array_desc.specs.Desc.{DescView, IsDesc}
use Rattle.array_store.specs.Stores.{StoreView}
use Rattle.drag_along.specs.Nodes.{leaf_desc, leaf_shape}
use Rattle.drag_along.specs.Meaning.{leaf_cell}
use Rattle.apl_model.specs.Made.{counted_from}
use Rattle.leaf_names.specs.Variables.{array_of}
use Rattle.made_leaf.proofs.MadeLemmas.{all_places, leaf_is_array}
use Rattle.value_fns.specs.Searches.{first_places}
use Rattle.value_fns.proofs.Mapped.{whole_back}
use Rattle.value_fns.proofs.Looked.{tests_array, tests_cells, tests_lawful}
use Rattle.value_fns.proofs.Ends.{no_room, no_memory, made_of}
use Rattle.value_fns.proofs.memberships.member.Goals as goal

pub returns-in_err-cells-clause-made : goal.returns-in_err-cells-clause-made
returns-in_err-cells-clause-made c =
    let a = array_of c.args.store.now c.args.a.now in
    let b = array_of c.args.store.now c.args.b.now in
    let desc_a : IsDesc (leaf_desc c.args.a.now) = subst IsDesc c.desc.ensures c.size.ensures.lawful in
    let lawful : IsArray (tests_array a b) = tests_lawful a b (leaf_is_array c.args.store.now c.args.a.now c.counts-counts.ensures.store desc_a c.requires.left) in
    let many : length (tests_array a b).cells ≡ c.size.result = lawful.count ∙ sym (c.size.ensures.value ∙ ap (λ (d : DescView). size_of d.shape) c.desc.ensures) in
    no_room c.args.store.now _ (tests_array a b) c.size.result _ _ c.in_err-cells.field-0.0 refl many c.from_residual.ensures.1 c.in_err-cells.ensures.refused

pub returns-in_err-find_elements-clause-made : goal.returns-in_err-find_elements-clause-made
returns-in_err-find_elements-clause-made c =
    let a = array_of c.args.store.now c.args.a.now in
    let b = array_of c.args.store.now c.args.b.now in
    let desc_a : IsDesc (leaf_desc c.args.a.now) = subst IsDesc c.desc.ensures c.size.ensures.lawful in
    let lawful : IsArray (tests_array a b) = tests_lawful a b (leaf_is_array c.args.store.now c.args.a.now c.counts-counts.ensures.store desc_a c.requires.left) in
    let many : length (tests_array a b).cells ≡ c.size.result = lawful.count ∙ sym (c.size.ensures.value ∙ ap (λ (d : DescView). size_of d.shape) c.desc.ensures) in
    no_memory c.args.store.now _ _ (tests_array a b) c.size.result _ _ refl many c.in_ok-cells.ensures.within c.find_elements.ensures.counted c.from_residual-in_err-find_elements.ensures.1

pub make_leaf-requires-clause-count : goal.make_leaf-requires-clause-count
make_leaf-requires-clause-count c =
    let a = array_of c.args.store.now c.args.a.now in
    let b = array_of c.args.store.now c.args.b.now in
    let desc_a : IsDesc (leaf_desc c.args.a.now) = subst IsDesc c.desc.ensures c.size.ensures.lawful in
    let lawful : IsArray (tests_array a b) = tests_lawful a b (leaf_is_array c.args.store.now c.args.a.now c.counts-counts.ensures.store desc_a c.requires.left) in
    let many : length (tests_array a b).cells ≡ c.size.result = lawful.count ∙ sym (c.size.ensures.value ∙ ap (λ (d : DescView). size_of d.shape) c.desc.ensures) in
    let long : length b.cells ≡ c.size-2.result = tabulated-count b.kind b.shape (leaf_cell c.args.store.now c.args.b.now) ∙ sym (c.size-2.ensures.value ∙ ap (λ (d : DescView). size_of d.shape) c.desc-2.ensures) in
    let found : c.as_mut_slice.result.now ≡ map (counted_from (pos 0)) (first_places b a) = c.as_mut_slice.ensures.value ∙ c.in_ok-find_elements.ensures.places in
    let tested : c.test_below.new.cells ≡ (tests_array a b).cells = c.test_below.ensures ∙ tests_cells a b c.size-2.result c.as_mut_slice.result.now long found in
    let kept : length c.test_below.new.cells ≡ length c.as_mut_slice.result.now = ap length c.test_below.ensures ∙ length-map c.as_mut_slice.result.now (λ (z : ℤ). truth (int_lt z (pos c.size-2.result))) in
    let room : length c.find_elements.new.into.items ≡ c.find_elements.new.into.len = search rules in
    let cells : take c.find_elements.new.into.len (c.test_below.new.cells ++ drop (length c.test_below.new.cells) c.find_elements.new.into.items) ≡ (tests_array a b).cells =
    whole_back c.find_elements.new.into.len c.test_below.new.cells c.find_elements.new.into.items (sym room ∙ sym (ap length c.as_mut_slice.ensures.value) ∙ sym kept) ∙ tested in
    let shape : c.behind-a.inside.shape ≡ leaf_shape c.args.a.now = ap (λ (d : DescView). d.shape) (c.behind-a.view_is ∙ c.desc-3.ensures) in
    ap length cells ∙ lawful.count ∙ sym (ap size_of shape)

pub make_leaf-requires-clause-lawful : goal.make_leaf-requires-clause-lawful
make_leaf-requires-clause-lawful c =
    let a = array_of c.args.store.now c.args.a.now in
    let b = array_of c.args.store.now c.args.b.now in
    let desc_a : IsDesc (leaf_desc c.args.a.now) = subst IsDesc c.desc.ensures c.size.ensures.lawful in
    let lawful : IsArray (tests_array a b) = tests_lawful a b (leaf_is_array c.args.store.now c.args.a.now c.counts-counts.ensures.store desc_a c.requires.left) in
    let many : length (tests_array a b).cells ≡ c.size.result = lawful.count ∙ sym (c.size.ensures.value ∙ ap (λ (d : DescView). size_of d.shape) c.desc.ensures) in
    let long : length b.cells ≡ c.size-2.result = tabulated-count b.kind b.shape (leaf_cell c.args.store.now c.args.b.now) ∙ sym (c.size-2.ensures.value ∙ ap (λ (d : DescView). size_of d.shape) c.desc-2.ensures) in
    let found : c.as_mut_slice.result.now ≡ map (counted_from (pos 0)) (first_places b a) = c.as_mut_slice.ensures.value ∙ c.in_ok-find_elements.ensures.places in
    let tested : c.test_below.new.cells ≡ (tests_array a b).cells = c.test_below.ensures ∙ tests_cells a b c.size-2.result c.as_mut_slice.result.now long found in
    let kept : length c.test_below.new.cells ≡ length c.as_mut_slice.result.now = ap length c.test_below.ensures ∙ length-map c.as_mut_slice.result.now (λ (z : ℤ). truth (int_lt z (pos c.size-2.result))) in
    let room : length c.find_elements.new.into.items ≡ c.find_elements.new.into.len = search rules in
    let cells : take c.find_elements.new.into.len (c.test_below.new.cells ++ drop (length c.test_below.new.cells) c.find_elements.new.into.items) ≡ (tests_array a b).cells =
    whole_back c.find_elements.new.into.len c.test_below.new.cells c.find_elements.new.into.items (sym room ∙ sym (ap length c.as_mut_slice.ensures.value) ∙ sym kept) ∙ tested in
    subst (λ (xs : List ℤ). All (IsCell Num) xs) (sym cells) (all_places (IsCell Num) (tests_array a b).cells lawful.cells)

pub returns-in_err-make_leaf-clause-made : goal.returns-in_err-make_leaf-clause-made
returns-in_err-make_leaf-clause-made c =
    let a = array_of c.args.store.now c.args.a.now in
    let b = array_of c.args.store.now c.args.b.now in
    let desc_a : IsDesc (leaf_desc c.args.a.now) = subst IsDesc c.desc.ensures c.size.ensures.lawful in
    let lawful : IsArray (tests_array a b) = tests_lawful a b (leaf_is_array c.args.store.now c.args.a.now c.counts-counts.ensures.store desc_a c.requires.left) in
    let many : length (tests_array a b).cells ≡ c.size.result = lawful.count ∙ sym (c.size.ensures.value ∙ ap (λ (d : DescView). size_of d.shape) c.desc.ensures) in
    let counted : OnlyFetched c.args.store.now c.make_leaf.new.store (size_of (leaf_shape c.args.a.now) + size_of (leaf_shape c.args.b.now)) =
    subst (λ (s : StoreView). OnlyFetched c.args.store.now s (size_of (leaf_shape c.args.a.now) + size_of (leaf_shape c.args.b.now))) (sym c.in_err-make_leaf.ensures.unchanged) c.find_elements.ensures.counted in
    no_memory c.args.store.now _ _ (tests_array a b) c.size.result _ _ refl many c.in_ok-cells.ensures.within counted c.from_residual-in_err-make_leaf.ensures.1

pub returns-clause-made : goal.returns-clause-made
returns-clause-made c =
    let a = array_of c.args.store.now c.args.a.now in
    let b = array_of c.args.store.now c.args.b.now in
    let desc_a : IsDesc (leaf_desc c.args.a.now) = subst IsDesc c.desc.ensures c.size.ensures.lawful in
    let lawful : IsArray (tests_array a b) = tests_lawful a b (leaf_is_array c.args.store.now c.args.a.now c.counts-counts.ensures.store desc_a c.requires.left) in
    let many : length (tests_array a b).cells ≡ c.size.result = lawful.count ∙ sym (c.size.ensures.value ∙ ap (λ (d : DescView). size_of d.shape) c.desc.ensures) in
    let long : length b.cells ≡ c.size-2.result = tabulated-count b.kind b.shape (leaf_cell c.args.store.now c.args.b.now) ∙ sym (c.size-2.ensures.value ∙ ap (λ (d : DescView). size_of d.shape) c.desc-2.ensures) in
    let found : c.as_mut_slice.result.now ≡ map (counted_from (pos 0)) (first_places b a) = c.as_mut_slice.ensures.value ∙ c.in_ok-find_elements.ensures.places in
    let tested : c.test_below.new.cells ≡ (tests_array a b).cells = c.test_below.ensures ∙ tests_cells a b c.size-2.result c.as_mut_slice.result.now long found in
    let kept : length c.test_below.new.cells ≡ length c.as_mut_slice.result.now = ap length c.test_below.ensures ∙ length-map c.as_mut_slice.result.now (λ (z : ℤ). truth (int_lt z (pos c.size-2.result))) in
    let room : length c.find_elements.new.into.items ≡ c.find_elements.new.into.len = search rules in
    let cells : take c.find_elements.new.into.len (c.test_below.new.cells ++ drop (length c.test_below.new.cells) c.find_elements.new.into.items) ≡ (tests_array a b).cells =
    whole_back c.find_elements.new.into.len c.test_below.new.cells c.find_elements.new.into.items (sym room ∙ sym (ap length c.as_mut_slice.ensures.value) ∙ sym kept) ∙ tested in
    let shape : c.behind-a.inside.shape ≡ leaf_shape c.args.a.now = ap (λ (d : DescView). d.shape) (c.behind-a.view_is ∙ c.desc-3.ensures) in
    made_of c.args.store.now c.find_elements.new.store c.make_leaf.new.store _ (tests_array a b) _ Num c.behind-a.inside.shape _ _
    refl refl shape cells c.find_elements.ensures.counted c.in_ok-make_leaf.ensures.made
