use Rattle.std.proofs.Common.{◌≡◌, ◌==◌, ◌++◌, ◌&&◌, not, false, take, drop, ◌∙◌, ℕ, ℤ, List, length, All, refl, sym, ap, subst, rules}
use Rattle.apl_base.specs.declared.cells.Kind.{Kind}
use Rattle.apl_base.specs.declared.cells.Kind.TheVariants.{Num}
use Rattle.apl_base.specs.Number.{IsCell}
use Rattle.apl_base.specs.Array.{IsArray, size_of}
use Rattle.array_desc.specs.Desc.{DescView, IsDesc}
use Rattle.array_store.specs.Stores.{StoreView}
use Rattle.array_store.specs.Counting.{OnlyFetched}
use Rattle.drag_along.specs.Nodes.{leaf_desc, leaf_shape}
use Rattle.apl_model.specs.Whole.{is_char, is_text}
use Rattle.leaf_names.specs.Variables.{array_of}
use Rattle.made_leaf.proofs.MadeLemmas.{all_places, leaf_is_array}
use Rattle.value_fns.proofs.Graded.{graded, graded_answer, graded_lawful, graded_count, graded_shape, graded_back}
use Rattle.value_fns.proofs.Ends.{no_room, no_memory, made_of}
use Rattle.value_fns.proofs.grades.grade.Goals as goal

pub returns-in_err-cells-clause-made : goal.returns-in_err-cells-clause-made
returns-in_err-cells-clause-made c =
    let b = array_of c.args.store.now c.args.b.now in
    let desc : IsDesc (leaf_desc c.args.b.now) = subst IsDesc c.desc.ensures c.size-count.ensures.lawful in
    let is : IsArray b = leaf_is_array c.args.store.now c.args.b.now c.counts-counts.ensures.store desc c.requires.right in
    let size : c.size-count.result ≡ size_of (leaf_shape c.args.b.now) = c.size-count.ensures.value ∙ ap (λ (d : DescView). size_of d.shape) c.desc.ensures in
    let one : length (leaf_shape c.args.b.now) ≡ 1 = sym (ap (λ (d : DescView). length d.shape) (c.behind-b.view_is ∙ c.desc-2.ensures)) ∙ sym c.rank.ensures.value ∙ c.if-rank-ne1.false in
    let tested : (is_char c.kind.result && not (c.size-count.result == 0)) ≡ false = sym c.is_text.ensures ∙ c.if-is_text.false in
    let numbers : is_text b ≡ false = ap (λ (k : Kind). is_char k && not (size_of (leaf_shape c.args.b.now) == 0)) (sym c.kind.ensures) ∙ ap (λ (n : ℕ). is_char c.kind.result && not (n == 0)) (sym size) ∙ tested in
    let answer = graded_answer c.args.down c.args.origin b one numbers in
    let many : length (graded c.args.down c.args.origin b).cells ≡ c.size-count.result = graded_count c.args.down c.args.origin b ∙ sym size in
    no_room c.args.store.now _ (graded c.args.down c.args.origin b) c.size-count.result _ _ c.in_err-cells.field-0.0 answer many c.from_residual.ensures.1 c.in_err-cells.ensures.refused

pub returns-in_err-order_cells-clause-made : goal.returns-in_err-order_cells-clause-made
returns-in_err-order_cells-clause-made c =
    let b = array_of c.args.store.now c.args.b.now in
    let desc : IsDesc (leaf_desc c.args.b.now) = subst IsDesc c.desc.ensures c.size-count.ensures.lawful in
    let is : IsArray b = leaf_is_array c.args.store.now c.args.b.now c.counts-counts.ensures.store desc c.requires.right in
    let size : c.size-count.result ≡ size_of (leaf_shape c.args.b.now) = c.size-count.ensures.value ∙ ap (λ (d : DescView). size_of d.shape) c.desc.ensures in
    let one : length (leaf_shape c.args.b.now) ≡ 1 = sym (ap (λ (d : DescView). length d.shape) (c.behind-b.view_is ∙ c.desc-2.ensures)) ∙ sym c.rank.ensures.value ∙ c.if-rank-ne1.false in
    let tested : (is_char c.kind.result && not (c.size-count.result == 0)) ≡ false = sym c.is_text.ensures ∙ c.if-is_text.false in
    let numbers : is_text b ≡ false = ap (λ (k : Kind). is_char k && not (size_of (leaf_shape c.args.b.now) == 0)) (sym c.kind.ensures) ∙ ap (λ (n : ℕ). is_char c.kind.result && not (n == 0)) (sym size) ∙ tested in
    let answer = graded_answer c.args.down c.args.origin b one numbers in
    let many : length (graded c.args.down c.args.origin b).cells ≡ c.size-count.result = graded_count c.args.down c.args.origin b ∙ sym size in
    no_memory c.args.store.now _ _ (graded c.args.down c.args.origin b) c.size-count.result _ _ answer many c.in_ok-cells.ensures.within c.read_all.ensures.counted c.from_residual-in_err-order_cells.ensures.1

pub make_leaf-requires-clause-count : goal.make_leaf-requires-clause-count
make_leaf-requires-clause-count c =
    let b = array_of c.args.store.now c.args.b.now in
    let desc : IsDesc (leaf_desc c.args.b.now) = subst IsDesc c.desc.ensures c.size-count.ensures.lawful in
    let is : IsArray b = leaf_is_array c.args.store.now c.args.b.now c.counts-counts.ensures.store desc c.requires.right in
    let size : c.size-count.result ≡ size_of (leaf_shape c.args.b.now) = c.size-count.ensures.value ∙ ap (λ (d : DescView). size_of d.shape) c.desc.ensures in
    let one : length (leaf_shape c.args.b.now) ≡ 1 = sym (ap (λ (d : DescView). length d.shape) (c.behind-b.view_is ∙ c.desc-2.ensures)) ∙ sym c.rank.ensures.value ∙ c.if-rank-ne1.false in
    let tested : (is_char c.kind.result && not (c.size-count.result == 0)) ≡ false = sym c.is_text.ensures ∙ c.if-is_text.false in
    let numbers : is_text b ≡ false = ap (λ (k : Kind). is_char k && not (size_of (leaf_shape c.args.b.now) == 0)) (sym c.kind.ensures) ∙ ap (λ (n : ℕ). is_char c.kind.result && not (n == 0)) (sym size) ∙ tested in
    let answer = graded_answer c.args.down c.args.origin b one numbers in
    let many : length (graded c.args.down c.args.origin b).cells ≡ c.size-count.result = graded_count c.args.down c.args.origin b ∙ sym size in
    let lawful : IsArray (graded c.args.down c.args.origin b) = graded_lawful c.args.down c.args.origin b c.requires.origin is one numbers in
    let room : length c.read_all.new.into.items ≡ c.read_all.new.into.len = search rules in
    let cells : take c.read_all.new.into.len (c.order_cells.new.cells ++ drop (length c.order_cells.new.cells) c.read_all.new.into.items) ≡ (graded c.args.down c.args.origin b).cells =
    graded_back c.args.down c.args.origin b c.read_all.new.into.len c.as_mut_slice.result.now c.read_all.new.into.items _ c.order_cells.new.cells c.requires.origin is c.in_ok-cells.ensures.empty c.read_all.ensures.cells c.as_mut_slice.ensures.value c.in_ok-order_cells.ensures (sym room) in
    let shape : c.behind-b-3.inside.shape ≡ (graded c.args.down c.args.origin b).shape =
    graded_shape c.args.down c.args.origin b c.behind-b-3.inside.shape (ap (λ (d : DescView). d.shape) (c.behind-b-3.view_is ∙ c.desc-4.ensures)) one in
    ap length cells ∙ lawful.count ∙ sym (ap size_of shape)

pub make_leaf-requires-clause-lawful : goal.make_leaf-requires-clause-lawful
make_leaf-requires-clause-lawful c =
    let b = array_of c.args.store.now c.args.b.now in
    let desc : IsDesc (leaf_desc c.args.b.now) = subst IsDesc c.desc.ensures c.size-count.ensures.lawful in
    let is : IsArray b = leaf_is_array c.args.store.now c.args.b.now c.counts-counts.ensures.store desc c.requires.right in
    let size : c.size-count.result ≡ size_of (leaf_shape c.args.b.now) = c.size-count.ensures.value ∙ ap (λ (d : DescView). size_of d.shape) c.desc.ensures in
    let one : length (leaf_shape c.args.b.now) ≡ 1 = sym (ap (λ (d : DescView). length d.shape) (c.behind-b.view_is ∙ c.desc-2.ensures)) ∙ sym c.rank.ensures.value ∙ c.if-rank-ne1.false in
    let tested : (is_char c.kind.result && not (c.size-count.result == 0)) ≡ false = sym c.is_text.ensures ∙ c.if-is_text.false in
    let numbers : is_text b ≡ false = ap (λ (k : Kind). is_char k && not (size_of (leaf_shape c.args.b.now) == 0)) (sym c.kind.ensures) ∙ ap (λ (n : ℕ). is_char c.kind.result && not (n == 0)) (sym size) ∙ tested in
    let answer = graded_answer c.args.down c.args.origin b one numbers in
    let many : length (graded c.args.down c.args.origin b).cells ≡ c.size-count.result = graded_count c.args.down c.args.origin b ∙ sym size in
    let lawful : IsArray (graded c.args.down c.args.origin b) = graded_lawful c.args.down c.args.origin b c.requires.origin is one numbers in
    let room : length c.read_all.new.into.items ≡ c.read_all.new.into.len = search rules in
    let cells : take c.read_all.new.into.len (c.order_cells.new.cells ++ drop (length c.order_cells.new.cells) c.read_all.new.into.items) ≡ (graded c.args.down c.args.origin b).cells =
    graded_back c.args.down c.args.origin b c.read_all.new.into.len c.as_mut_slice.result.now c.read_all.new.into.items _ c.order_cells.new.cells c.requires.origin is c.in_ok-cells.ensures.empty c.read_all.ensures.cells c.as_mut_slice.ensures.value c.in_ok-order_cells.ensures (sym room) in
    subst (λ (xs : List ℤ). All (IsCell Num) xs) (sym cells) (all_places (IsCell Num) (graded c.args.down c.args.origin b).cells lawful.cells)

pub returns-in_err-make_leaf-clause-made : goal.returns-in_err-make_leaf-clause-made
returns-in_err-make_leaf-clause-made c =
    let b = array_of c.args.store.now c.args.b.now in
    let desc : IsDesc (leaf_desc c.args.b.now) = subst IsDesc c.desc.ensures c.size-count.ensures.lawful in
    let is : IsArray b = leaf_is_array c.args.store.now c.args.b.now c.counts-counts.ensures.store desc c.requires.right in
    let size : c.size-count.result ≡ size_of (leaf_shape c.args.b.now) = c.size-count.ensures.value ∙ ap (λ (d : DescView). size_of d.shape) c.desc.ensures in
    let one : length (leaf_shape c.args.b.now) ≡ 1 = sym (ap (λ (d : DescView). length d.shape) (c.behind-b.view_is ∙ c.desc-2.ensures)) ∙ sym c.rank.ensures.value ∙ c.if-rank-ne1.false in
    let tested : (is_char c.kind.result && not (c.size-count.result == 0)) ≡ false = sym c.is_text.ensures ∙ c.if-is_text.false in
    let numbers : is_text b ≡ false = ap (λ (k : Kind). is_char k && not (size_of (leaf_shape c.args.b.now) == 0)) (sym c.kind.ensures) ∙ ap (λ (n : ℕ). is_char c.kind.result && not (n == 0)) (sym size) ∙ tested in
    let answer = graded_answer c.args.down c.args.origin b one numbers in
    let many : length (graded c.args.down c.args.origin b).cells ≡ c.size-count.result = graded_count c.args.down c.args.origin b ∙ sym size in
    let counted : OnlyFetched c.args.store.now c.make_leaf.new.store (size_of (leaf_shape c.args.b.now)) =
    subst (λ (s : StoreView). OnlyFetched c.args.store.now s (size_of (leaf_shape c.args.b.now))) (sym c.in_err-make_leaf.ensures.unchanged) c.read_all.ensures.counted in
    no_memory c.args.store.now _ _ (graded c.args.down c.args.origin b) c.size-count.result _ _ answer many c.in_ok-cells.ensures.within counted c.from_residual-in_err-make_leaf.ensures.1

pub returns-clause-made : goal.returns-clause-made
returns-clause-made c =
    let b = array_of c.args.store.now c.args.b.now in
    let desc : IsDesc (leaf_desc c.args.b.now) = subst IsDesc c.desc.ensures c.size-count.ensures.lawful in
    let is : IsArray b = leaf_is_array c.args.store.now c.args.b.now c.counts-counts.ensures.store desc c.requires.right in
    let size : c.size-count.result ≡ size_of (leaf_shape c.args.b.now) = c.size-count.ensures.value ∙ ap (λ (d : DescView). size_of d.shape) c.desc.ensures in
    let one : length (leaf_shape c.args.b.now) ≡ 1 = sym (ap (λ (d : DescView). length d.shape) (c.behind-b.view_is ∙ c.desc-2.ensures)) ∙ sym c.rank.ensures.value ∙ c.if-rank-ne1.false in
    let tested : (is_char c.kind.result && not (c.size-count.result == 0)) ≡ false = sym c.is_text.ensures ∙ c.if-is_text.false in
    let numbers : is_text b ≡ false = ap (λ (k : Kind). is_char k && not (size_of (leaf_shape c.args.b.now) == 0)) (sym c.kind.ensures) ∙ ap (λ (n : ℕ). is_char c.kind.result && not (n == 0)) (sym size) ∙ tested in
    let answer = graded_answer c.args.down c.args.origin b one numbers in
    let many : length (graded c.args.down c.args.origin b).cells ≡ c.size-count.result = graded_count c.args.down c.args.origin b ∙ sym size in
    let lawful : IsArray (graded c.args.down c.args.origin b) = graded_lawful c.args.down c.args.origin b c.requires.origin is one numbers in
    let room : length c.read_all.new.into.items ≡ c.read_all.new.into.len = search rules in
    let cells : take c.read_all.new.into.len (c.order_cells.new.cells ++ drop (length c.order_cells.new.cells) c.read_all.new.into.items) ≡ (graded c.args.down c.args.origin b).cells =
    graded_back c.args.down c.args.origin b c.read_all.new.into.len c.as_mut_slice.result.now c.read_all.new.into.items _ c.order_cells.new.cells c.requires.origin is c.in_ok-cells.ensures.empty c.read_all.ensures.cells c.as_mut_slice.ensures.value c.in_ok-order_cells.ensures (sym room) in
    let shape : c.behind-b-3.inside.shape ≡ (graded c.args.down c.args.origin b).shape =
    graded_shape c.args.down c.args.origin b c.behind-b-3.inside.shape (ap (λ (d : DescView). d.shape) (c.behind-b-3.view_is ∙ c.desc-4.ensures)) one in
    made_of c.args.store.now c.read_all.new.store c.make_leaf.new.store _ (graded c.args.down c.args.origin b) _ Num c.behind-b-3.inside.shape _ _
    answer refl shape cells c.read_all.ensures.counted c.in_ok-make_leaf.ensures.made
