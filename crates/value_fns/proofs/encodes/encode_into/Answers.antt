use Rattle.std.proofs.Common.{◌≡◌, ◌∙◌, ◌+◌, ◌*◌, ◌++◌, ℕ, ℤ, List, length, All, refl, sym, ap, subst, arith}
use Rattle.apl_base.specs.declared.cells.Kind.TheVariants.{Num}
use Rattle.apl_base.specs.Array.{Array, size_of}
use Rattle.apl_base.specs.Number.{IsNumber}
use Rattle.apl_base.proofs.Elements.{tabulated-count}
use Rattle.apl_base.proofs.Sizes.{size_of-append}
use Rattle.array_store.specs.Stores.{StoreView}
use Rattle.array_store.specs.Counting.{OnlyFetched}
use Rattle.array_store.proofs.CountingLemmas.{OnlyFetched-then, OnlyFetched-more}
use Rattle.drag_along.specs.Nodes.{leaf_shape}
use Rattle.drag_along.specs.Meaning.{leaf_cell}
use Rattle.leaf_names.specs.Variables.{array_of}
use Rattle.value_fns.specs.Digits.{digit_table, is_undefined}
use Rattle.value_fns.proofs.Ends.{made_of}
use Rattle.value_fns.proofs.Decoding.{same_array}
use Rattle.value_fns.proofs.Encoded.{table_array, table_count, table_numbers, encoded_ok, encoded_no_memory, encoded_error}
use Rattle.value_fns.proofs.encodes.encode_into.Goals as goal

pub returns-in_err-bases-clause-made : goal.returns-in_err-bases-clause-made
returns-in_err-bases-clause-made c =
    let s = c.args.store.now in
    let a = array_of s c.args.a.now in
    let b = array_of s c.args.b.now in
    let long = tabulated-count a.kind a.shape (leaf_cell s c.args.a.now) in
    let many = tabulated-count b.kind b.shape (leaf_cell s c.args.b.now) in
    let size : size_of c.args.shape.now ≡ size_of (leaf_shape c.args.a.now ++ leaf_shape c.args.b.now) = ap size_of c.requires.shape in
    encoded_no_memory s c.read_cells.new.store a b (size_of c.args.shape.now) _ _ long many size c.requires.room (OnlyFetched-more s c.read_cells.new.store _ _ (omega arith) c.read_cells.ensures.counted) c.from_residual.ensures.1

pub returns-in_err-values-clause-made : goal.returns-in_err-values-clause-made
returns-in_err-values-clause-made c =
    let s = c.args.store.now in
    let a = array_of s c.args.a.now in
    let b = array_of s c.args.b.now in
    let long = tabulated-count a.kind a.shape (leaf_cell s c.args.a.now) in
    let many = tabulated-count b.kind b.shape (leaf_cell s c.args.b.now) in
    let size : size_of c.args.shape.now ≡ size_of (leaf_shape c.args.a.now ++ leaf_shape c.args.b.now) = ap size_of c.requires.shape in
    let counted = OnlyFetched-then s c.read_cells.new.store c.read_cells-2.new.store _ _ c.read_cells.ensures.counted c.read_cells-2.ensures.counted in
    encoded_no_memory s c.read_cells-2.new.store a b (size_of c.args.shape.now) _ _ long many size c.requires.room counted c.from_residual-in_err-values.ensures.1

pub returns-then-are_undefined-clause-made : goal.returns-then-are_undefined-clause-made
returns-then-are_undefined-clause-made c =
    let s = c.args.store.now in
    let a = array_of s c.args.a.now in
    let b = array_of s c.args.b.now in
    let long = tabulated-count a.kind a.shape (leaf_cell s c.args.a.now) in
    let many = tabulated-count b.kind b.shape (leaf_cell s c.args.b.now) in
    let size : size_of c.args.shape.now ≡ size_of (leaf_shape c.args.a.now ++ leaf_shape c.args.b.now) = ap size_of c.requires.shape in
    let counted = OnlyFetched-then s c.read_cells.new.store c.read_cells-2.new.store _ _ c.read_cells.ensures.counted c.read_cells-2.ensures.counted in
    let bases : c.in_ok-bases.bases.items ≡ a.cells = c.in_ok-bases.ensures.cells in
    let values : c.in_ok-values.values.items ≡ b.cells = c.in_ok-values.ensures.cells ∙ ap (λ (x : Array). x.cells) (same_array s c.read_cells.new.store c.args.b.now _ c.read_cells.ensures.counted) in
    let test : is_undefined a.cells b.cells ≡ c.are_undefined.result =
    ap (λ (xs : List ℤ). is_undefined xs b.cells) (sym (c.as_slice.ensures.value ∙ bases)) ∙ ap (is_undefined c.as_slice.result.now) (sym (c.as_slice-2.ensures.value ∙ values)) ∙ sym c.are_undefined.ensures in
    encoded_error s c.read_cells-2.new.store a b _ (test ∙ c.if-are_undefined.true) counted

pub table_of-cells-requires-clause-capacity : goal.table_of-cells-requires-clause-capacity
table_of-cells-requires-clause-capacity c =
    let s = c.args.store.now in
    let a = array_of s c.args.a.now in
    let b = array_of s c.args.b.now in
    let long = tabulated-count a.kind a.shape (leaf_cell s c.args.a.now) in
    let many = tabulated-count b.kind b.shape (leaf_cell s c.args.b.now) in
    let size : size_of c.args.shape.now ≡ size_of (leaf_shape c.args.a.now ++ leaf_shape c.args.b.now) = ap size_of c.requires.shape in
    let bases : c.in_ok-bases.bases.items ≡ a.cells = c.in_ok-bases.ensures.cells in
    let values : c.in_ok-values.values.items ≡ b.cells = c.in_ok-values.ensures.cells ∙ ap (λ (x : Array). x.cells) (same_array s c.read_cells.new.store c.args.b.now _ c.read_cells.ensures.counted) in
    let product : length c.in_ok-bases.bases.items * length c.in_ok-values.values.items ≡ size_of c.args.shape.now =
    ap (λ (n : ℕ). n * length c.in_ok-values.values.items) (ap length bases ∙ long) ∙ ap (λ (n : ℕ). size_of (leaf_shape c.args.a.now) * n) (ap length values ∙ many)
    ∙ sym (size_of-append (leaf_shape c.args.a.now) (leaf_shape c.args.b.now)) ∙ sym size in
    omega (arith, product, c.requires.capacity)

pub make_leaf-requires-clause-count : goal.make_leaf-requires-clause-count
make_leaf-requires-clause-count c =
    let s = c.args.store.now in
    let a = array_of s c.args.a.now in
    let b = array_of s c.args.b.now in
    let long = tabulated-count a.kind a.shape (leaf_cell s c.args.a.now) in
    let many = tabulated-count b.kind b.shape (leaf_cell s c.args.b.now) in
    let size : size_of c.args.shape.now ≡ size_of (leaf_shape c.args.a.now ++ leaf_shape c.args.b.now) = ap size_of c.requires.shape in
    let bases : c.in_ok-bases.bases.items ≡ a.cells = c.in_ok-bases.ensures.cells in
    let values : c.in_ok-values.values.items ≡ b.cells = c.in_ok-values.ensures.cells ∙ ap (λ (x : Array). x.cells) (same_array s c.read_cells.new.store c.args.b.now _ c.read_cells.ensures.counted) in
    let table : c.table_of-cells.result.items ≡ digit_table a.cells b.cells = c.table_of-cells.ensures ∙ ap (λ (xs : List ℤ). digit_table xs c.in_ok-values.values.items) bases ∙ ap (digit_table a.cells) values in
    ap length table ∙ table_count a b long many ∙ sym size

pub make_leaf-requires-clause-lawful : goal.make_leaf-requires-clause-lawful
make_leaf-requires-clause-lawful c =
    let s = c.args.store.now in
    let a = array_of s c.args.a.now in
    let b = array_of s c.args.b.now in
    let long = tabulated-count a.kind a.shape (leaf_cell s c.args.a.now) in
    let many = tabulated-count b.kind b.shape (leaf_cell s c.args.b.now) in
    let size : size_of c.args.shape.now ≡ size_of (leaf_shape c.args.a.now ++ leaf_shape c.args.b.now) = ap size_of c.requires.shape in
    let bases : c.in_ok-bases.bases.items ≡ a.cells = c.in_ok-bases.ensures.cells in
    let values : c.in_ok-values.values.items ≡ b.cells = c.in_ok-values.ensures.cells ∙ ap (λ (x : Array). x.cells) (same_array s c.read_cells.new.store c.args.b.now _ c.read_cells.ensures.counted) in
    let table : c.table_of-cells.result.items ≡ digit_table a.cells b.cells = c.table_of-cells.ensures ∙ ap (λ (xs : List ℤ). digit_table xs c.in_ok-values.values.items) bases ∙ ap (digit_table a.cells) values in
    subst (λ (xs : List ℤ). All IsNumber xs) (sym table) (table_numbers a.cells b.cells c.requires.bases c.requires.values)

pub returns-in_err-make_leaf-clause-made : goal.returns-in_err-make_leaf-clause-made
returns-in_err-make_leaf-clause-made c =
    let s = c.args.store.now in
    let a = array_of s c.args.a.now in
    let b = array_of s c.args.b.now in
    let long = tabulated-count a.kind a.shape (leaf_cell s c.args.a.now) in
    let many = tabulated-count b.kind b.shape (leaf_cell s c.args.b.now) in
    let size : size_of c.args.shape.now ≡ size_of (leaf_shape c.args.a.now ++ leaf_shape c.args.b.now) = ap size_of c.requires.shape in
    let counted = OnlyFetched-then s c.read_cells.new.store c.read_cells-2.new.store _ _ c.read_cells.ensures.counted c.read_cells-2.ensures.counted in
    let later = subst (λ (t : StoreView). OnlyFetched s t (size_of (leaf_shape c.args.a.now) + size_of (leaf_shape c.args.b.now))) (sym c.in_err-make_leaf.ensures.unchanged) counted in
    encoded_no_memory s c.make_leaf.new.store a b (size_of c.args.shape.now) _ _ long many size c.requires.room later c.from_residual-in_err-make_leaf.ensures.1

pub returns-clause-made : goal.returns-clause-made
returns-clause-made c =
    let s = c.args.store.now in
    let a = array_of s c.args.a.now in
    let b = array_of s c.args.b.now in
    let long = tabulated-count a.kind a.shape (leaf_cell s c.args.a.now) in
    let many = tabulated-count b.kind b.shape (leaf_cell s c.args.b.now) in
    let size : size_of c.args.shape.now ≡ size_of (leaf_shape c.args.a.now ++ leaf_shape c.args.b.now) = ap size_of c.requires.shape in
    let counted = OnlyFetched-then s c.read_cells.new.store c.read_cells-2.new.store _ _ c.read_cells.ensures.counted c.read_cells-2.ensures.counted in
    let bases : c.in_ok-bases.bases.items ≡ a.cells = c.in_ok-bases.ensures.cells in
    let values : c.in_ok-values.values.items ≡ b.cells = c.in_ok-values.ensures.cells ∙ ap (λ (x : Array). x.cells) (same_array s c.read_cells.new.store c.args.b.now _ c.read_cells.ensures.counted) in
    let test : is_undefined a.cells b.cells ≡ c.are_undefined.result =
    ap (λ (xs : List ℤ). is_undefined xs b.cells) (sym (c.as_slice.ensures.value ∙ bases)) ∙ ap (is_undefined c.as_slice.result.now) (sym (c.as_slice-2.ensures.value ∙ values)) ∙ sym c.are_undefined.ensures in
    let table : c.table_of-cells.result.items ≡ digit_table a.cells b.cells = c.table_of-cells.ensures ∙ ap (λ (xs : List ℤ). digit_table xs c.in_ok-values.values.items) bases ∙ ap (digit_table a.cells) values in
    made_of s c.read_cells-2.new.store c.make_leaf.new.store _ (table_array a b) _ Num c.args.shape.now c.table_of-cells.result.items _
    (encoded_ok a b long (test ∙ c.if-are_undefined.false)) refl c.requires.shape table counted c.in_ok-make_leaf.ensures.made
