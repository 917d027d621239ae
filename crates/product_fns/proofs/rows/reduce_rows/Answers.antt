use Rattle.std.proofs.Common.{◌≡◌, ◌+◌, ◌-◌, ◌*◌, ◌≤◌, ℕ, length, refl, sym, subst, arith}
use Rattle.apl_base.specs.declared.cells.Kind.{Kind}
use Rattle.apl_base.specs.Array.{size_of}
use Rattle.apl_base.specs.Scalar.{scalar2}
use Rattle.drag_along.specs.Nodes.{leaf_shape}
use Rattle.scalar_table.specs.Columns.{element_in, IsColumn}
use Rattle.product_fns.specs.Folding.{rows_of}
use Rattle.product_fns.proofs.CountLemmas.{row_within, read_as, computed_first, computed_next, computed_stop, computed_end}
use Rattle.product_fns.proofs.RowLemmas.{RowsFrom, block-cells, row_read, rows_start, rows_next, rows_none, rows_end}
use Rattle.product_fns.proofs.rows.reduce_rows.Goals as goal

pub loop-left-init : goal.loop-left-init
loop-left-init c =
    let q : ℕ = length c.args.results.now in
    let within : c.args.first + (c.args.n - 1) * q + q ≤ size_of (leaf_shape c.args.leaf.now) = omega (arith, row_within c.args.first c.args.n c.args.n q c.requires.some (omega arith), c.requires.places) in
    record {
      rows = subst (λ (k : Kind). RowsFrom (rows_of c.args.store.now c.args.f c.args.leaf.now c.args.n q) c.args.first (c.args.n - 1) k c.read_block.new.into) (sym c.kind-kind.ensures)
          (rows_start (rows_of c.args.store.now c.args.f c.args.leaf.now c.args.n q) c.args.first (c.args.n - 1) c.read_block.new.into (omega (arith, c.requires.some)) c.read_block.auto.into
          (block-cells c.args.store.now c.args.store.now c.args.leaf.now (c.args.first + (c.args.n - 1) * q) q c.read_block.new.into refl within c.read_block.ensures.cells) c.read_block.ensures.lawful);
      long = omega (arith, c.read_block.auto.into, c.requires.long);
      counted = computed_first c.args.store.now c.read_block.new.store c.args.leaf.now c.args.n q c.requires.some c.counts-counts.ensures.store.counts c.read_block.ensures.counted;
      store = c.read_block.ensures.store;
    }

pub returns-in-Some-clause-value : goal.returns-in-Some-clause-value
returns-in-Some-clause-value c =
    let q : ℕ = length c.args.results.now in
    let many : length c.loop-left.row ≡ q = omega (arith, c.loop-left.invariant.long, c.loop-left.auto.results) in
    let column = subst (λ (k : Kind). IsColumn (λ j. scalar2 c.args.f (element_in k c.read_block-in-loop-left.new.into j) (element_in c.loop-left.kind c.loop-left.results j)) c.apply2_column.new.right c.apply2_column.result) c.kind.ensures c.apply2_column.ensures.values in
    rows_none (rows_of c.args.store.now c.args.f c.args.leaf.now c.args.n q) c.args.first c.loop-left.left c.loop-left.kind c.loop-left.results c.read_block-in-loop-left.new.into c.apply2_column.new.right c.apply2_column.result c.in-Some.field-0 c.loop-left-test.true c.loop-left.invariant.rows
    (row_read c.args.store.now c.loop-left.store c.args.leaf.now c.args.first c.loop-left.left c.args.n q c.loop-left.row c.read_block-in-loop-left.new.into c.loop-left-test.true c.loop-left.invariant.rows.within many c.requires.places c.loop-left.invariant.counted.all.only c.read_block-in-loop-left.ensures.cells)
    c.in-Some.is column c.apply2_column.auto.right

pub returns-in-Some-clause-counted : goal.returns-in-Some-clause-counted
returns-in-Some-clause-counted c =
    let q : ℕ = length c.args.results.now in
    let many : length c.loop-left.row ≡ q = omega (arith, c.loop-left.invariant.long, c.loop-left.auto.results) in
    computed_stop c.args.store.now c.count_applied_many.new.self c.args.n (c.loop-left.left - 1) q
    (computed_next c.args.store.now c.loop-left.store c.read_block-in-loop-left.new.store c.count_applied_many.new.self c.args.leaf.now c.args.n c.loop-left.left q c.loop-left-test.true c.loop-left.invariant.rows.within c.loop-left.invariant.counted c.loop-left.invariant.store
    (read_as _ _ c.args.leaf.now _ q many c.read_block-in-loop-left.ensures.counted) c.read_block-in-loop-left.ensures.store c.count_applied_many.ensures.counted)

pub loop-left-preserved : goal.loop-left-preserved
loop-left-preserved c =
    let q : ℕ = length c.args.results.now in
    let many : length c.loop-left.row ≡ q = omega (arith, c.loop-left.invariant.long, c.loop-left.auto.results) in
    let column = subst (λ (k : Kind). IsColumn (λ j. scalar2 c.args.f (element_in k c.read_block-in-loop-left.new.into j) (element_in c.loop-left.kind c.loop-left.results j)) c.apply2_column.new.right c.apply2_column.result) c.kind.ensures c.apply2_column.ensures.values in
    record {
      rows = rows_next (rows_of c.args.store.now c.args.f c.args.leaf.now c.args.n q) c.args.first c.loop-left.left c.loop-left.kind c.loop-left.results c.read_block-in-loop-left.new.into c.apply2_column.new.right c.apply2_column.result c.loop-left-test.true c.loop-left.invariant.rows
          (row_read c.args.store.now c.loop-left.store c.args.leaf.now c.args.first c.loop-left.left c.args.n q c.loop-left.row c.read_block-in-loop-left.new.into c.loop-left-test.true c.loop-left.invariant.rows.within many c.requires.places c.loop-left.invariant.counted.all.only c.read_block-in-loop-left.ensures.cells)
          c.in_default.is column c.apply2_column.ensures.numbers c.apply2_column.auto.right;
      long = omega (arith, c.read_block-in-loop-left.auto.into, c.apply2_column.auto.right, c.loop-left.invariant.long);
      counted = computed_next c.args.store.now c.loop-left.store c.read_block-in-loop-left.new.store c.count_applied_many.new.self c.args.leaf.now c.args.n c.loop-left.left q c.loop-left-test.true c.loop-left.invariant.rows.within c.loop-left.invariant.counted c.loop-left.invariant.store
          (read_as _ _ c.args.leaf.now _ q many c.read_block-in-loop-left.ensures.counted) c.read_block-in-loop-left.ensures.store c.count_applied_many.ensures.counted;
      store = c.count_applied_many.ensures.store;
    }

pub returns-clause-value : goal.returns-clause-value
returns-clause-value c = rows_end (rows_of c.args.store.now c.args.f c.args.leaf.now c.args.n (length c.args.results.now)) c.args.first c.loop-left.left c.loop-left.kind c.loop-left.results (omega arith) c.loop-left.invariant.rows

pub returns-clause-counted : goal.returns-clause-counted
returns-clause-counted c = (computed_end c.args.store.now c.loop-left.store c.args.n c.loop-left.left (length c.args.results.now) (omega arith) c.loop-left.invariant.counted).all

pub returns-clause-all : goal.returns-clause-all
returns-clause-all c = λ _. computed_end c.args.store.now c.loop-left.store c.args.n c.loop-left.left (length c.args.results.now) (omega arith) c.loop-left.invariant.counted
