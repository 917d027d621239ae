use Rattle.std.proofs.Common.{◌≡◌, ◌+◌, ◌-◌, ◌<◌, ◌≤◌, ℕ, ℤ, pos, ◌++◌, length, map, drop, take, get_or, refl, sym, ap, ◌∙◌, subst, arith, rules}
use Rattle.std.proofs.lemmas.Int.{to_z-of_z}
use Rattle.std.proofs.lemmas.List.{length-take}
use mir.Val.{SFits}
use mir.Syntax.{w128}
use Rattle.apl_base.specs.declared.cells.Kind.{Kind}
use Rattle.apl_base.specs.declared.cells.Elem.{Elem}
use Rattle.apl_base.specs.Elements.{element}
use Rattle.apl_base.specs.Number.{IsCell}
use Rattle.apl_base.specs.Array.{size_of}
use Rattle.drag_along.specs.Nodes.{leaf_shape}
use Rattle.leaf_names.specs.Variables.{array_of}
use Rattle.scalar_table.specs.Columns.{cell_in, element_in}
use Rattle.apl_base.specs.Scalar.{scalar2}
use Rattle.product_fns.specs.Folding.{rows_of, folded}
use Rattle.product_fns.proofs.CountLemmas.{read_as, computed_last, computed_block}
use Rattle.product_fns.proofs.RowLemmas.{BlockRead, block_read, front-cell, line_start, line_next, line_none}
use Rattle.product_fns.proofs.rows.reduce_line.Goals as goal

pub loop-left-init : goal.loop-left-init
loop-left-init c =
    let place : ℕ = c.args.first + c.args.n - 1 in
    let within : place + 1 ≤ size_of (leaf_shape c.args.leaf.now) = omega (arith, c.requires.places, c.requires.some) in
    let part : length (take 1 c.args.buffer.now) ≡ 1 = length-take 1 c.args.buffer.now ∙ omega (arith, c.requires.buffer) in
    let block : BlockRead c.args.store.now c.args.leaf.now place 1 c.read_block.new.into = block_read c.args.store.now c.args.store.now c.args.leaf.now place 1 c.args.buffer.now c.read_block.new.into (omega (arith, c.requires.buffer)) within refl c.read_block.ensures.cells in
    let fits : SFits w128 (get_or (c.read_block.new.into ++ drop 1 c.args.buffer.now) 0 (pos 0)) = search rules in
    let some : 0 < length c.read_block.new.into = omega (arith, block.many) in
    let front = to_z-of_z w128 _ fits ∙ front-cell c.read_block.new.into (drop 1 c.args.buffer.now) some in
    let here : place + 0 ≡ place = omega arith in
    let cell = front ∙ block.cells 0 some ∙ ap (λ (p : ℕ). cell_in (array_of c.args.store.now c.args.leaf.now).cells p) here in
    let is = ap (λ (z : ℤ). element c.kind.result z) cell ∙ ap (λ (k : Kind). element_in k (array_of c.args.store.now c.args.leaf.now).cells place) c.kind.ensures in
    record {
      line = line_start (rows_of c.args.store.now c.args.f c.args.leaf.now c.args.n 1) c.args.first (c.args.n - 1) place _ (omega (arith, c.requires.some)) refl (omega (arith, c.requires.some)) is
          (subst (λ (e : Elem). IsCell e.kind e.cell) (sym (ap (λ (z : ℤ). element c.kind.result z) front ∙ ap (λ (k : Kind). element_in k c.read_block.new.into 0) c.kind.ensures)) (c.read_block.ensures.lawful 0 (pos 0) some));
      counted = computed_last c.args.store.now c.read_block.new.store c.args.leaf.now c.args.n c.requires.some c.counts-counts.ensures.store.counts (read_as _ _ c.args.leaf.now _ 1 part c.read_block.ensures.counted);
      store = c.read_block.ensures.store;
    }

pub returns-in_default-clause-value : goal.returns-in_default-clause-value
returns-in_default-clause-value c =
    let count : ℕ = c.min-count.result in
    let now : ℕ = c.loop-left.left - count in
    let few : count ≤ c.loop-left.left = omega (arith, c.min-count.ensures) in
    let within : (c.args.first + now) + count ≤ size_of (leaf_shape c.args.leaf.now) = omega (arith, few, c.loop-left.invariant.line.within, c.requires.places) in
    let block : BlockRead c.args.store.now c.args.leaf.now (c.args.first + now) count c.read_block-in-loop-left.new.into = block_read c.args.store.now c.loop-left.store c.args.leaf.now (c.args.first + now) count c.loop-left.buffer c.read_block-in-loop-left.new.into (omega (arith, c.min-count.ensures)) within c.loop-left.invariant.counted.all.only c.read_block-in-loop-left.ensures.cells in
    let exact = c.fold.ensures.exact ∙ ap (λ (k : Kind). folded (scalar2 c.args.f) (map (element k) c.read_block-in-loop-left.new.into) c.loop-left.value) c.kind-in-loop-left.ensures in
    line_none (rows_of c.args.store.now c.args.f c.args.leaf.now c.args.n 1) c.args.first c.loop-left.left now c.loop-left.value c.fold.result c.read_block-in-loop-left.new.into refl (omega (arith, block.many, few)) c.loop-left.invariant.line block.cells exact c.in_default.is

pub loop-left-preserved : goal.loop-left-preserved
loop-left-preserved c =
    let count : ℕ = c.min-count.result in
    let now : ℕ = c.loop-left.left - count in
    let few : count ≤ c.loop-left.left = omega (arith, c.min-count.ensures) in
    let fits : count ≤ length c.loop-left.buffer = omega (arith, c.min-count.ensures) in
    let has : 0 < length c.loop-left.buffer = omega (arith, c.loop-left.auto.buffer, c.requires.buffer) in
    let some : 0 < count = omega (arith, c.min-count.ensures, c.loop-left-test.true, has) in
    let within : (c.args.first + now) + count ≤ size_of (leaf_shape c.args.leaf.now) = omega (arith, few, c.loop-left.invariant.line.within, c.requires.places) in
    let block : BlockRead c.args.store.now c.args.leaf.now (c.args.first + now) count c.read_block-in-loop-left.new.into = block_read c.args.store.now c.loop-left.store c.args.leaf.now (c.args.first + now) count c.loop-left.buffer c.read_block-in-loop-left.new.into fits within c.loop-left.invariant.counted.all.only c.read_block-in-loop-left.ensures.cells in
    let part : length (take count c.loop-left.buffer) ≡ count = length-take count c.loop-left.buffer ∙ omega (arith, fits) in
    let exact = c.fold.ensures.exact ∙ ap (λ (k : Kind). folded (scalar2 c.args.f) (map (element k) c.read_block-in-loop-left.new.into) c.loop-left.value) c.kind-in-loop-left.ensures in
    record {
      line = line_next (rows_of c.args.store.now c.args.f c.args.leaf.now c.args.n 1) c.args.first c.loop-left.left now c.loop-left.value c.in-Some.next c.fold.result c.read_block-in-loop-left.new.into refl (omega (arith, block.many, some)) (omega (arith, block.many, few)) c.loop-left.invariant.line block.cells exact c.in-Some.is c.fold.ensures.number c.fold.ensures.lawful;
      counted = computed_block c.args.store.now c.loop-left.store c.read_block-in-loop-left.new.store c.count_applied_many.new.self c.args.leaf.now c.args.n c.loop-left.left count few c.loop-left.invariant.line.within c.loop-left.invariant.counted c.loop-left.invariant.store (read_as _ _ c.args.leaf.now _ count part c.read_block-in-loop-left.ensures.counted) c.read_block-in-loop-left.ensures.store c.count_applied_many.ensures.counted;
      store = c.count_applied_many.ensures.store;
    }
