use Rattle.std.proofs.Common.{◌≡◌, ℤ, false, Option, sym, ap, subst, ◌∙◌, arith}
use mir.Syntax.{w128}
use mir.Val.{to_z, of_z}
use Rattle.std.specs.Option.{option_map}
use Rattle.std.proofs.lemmas.Int.{to_z-of_z}
use Rattle.apl_base.specs.Array.{Array}
use Rattle.apl_model.specs.Subscript.{is_text_position, in_axis}
use Rattle.array_store.proofs.CountingLemmas.{OnlyCounted-then}
use Rattle.pending_laws.specs.Subscripts.{IsItemAt}
use Rattle.leaf_names.specs.Variables.{array_of}
use Rattle.indexing_steps.specs.Operands.{arrays_of}
use Rattle.indexing_steps.proofs.ItemLemmas.{none_text, array_at, arrays-long, array_counted, one_off, first_more}
use Rattle.indexing_steps.proofs.items.items_of.Goals as goal

pub item_at-requires-clause-numbers : goal.item_at-requires-clause-numbers
item_at-requires-clause-numbers c =
    let store = c.args.store.now in
    let p = c.index-positions-axis.result in
    ap is_text_position (array_counted store c.loop-axis.store p c.loop-axis.invariant.counted)
    ∙ none_text (arrays_of store c.args.positions.now) c.loop-axis.axis (option_map (array_of store) p) c.requires.numbers (omega (arith, c.loop-axis-test.true, arrays-long store c.args.positions.now))
    (array_at store c.args.positions.now c.loop-axis.axis p c.loop-axis-test.true c.index-positions-axis.is)

pub returns-in-Err-clause-refused : goal.returns-in-Err-clause-refused
returns-in-Err-clause-refused c =
    let store = c.args.store.now in
    let p = c.index-positions-axis.result in
    let off : in_axis c.args.origin c.len.result (option_map (array_of store) p) ≡ false =
    ap (in_axis c.args.origin c.len.result) (sym (array_counted store c.loop-axis.store p c.loop-axis.invariant.counted))
    ∙ ap (λ (o : ℤ). in_axis o c.len.result (option_map (array_of c.loop-axis.store) p)) (sym (to_z-of_z w128 c.args.origin c.ranges.origin))
    ∙ c.in-Err.ensures.refused.1 in (
      c.in-Err.ensures.refused.0,
      one_off c.args.origin c.args.shape.now (arrays_of store c.args.positions.now) c.loop-axis.axis c.len.result (option_map (array_of store) p)
          (omega (arith, c.loop-axis-test.true, c.requires.count)) (omega (arith, c.loop-axis-test.true, arrays-long store c.args.positions.now)) c.len.ensures.value
          (array_at store c.args.positions.now c.loop-axis.axis p c.loop-axis-test.true c.index-positions-axis.is) off,
    )

pub push_reserved-requires : goal.push_reserved-requires
push_reserved-requires c = omega (arith, c.loop-axis.invariant.first.number, c.loop-axis.invariant.room, c.rank-rank.ensures.lawful.rank, c.requires.count, c.loop-axis-test.true)

pub loop-axis-preserved : goal.loop-axis-preserved
loop-axis-preserved c =
    let store = c.args.store.now in
    let p = c.index-positions-axis.result in
    let o : ℤ = to_z w128 (of_z w128 c.args.origin) in
    let kept = rw c.in-Ok-Some.field-0-is at c.in-Ok-Some.ensures.item in
    let here : IsItemAt o c.len.result (option_map (array_of store) p) c.in-Ok-Some.item =
    subst (λ (q : Option Array). IsItemAt o c.len.result q c.in-Ok-Some.item) (array_counted store c.loop-axis.store p c.loop-axis.invariant.counted) kept in
    record {
      first =
          first_more o c.args.shape.now (arrays_of store c.args.positions.now) c.loop-axis.axis c.len.result (option_map (array_of store) p) c.loop-axis.items.items c.push_reserved.new.self.items c.in-Ok-Some.item c.loop-axis.invariant.first
          (omega (arith, c.loop-axis-test.true, c.requires.count)) (omega (arith, c.loop-axis-test.true, arrays-long store c.args.positions.now)) c.len.ensures.value
          (array_at store c.args.positions.now c.loop-axis.axis p c.loop-axis-test.true c.index-positions-axis.is) here c.push_reserved.ensures.items;
      room = c.push_reserved.ensures.capacity ∙ c.loop-axis.invariant.room;
      counted = OnlyCounted-then store c.loop-axis.store c.item_at.new.store c.loop-axis.invariant.counted c.in-Ok-Some.ensures.counted;
    }
