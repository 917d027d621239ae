use Rattle.std.proofs.Common.{sym, arith}
use Rattle.std.specs.Option.{option_map}
use Rattle.leaf_names.specs.Variables.{array_of}
use Rattle.indexing_steps.specs.Operands.{arrays_of}
use Rattle.indexing_steps.proofs.ItemLemmas.{some_text, no_more_text, no_text_at_all, array_at, arrays-long}
use Rattle.indexing_steps.proofs.choices.has_text.Goals as goal

pub returns-then-is_text : goal.returns-then-is_text
returns-then-is_text c store =
    sym
    (some_text (arrays_of store c.args.positions.now) c.loop-position.position-index (option_map (array_of store) c.position-item.result)
    (omega (arith, c.loop-position-test.true, arrays-long store c.args.positions.now))
    (array_at store c.args.positions.now c.loop-position.position-index c.position-item.result c.loop-position-test.true c.position-item.is)
    (sym (c.if-is_text.ensures store)))

pub loop-position-preserved : goal.loop-position-preserved
loop-position-preserved c store =
    no_more_text store c.args.positions.now c.loop-position.position-index c.position-item.result (c.loop-position.invariant store) c.loop-position-test.true c.position-item.is (sym (c.if-is_text.ensures store))

pub returns : goal.returns
returns c store =
    sym (no_text_at_all store c.args.positions.now c.loop-position.position-index (c.loop-position.invariant store) (omega arith))
