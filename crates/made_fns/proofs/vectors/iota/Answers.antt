use mir.Syntax.{w128}
use Rattle.std.proofs.Common.{map, refl, sym, ◌∙◌, arith}
use Rattle.std.proofs.lemmas.Int.{ints, to_z-of_z}
use Rattle.apl_base.specs.Selection.{upward}
use Rattle.apl_base.specs.declared.cells.Kind.TheVariants.{Num}
use Rattle.apl_model.specs.Made.{counted_from}
use Rattle.apl_model.specs.Whole.{vector}
use Rattle.std.specs.Prelude.{unsigned_abs}
use Rattle.leaf_names.specs.Variables.{array_of}
use Rattle.made_fns.proofs.IotaLemmas.{interval_stands, interval_is, text_domain, negative_domain, interval_limit}
use Rattle.made_fns.proofs.Lengths.{length-array_of}
use Rattle.made_fns.proofs.vectors.iota.Goals as goal

pub returns-clause-interval : goal.returns-clause-interval
returns-clause-interval c =
    let n = to_z-of_z w128 c.first_cell-n.result (record { sfits = c.first_cell-n.type_inv }) in
    let o = to_z-of_z w128 c.args.origin c.ranges.origin in
    let shape = rw n at c.numbers_up.ensures.shape in
    let numbers = rw (n, o) at c.numbers_up.ensures.numbers in
    record {
      array = vector Num (map (counted_from c.args.origin) (upward 0 (unsigned_abs c.first_cell-n.result)));
      is = interval_is c.args.origin (array_of c.args.store.now c.args.b.now) c.first_cell-n.result (omega (arith, c.rank.ensures.value, c.if-rank-gt1.false)) (omega (arith, c.elements.ensures.value, c.if-elements-ne1.false)) (length-array_of c.args.store.now c.args.b.now ∙ omega (arith, c.elements.ensures.value, c.if-elements-ne1.false)) (sym (c.is_text.ensures c.args.store.now) ∙ c.if-is_text.false) c.first_cell-n.ensures.value (omega (arith, ints, c.if-n-lt0.false)) (omega (arith, ints, c.if-n.false));
      desc = c.numbers_up.result;
      numbers = refl;
      stands = λ store. interval_stands store c.args.origin (unsigned_abs c.first_cell-n.result) c.numbers_up.result c.numbers_up.ensures.lawful shape numbers;
    }

pub returns-then-is_text-clause-interval : goal.returns-then-is_text-clause-interval
returns-then-is_text-clause-interval c =
    text_domain c.args.origin (array_of c.args.store.now c.args.b.now) (omega (arith, c.rank.ensures.value, c.if-rank-gt1.false)) (omega (arith, c.elements.ensures.value, c.if-elements-ne1.false)) (sym (c.is_text.ensures c.args.store.now) ∙ c.if-is_text.true)

pub returns-then-n-lt0-clause-interval : goal.returns-then-n-lt0-clause-interval
returns-then-n-lt0-clause-interval c =
    let n = to_z-of_z w128 c.first_cell-n.result (record { sfits = c.first_cell-n.type_inv }) in
    negative_domain c.args.origin (array_of c.args.store.now c.args.b.now) c.first_cell-n.result (omega (arith, c.rank.ensures.value, c.if-rank-gt1.false)) (omega (arith, c.elements.ensures.value, c.if-elements-ne1.false)) (length-array_of c.args.store.now c.args.b.now ∙ omega (arith, c.elements.ensures.value, c.if-elements-ne1.false)) c.first_cell-n.ensures.value (let h = rw n at c.if-n-lt0.true in omega (arith, ints, h))

pub returns-then-n-clause-interval : goal.returns-then-n-clause-interval
returns-then-n-clause-interval c =
    let n = to_z-of_z w128 c.first_cell-n.result (record { sfits = c.first_cell-n.type_inv }) in
    interval_limit c.args.origin (array_of c.args.store.now c.args.b.now) c.first_cell-n.result (omega (arith, c.rank.ensures.value, c.if-rank-gt1.false)) (omega (arith, c.elements.ensures.value, c.if-elements-ne1.false)) (length-array_of c.args.store.now c.args.b.now ∙ omega (arith, c.elements.ensures.value, c.if-elements-ne1.false)) (sym (c.is_text.ensures c.args.store.now) ∙ c.if-is_text.false) c.first_cell-n.ensures.value (let h = rw n at c.if-n.true in omega (arith, ints, h))
