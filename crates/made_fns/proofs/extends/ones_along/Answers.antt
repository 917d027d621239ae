use mir.Syntax.{w128}
use Rattle.std.proofs.Common.{◌∙◌, sym, ap, of_z, to_z, arith}
use Rattle.std.proofs.lemmas.Int.{to_z-of_z}
use Rattle.leaf_names.specs.Variables.{array_of}
use Rattle.made_fns.proofs.KeepLemmas.{ones_single, ones_none, other_number}
use Rattle.made_fns.proofs.extends.ones_along.Goals as goal

pub returns-then-first_cell-eq1-clause-value : goal.returns-then-first_cell-eq1-clause-value
returns-then-first_cell-eq1-clause-value c =
    let same = to_z-of_z w128 c.first_cell.result (record { sfits = c.first_cell.type_inv }) in
    ones_single c.args.n (array_of c.args.store.now c.args.leaf.now) (omega (arith, c.elements.ensures.value, c.if-elements-ne1.false)) (sym c.first_cell.ensures.value ∙ sym same ∙ ap (to_z w128) c.if-first_cell-eq1.true)

pub returns-else-first_cell-eq1-clause-value : goal.returns-else-first_cell-eq1-clause-value
returns-else-first_cell-eq1-clause-value c =
    ones_none c.args.n (array_of c.args.store.now c.args.leaf.now) (omega (arith, c.elements.ensures.value, c.if-elements-ne1.false)) (other_number _ _ (λ e. c.if-first_cell-eq1.false (ap (of_z w128) (c.first_cell.ensures.value ∙ e))))
