use Rattle.std.proofs.Common.{◌≡◌, ◌∙◌, ℤ, List, IfOk, sym, ap, subst, arith, eqb-true}
use Rattle.apl_base.specs.Array.{Array, size_of}
use Rattle.apl_base.proofs.Booleans.{both_parts}
use Rattle.array_store.proofs.CountingLemmas.{OnlyFetched-more}
use Rattle.drag_along.specs.Nodes.{leaf_shape}
use Rattle.leaf_names.specs.Variables.{array_of}
use Rattle.made_fns.proofs.KeepLemmas.{extended_then, extended_else}
use Rattle.made_fns.proofs.extends.extended_cells.Goals as goal

pub returns-then-is_extendable-clause-cells : goal.returns-then-is_extendable-clause-cells
returns-then-is_extendable-clause-cells c =
    let e = ap (λ (x : Array). x.cells) (extended_then c.args.n (array_of c.args.store.now c.args.leaf.now) (sym c.is_extendable.ensures.value ∙ c.if-is_extendable.true)) in
    subst (λ (zs : List ℤ). IfOk c.repeated_cell.result (λ cells. cells.items ≡ zs)) (sym e) c.repeated_cell.ensures.cells

pub returns-then-is_extendable-clause-counted : goal.returns-then-is_extendable-clause-counted
returns-then-is_extendable-clause-counted c =
    let one = eqb-true (size_of (leaf_shape c.args.leaf.now)) 1 (both_parts _ _ (sym c.is_extendable.ensures.value ∙ c.if-is_extendable.true)).0 in
    OnlyFetched-more _ _ _ _ (omega (arith, one)) c.repeated_cell.ensures.counted

pub returns-else-is_extendable-clause-cells : goal.returns-else-is_extendable-clause-cells
returns-else-is_extendable-clause-cells c =
    let e = ap (λ (x : Array). x.cells) (extended_else c.args.n (array_of c.args.store.now c.args.leaf.now) (sym c.is_extendable.ensures.value ∙ c.if-is_extendable.false)) in
    subst (λ (zs : List ℤ). IfOk c.read_cells.result (λ cells. cells.items ≡ zs)) (sym e) c.read_cells.ensures.cells
