use Rattle.std.proofs.Common.{List, ℤ, ℕ, [], ◌∷◌, ◌++◌, All, sym, ap, ◌∙◌, subst, rules}
use Rattle.std.proofs.lemmas.Int.{to_z-of_z}
use mir.Val.{SFits}
use mir.Syntax.{w128}
use Rattle.apl_base.specs.declared.cells.Elem.{Elem}
use Rattle.apl_base.specs.Number.{IsCell}
use Rattle.drag_along.specs.Nodes.{leaf_kind}
use Rattle.drag_along.specs.Meaning.{leaf_cell}
use Rattle.e_machine.proofs.ReadLemmas.{single_cells, one_has}
use Rattle.e_machine.proofs.reads.read_single.Goals as goal

pub returns-clause-cells : goal.returns-clause-cells
returns-clause-cells c = λ first.
    let s : SFits w128 c.read_at-read.result.cell = search rules in
    let old : List ℤ = c.args.into.now.items in
    c.push_reserved.ensures.items
    ∙ ap (λ (z : ℤ). old ++ z ∷ []) (to_z-of_z w128 _ s ∙ ap (λ (e : Elem). e.cell) c.read_at-read.ensures.element)
    ∙ ap (λ (cells : List ℤ). old ++ cells) (sym (single_cells c.args.store.now c.args.leaf.now first c.requires.single))

pub returns-clause-lawful : goal.returns-clause-lawful
returns-clause-lawful c = λ first.
    let cell = subst (λ (e : Elem). IsCell e.kind e.cell) c.read_at-read.ensures.element c.read_at-read.ensures.cell in
    subst (λ (cells : List ℤ). All (IsCell (leaf_kind c.args.leaf.now)) cells) (sym (single_cells c.args.store.now c.args.leaf.now first c.requires.single)) (one_has (IsCell (leaf_kind c.args.leaf.now)) (leaf_cell c.args.store.now c.args.leaf.now []) cell)
