use Rattle.std.proofs.Common.{◌-◌, ◌∙◌, ℤ, List, sym, subst}
use Rattle.std.proofs.lemmas.List.{with_items_is}
use Rattle.e_machine.specs.Columns.{AreCellsAt}
use Rattle.e_machine.proofs.ColumnLemmas.{one_last, one_lawful, one_applied}
use Rattle.e_machine.proofs.columns.Columns.apply_one.Goals as goal

pub one_in_place-missing-requires-clause-lawful : goal.one_in_place-missing-requires-clause-lawful
one_in_place-missing-requires-clause-lawful c =
    let last = one_last c.args.count c.len.result _ _ c.args.self.now c.requires.columns c.pop-kind.ensures (c.len.ensures ∙ c.args.self.now.cells.ok.0) in
    subst (λ (cs : List ℤ). AreCellsAt c.pop-kind.result cs (c.len.result - c.args.count) c.args.count) (sym c.deref_mut.ensures.value)
    (one_lawful c.args.count (c.len.result - c.args.count) _ _ c.args.self.now c.requires.columns c.pop-kind.ensures last)

pub returns : goal.returns
returns c =
    let last = one_last c.args.count c.len.result _ _ c.args.self.now c.requires.columns c.pop-kind.ensures (c.len.ensures ∙ c.args.self.now.cells.ok.0) in
    let same = with_items_is c.args.self.now.cells c.one_in_place-missing.new.cells (c.one_in_place-missing.ensures.count ∙ c.deref_mut.ensures.len) in
    one_applied c.args.f c.args.count (c.len.result - c.args.count) c.pop-kind.result _ c.args.self.now _ _ _ _ _ c.requires.columns c.pop-kind.ensures last
    c.deref_mut.ensures.value c.one_in_place-missing.ensures.count same c.in_ok-push.ensures c.one_in_place-missing.ensures.values c.is_none.ensures
