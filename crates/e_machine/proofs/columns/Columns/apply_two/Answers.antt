use Rattle.std.proofs.Common.{◌≡◌, ◌+◌, ◌-◌, ◌∙◌, ◌∷◌, ℕ, ℤ, List, take, sym, ap, subst, arith}
use Rattle.std.proofs.lemmas.List.{with_items_is}
use Rattle.apl_base.specs.declared.cells.Kind.{Kind}
use Rattle.e_machine.specs.Columns.{AreCellsAt}
use Rattle.e_machine.proofs.ColumnLemmas.{two_last, two_left, two_right, two_applied}
use Rattle.e_machine.proofs.columns.Columns.apply_two.Goals as goal

pub two_in_place-missing-requires-clause-left : goal.two_in_place-missing-requires-clause-left
two_in_place-missing-requires-clause-left c =
    let kinds = c.pop-left.ensures ∙ ap (λ (ks : List Kind). c.pop-left.result ∷ ks) c.pop-right.ensures in
    let last = two_last c.args.count c.len.result _ _ _ c.args.self.now c.requires.columns kinds (c.len.ensures ∙ c.args.self.now.cells.ok.0) in
    subst (λ (cs : List ℤ). AreCellsAt c.pop-left.result cs (c.len.result - c.args.count - c.args.count + c.args.count) c.args.count) (sym c.deref_mut.ensures.value)
    (two_left c.args.count (c.len.result - c.args.count - c.args.count) _ _ _ c.args.self.now c.requires.columns kinds last)

pub two_in_place-missing-requires-clause-right : goal.two_in_place-missing-requires-clause-right
two_in_place-missing-requires-clause-right c =
    let kinds = c.pop-left.ensures ∙ ap (λ (ks : List Kind). c.pop-left.result ∷ ks) c.pop-right.ensures in
    let last = two_last c.args.count c.len.result _ _ _ c.args.self.now c.requires.columns kinds (c.len.ensures ∙ c.args.self.now.cells.ok.0) in
    subst (λ (cs : List ℤ). AreCellsAt c.pop-right.result cs (c.len.result - c.args.count - c.args.count) c.args.count) (sym c.deref_mut.ensures.value)
    (two_right c.args.count (c.len.result - c.args.count - c.args.count) _ _ _ c.args.self.now c.requires.columns kinds last)

pub returns : goal.returns
returns c =
    let kinds = c.pop-left.ensures ∙ ap (λ (ks : List Kind). c.pop-left.result ∷ ks) c.pop-right.ensures in
    let last = two_last c.args.count c.len.result _ _ _ c.args.self.now c.requires.columns kinds (c.len.ensures ∙ c.args.self.now.cells.ok.0) in
    let same = with_items_is c.args.self.now.cells c.two_in_place-missing.new.cells (c.two_in_place-missing.ensures.count ∙ c.deref_mut.ensures.len) in
    let end : c.len.result - c.args.count ≡ c.len.result - c.args.count - c.args.count + c.args.count = omega (arith, last, c.len.ensures ∙ c.args.self.now.cells.ok.0) in
    let cells = c.truncate.ensures.items ∙ ap (take (c.len.result - c.args.count)) same ∙ ap (λ (m : ℕ). take m c.two_in_place-missing.new.cells) end in
    two_applied c.args.f c.args.count (c.len.result - c.args.count - c.args.count) c.pop-left.result c.pop-right.result _ c.args.self.now _ _ _ _ _ c.requires.columns kinds last
    c.deref_mut.ensures.value c.two_in_place-missing.ensures.count cells c.in_ok-push.ensures c.two_in_place-missing.ensures.values c.is_none.ensures
