use Rattle.std.proofs.Common.{◌≡◌, ◌∙◌, ℕ, List, get_or, sym, ap, subst, arith}
use Rattle.apl_base.specs.Array.{IsShape}
use Rattle.array_store.specs.Stores.{StoreView}
use Rattle.apl_model.specs.Subscript.{axes_of, positions_shape}
use Rattle.made_picks.specs.Picks.{positions_of}
use Rattle.made_picks.proofs.PositionLemmas.{position_of, joined_none, joined_next, joined_over, joined_all, some_of, none_of}
use Rattle.made_picks.proofs.positions.joined_shape.Goals as goal

pub loop-axis-init : goal.loop-axis-init
loop-axis-init c = joined_none c.args.axes.now c.new-joined.result.items c.args.positions.now c.new-joined.ensures.items

pub returns-then-len-more-gt8-clause-none : goal.returns-then-len-more-gt8-clause-none
returns-then-len-more-gt8-clause-none c = λ s lawful.
    let gives : (t : StoreView) → c.axes_at-more.result.now ≡ axes_of (get_or c.args.axes.now c.loop-axis.axis 0) (position_of t c.index-positions-axis.result) =
    λ t. c.axes_at-more.ensures t ∙ ap (λ (ns : List ℕ). axes_of (get_or ns c.loop-axis.axis 0) (position_of t c.index-positions-axis.result)) c.lengths.ensures.value in
    joined_over c.args.axes.now c.loop-axis.joined.items c.axes_at-more.result.now c.args.positions.now c.loop-axis.axis c.index-positions-axis.result s c.loop-axis.invariant c.requires c.loop-axis-test.true c.index-positions-axis.is gives
    (omega (arith, c.if-len-more-gt8.true, c.len.ensures.value)) lawful

pub loop-axis-preserved : goal.loop-axis-preserved
loop-axis-preserved c =
    let gives : (t : StoreView) → c.axes_at-more.result.now ≡ axes_of (get_or c.args.axes.now c.loop-axis.axis 0) (position_of t c.index-positions-axis.result) =
    λ t. c.axes_at-more.ensures t ∙ ap (λ (ns : List ℕ). axes_of (get_or ns c.loop-axis.axis 0) (position_of t c.index-positions-axis.result)) c.lengths.ensures.value in
    joined_next c.args.axes.now c.loop-axis.joined.items c.axes_at-more.result.now _ c.args.positions.now c.loop-axis.axis c.index-positions-axis.result c.loop-axis.invariant c.requires c.loop-axis-test.true c.index-positions-axis.is gives c.in-Ok.ensures.ok

pub returns-clause-shape : goal.returns-clause-shape
returns-clause-shape c =
    some_of (λ shape. shape ≡ c.as_slice.result.now) (λ shape. (s : StoreView) → shape ≡ positions_shape c.args.axes.now (positions_of s c.args.positions.now)) c.of.result c.ok.result c.ok.ensures.value c.of.ensures.ok
    (λ shape is s. is ∙ c.as_slice.ensures ∙ joined_all c.args.axes.now c.loop-axis.joined.items c.args.positions.now c.loop-axis.axis s c.loop-axis.invariant c.requires c.loop-axis-test.false)

pub returns-clause-none : goal.returns-clause-none
returns-clause-none c =
    none_of ((s : StoreView) → IsShape (positions_shape c.args.axes.now (positions_of s c.args.positions.now)) → ⊥) (IsShape c.as_slice.result.now) c.of.result c.ok.result c.ok.ensures.value c.of.ensures.exact.1
    (λ other s lawful. other (subst IsShape (sym (c.as_slice.ensures ∙ joined_all c.args.axes.now c.loop-axis.joined.items c.args.positions.now c.loop-axis.axis s c.loop-axis.invariant c.requires c.loop-axis-test.false)) lawful))
