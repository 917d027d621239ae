use Rattle.std.proofs.Common.{◌≡◌, length, vec_len, subst, ap, arith, rules}
use Rattle.drag_along.specs.Segments.{SegmentView}
use Rattle.value_stack.specs.Stacks.{MayFail}
use Rattle.value_stack.proofs.StackLemmas.{least_found, none_next, none_left, not_both}
use Rattle.value_stack.proofs.stacks.Stack.failing_from.Goals as goal

pub returns-then-index : goal.returns-then-index
returns-then-index c =
    let same : length c.self.inside.entries.items ≡ vec_len c.self.inside.entries = search rules in
    least_found MayFail _ _ c.args.from c.loop-at.at c.index.result.now c.self.view_is c.loop-at.auto.at
    (omega (arith, same, c.len-at-end.ensures, c.loop-at-test.true)) c.index.ensures (subst MayFail c.behind-self.view_is c.if-index.true) c.loop-at.invariant

pub loop-at-preserved : goal.loop-at-preserved
loop-at-preserved c =
    let same : length c.self.inside.entries.items ≡ vec_len c.self.inside.entries = search rules in
    none_next MayFail _ c.args.from c.loop-at.at c.index.result.now (omega (arith, same, c.len-at-end.ensures, c.loop-at-test.true)) c.index.ensures
    (λ fails. not_both _ _ (ap (λ (g : SegmentView). g.may_fail) c.behind-self.view_is) c.if-index.false fails) c.loop-at.invariant

pub returns : goal.returns
returns c =
    let same : length c.self.inside.entries.items ≡ vec_len c.self.inside.entries = search rules in
    none_left MayFail _ _ c.args.from c.loop-at.at c.self.view_is (omega (arith, same, c.len-at-end.ensures, c.loop-at-test.false)) c.loop-at.invariant
