use Rattle.drag_along.proofs.LawfulLemmas.{IsSegment-two_parts}
use Rattle.drag_along.proofs.segments.with_two.Goals as goal

pub invariant_of-result : goal.invariant_of-result
invariant_of-result c =
    IsSegment-two_parts _ _ c.args.left c.args.right c.args.f c.args.place _ _ _ c.if-left.may_fail c.left.invariant c.right.invariant
    c.left.view_is c.right.view_is c.requires.shapes c.requires.few c.in_ok-append.ensures.items c.in_ok-push.ensures.items c.range2-known.ensures.interval

pub returns-clause-segment : goal.returns-clause-segment
returns-clause-segment c =
    IsSegment-two_parts _ _ c.args.left c.args.right c.args.f c.args.place _ _ _ c.if-left.may_fail c.left.invariant c.right.invariant
    c.left.view_is c.right.view_is c.requires.shapes c.requires.few c.in_ok-append.ensures.items c.in_ok-push.ensures.items c.range2-known.ensures.interval
