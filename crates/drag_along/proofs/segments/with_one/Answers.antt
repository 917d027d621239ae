use Rattle.drag_along.proofs.LawfulLemmas.{IsSegment-one_part}
use Rattle.drag_along.proofs.segments.with_one.Goals as goal

pub invariant_of-result : goal.invariant_of-result
invariant_of-result c =
    IsSegment-one_part _ c.args.right c.args.f c.args.place _ _ c.if-right.may_fail
    c.right.invariant c.right.view_is c.requires c.in_ok-push.ensures.items c.range1-known.ensures.interval

pub returns-clause-segment : goal.returns-clause-segment
returns-clause-segment c =
    IsSegment-one_part _ c.args.right c.args.f c.args.place _ _ c.if-right.may_fail
    c.right.invariant c.right.view_is c.requires c.in_ok-push.ensures.items c.range1-known.ensures.interval
