use Rattle.std.proofs.Common.{arith}
use Rattle.array_store.specs.Follows.{both, none}
use Rattle.drag_along.specs.Segments.{named_by}
use Rattle.writing_tests.proofs.DeskLemmas.{hand_counted}
use Rattle.writing_tests.proofs.desks.Desk.reverse.Goals as goal

pub put-requires-clause-beside : goal.put-requires-clause-beside
put-requires-clause-beside c =
    hand_counted _ _ _ (both (named_by c.in-Some.segment) none) (named_by c.select.new.s)
    (λ key. omega (arith, c.select.ensures.leaves key)) (c.in-Some.ensures.beside none c.requires)
