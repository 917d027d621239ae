use Rattle.std.proofs.Common.{arith}
use Rattle.array_store.specs.Follows.{both, none}
use Rattle.drag_along.specs.Segments.{named_by}
use Rattle.writing_tests.proofs.DeskLemmas.{hand_counted}
use Rattle.writing_tests.proofs.desks.Desk.join.Goals as goal

pub take-requires-2 : goal.take-requires-2
take-requires-2 c = (c.in-Some.ensures.beside none c.requires).entries

pub put-requires-clause-beside : goal.put-requires-clause-beside
put-requires-clause-beside c =
    let left = c.in-Some.left in
    let right = c.in-Some-take.right in
    let both_taken = c.in-Some-take.ensures.beside (both (named_by left) none) (c.in-Some.ensures.beside none c.requires) in
    hand_counted _ _ _ (both (named_by right) (both (named_by left) none)) (named_by c.in_ok-joined.joined)
    (λ key. omega (arith, c.in_ok-joined.ensures.leaves key)) both_taken
