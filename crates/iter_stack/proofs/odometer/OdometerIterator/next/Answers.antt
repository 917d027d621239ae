use Rattle.std.proofs.Common.{◌≡◌, ◌+◌, suc, ◌<◌, ◌≤◌, [], length, drop, refl, sym, ap, ◌∙◌, arith}
use Rattle.apl_base.specs.Array.{size_of}
use Rattle.iter_stack.specs.Indices.{walk, item}
use Rattle.iter_stack.proofs.Walks.{walk-step, walk-end}
use Rattle.iter_stack.proofs.odometer.OdometerIterator.next.Goals as goal
use Rattle.iter_stack.proofs.odometer.OdometerIterator.next.Goals.{then-self-2, else-self-2}

pub returns-then-self-clause-steps : goal.returns-then-self-clause-steps
returns-then-self-clause-steps c =
    let none : c.args.self.now ≡ [] =
    sym c.self.view_is ∙ rw (c.if-self.true, c.self.invariant.0) (walk-end c.self.inside.back c.self.inside.shape)
    in
    (none, none)

-- the item is the one at the place
found : (c : goal.After-self-1) → c.if-self-2.index.items ≡ item c.self.inside.back c.self.inside.shape c.self.inside.place
found c =
    elim c.if-self-2.branch [
      | then-self-2 w ↦ rw (w.if-self-2.true, w.index-is, w.count_from_the_end.ensures, c.index_of-index.ensures.index) refl
      | else-self-2 w ↦ rw (w.if-self-2.false, w.index-is, c.index_of-index.ensures.index) refl
    ]

pub returns-clause-steps : goal.returns-clause-steps
returns-clause-steps c =
    let size : c.self.inside.size ≡ size_of c.self.inside.shape = c.self.invariant.0 in
    let most : c.self.inside.place ≤ c.self.inside.size = c.self.invariant.1 in
    let less : c.self.inside.place < size_of c.self.inside.shape = omega (arith, c.if-self.false) in
    sym c.self.view_is ∙ rw (found c) (walk-step c.self.inside.back c.self.inside.shape c.self.inside.place less)

pub returns-clause-goes : goal.returns-clause-goes
returns-clause-goes c =
    let left : length c.args.self.now ≡ suc (length (drop (c.self.inside.place + 1) (walk c.self.inside.back c.self.inside.shape))) =
    ap length (returns-clause-steps c)
    in
    record { on = λ _. (tt, tt, omega arith); keeps = tt; rests = λ _. tt }
