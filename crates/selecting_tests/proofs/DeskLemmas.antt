-- Entries that come and go.
use Rattle.std.proofs.Common.{◌≡◌, List, [], Result, Ok, Err, OnOk, sym, subst, arith}
use Rattle.array_store.specs.Stores.{StoreView}
use Rattle.array_store.specs.Follows.{LeafCounts, Follows, Holds, both, none}
use Rattle.drag_along.specs.declared.leaves.Leaf.{Leaf}
use Rattle.drag_along.specs.Nodes.{named_by_leaf}
use Rattle.drag_along.specs.Segments.{SegmentView}
use Rattle.drag_along.specs.Lawful.{SameData}
use Rattle.drag_along.proofs.KeptLemmas.{follows_keeps}
use Rattle.value_stack.specs.Stacks.{named_on, IsLawfulStack}
use Rattle.value_stack.proofs.EntriesLemmas.{stack_kept}
use Rattle.pending_steps.specs.declared.halts.Halt.{Halt}
use Rattle.pending_steps.specs.Steps.{Moves, Reaches}
use Rattle.pending_steps.specs.Leaves.{PutsLeaf}
use Rattle.selecting_tests.specs.declared.desks.Desk.{Desk}
use Rattle.selecting_tests.specs.Desks.{IsSound}

-- where there is none
pub empty_sound : (d : Desk) → d.stack ≡ [] → IsSound d
empty_sound d e = record {
  lawful = subst (λ (es : List SegmentView). IsLawfulStack d.store es) (sym e) tt;
  held = subst (λ (es : List SegmentView). Holds d.store (named_on es)) (sym e) (λ key. omega arith);
}

-- after a step
pub stepped : (old new : StoreView) (before after : List SegmentView) (result : Result (Unit {0}) Halt) → Holds old (named_on before) → Reaches result (Moves old new before after none none) → OnOk result (IsSound (record { stack = after; store = new }))
stepped old new before after (Ok done) held moves = record {
  lawful = moves.lawful;
  held = λ key. omega (arith, held key, moves.follows.holders key);
}
stepped old new before after (Err why) held moves = tt

-- the others stay where a leaf comes
pub kept_beside : (old new : StoreView) (stack : List SegmentView) (came : LeafCounts) → IsLawfulStack old stack → Holds old (named_on stack) → Follows old new none came → IsLawfulStack new stack
kept_beside old new stack came lawful held f =
    let pending : Holds old (both none (named_on stack)) = λ key. omega (arith, held key) in
    let kept : SameData old new (named_on stack) = follows_keeps old new none came (named_on stack) (named_on stack) f pending (λ key. omega arith) in
    (stack_kept old new stack kept lawful).0

-- it is held beside them
pub held_beside : (old new : StoreView) (stack : List SegmentView) (came : LeafCounts) → Holds old (named_on stack) → Follows old new none came → Holds new (both (named_on stack) came)
held_beside old new stack came held f = λ key. omega (arith, held key, f.holders key)

-- it comes as the newest entry
pub put_sound : (store : StoreView) (before after : List SegmentView) (leaf : Leaf) → Holds store (both (named_on before) (named_by_leaf leaf)) → PutsLeaf store before after leaf → IsSound (record { stack = after; store = store })
put_sound store before after leaf held puts = record {
  lawful = puts.moves.lawful;
  held = λ key. omega (arith, held key, puts.moves.follows.holders key);
}
