-- Entries that have no more functions pending than they had.
use Rattle.std.proofs.Common.{◌≡◌, ℕ, zero, suc, ◌≤◌, ◌<◌, length, Bool, true, false, List, [], ◌∷◌, Some, refl, ap, arith}
use Rattle.std.specs.Prelude.{slice_get, slice_set}
use Rattle.array_store.specs.Stores.{StoreView}
use Rattle.drag_along.specs.Nodes.{functions_in}
use Rattle.drag_along.specs.Segments.{SegmentView}
use Rattle.alias_force.specs.Moving.{IsMoved, AreMoved}
use Rattle.pending_steps.specs.Shapes.{AreFewer}
use Rattle.pending_steps.proofs.ArrayLemmas.{own_has_none}

pub same_fewer : (stack : List SegmentView) → AreFewer stack stack
same_fewer [] = tt
same_fewer (s ∷ stack) = (omega arith, same_fewer stack)

pub fewer_then : (a b c : List SegmentView) → AreFewer a b → AreFewer b c → AreFewer a c
fewer_then [] [] [] f g = tt
fewer_then [] [] (z ∷ c) f g = elim g [ ]
fewer_then [] (y ∷ b) c f g = elim f [ ]
fewer_then (x ∷ a) [] c f g = elim f [ ]
fewer_then (x ∷ a) (y ∷ b) [] f g = elim g [ ]
fewer_then (x ∷ a) (y ∷ b) (z ∷ c) f g = (omega (arith, f.0, g.0), fewer_then a b c f.1 g.1)

-- an entry that has an owner of its own has none, any other is as it was
moved_one : (test : SegmentView → Bool) (store : StoreView) (b a : SegmentView) → IsMoved test store b a → functions_in a.nodes ≤ functions_in b.nodes
moved_one test store b a m = by (test b) refl
  where
    by : (t : Bool) → test b ≡ t → functions_in a.nodes ≤ functions_in b.nodes
    by true e = omega (arith, own_has_none store a (m.own e))
    by false e = omega (arith, ap (λ (x : SegmentView). functions_in x.nodes) (m.same (λ t. cc)))

pub moved_fewer : (test : SegmentView → Bool) (store : StoreView) (before after : List SegmentView) → AreMoved test store before after → AreFewer before after
moved_fewer test store [] [] h = tt
moved_fewer test store [] (a ∷ after) h = elim h [ ]
moved_fewer test store (b ∷ before) [] h = elim h [ ]
moved_fewer test store (b ∷ before) (a ∷ after) h = (moved_one test store b a h.0, moved_fewer test store before after h.1)

-- an entry without functions comes in the place of one
pub set_fewer : (stack : List SegmentView) (at : ℕ) (came : SegmentView) → functions_in came.nodes ≡ 0 → AreFewer stack (slice_set stack at came)
set_fewer [] at came e = tt
set_fewer (s ∷ stack) zero came e = (omega (arith, e), same_fewer stack)
set_fewer (s ∷ stack) (suc at) came e = (omega arith, set_fewer stack at came e)

-- at each place
pub fewer_at : (before after : List SegmentView) (k : ℕ) (b a : SegmentView) → AreFewer before after → slice_get before k ≡ Some b → slice_get after k ≡ Some a → functions_in a.nodes ≤ functions_in b.nodes
fewer_at [] after k b a f g h = absurd cc
fewer_at (x ∷ before) [] k b a f g h = elim f [ ]
fewer_at (x ∷ before) (y ∷ after) zero b a f g h =
    let one : x ≡ b = cc in
    let two : y ≡ a = cc in
    omega (arith, f.0, ap (λ (s : SegmentView). functions_in s.nodes) one, ap (λ (s : SegmentView). functions_in s.nodes) two)
fewer_at (x ∷ before) (y ∷ after) (suc k) b a f g h = fewer_at before after k b a f.1 g h

-- an entry without functions stays so
pub none_stays : (before after : List SegmentView) (k : ℕ) (a : SegmentView) → AreFewer before after → k < length before → ((b : SegmentView) → slice_get before k ≡ Some b → functions_in b.nodes ≡ 0) → slice_get after k ≡ Some a → functions_in a.nodes ≡ 0
none_stays [] after k a f w none h = absurd (omega (arith, w))
none_stays (x ∷ before) [] k a f w none h = elim f [ ]
none_stays (x ∷ before) (y ∷ after) zero a f w none h =
    let same : y ≡ a = cc in
    omega (arith, f.0, none x refl, ap (λ (s : SegmentView). functions_in s.nodes) same)
none_stays (x ∷ before) (y ∷ after) (suc k) a f w none h = none_stays before after k a f.1 (omega (arith, w)) none h
