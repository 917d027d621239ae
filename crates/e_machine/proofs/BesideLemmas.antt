-- Pending expressions beside the one that is computed.
use Rattle.std.proofs.Common.{◌≡◌, ℕ, arith}
use Rattle.array_store.specs.Stores.{StoreView}
use Rattle.array_store.specs.Follows.{Follows, Holds, none, both}
use Rattle.drag_along.specs.Segments.{SegmentView, named_by}
use Rattle.drag_along.specs.Meaning.{entry}
use Rattle.drag_along.specs.Lawful.{IsLawful, SameData}
use Rattle.drag_along.proofs.KeptLemmas.{follows_keeps, segment_kept}

-- a segment is lawful as before, means the same, and its leaves are held
pub record IsKept (old new : StoreView) (other : SegmentView) : Type 0 where
  pub lawful : IsLawful new other
  pub meaning : entry new other ≡ entry old other
  pub held : Holds new (named_by other)

-- it is where holders follow leaves that came besides
pub kept_beside : (old new : StoreView) (came : ℕ → ℕ) (other : SegmentView) → IsLawful old other → Holds old (named_by other) → Follows old new none came → IsKept old new other
kept_beside old new came other lawful held follows =
    let beside : Holds old (both none (named_by other)) = λ key. omega (arith, held key) in
    let same : SameData old new (named_by other) = follows_keeps old new none came (named_by other) (named_by other) follows beside (λ key. omega arith) in
    let kept = segment_kept old new other same lawful in
    record { lawful = kept.0; meaning = kept.1; held = λ key. omega (arith, follows.holders key, held key) }
