-- Stacks whose newest entries give way to others.
use Rattle.std.proofs.Common.{◌≡◌, List, [], ◌∷◌, ◌++◌, sym, subst}
use Rattle.array_store.specs.Stores.{StoreView}
use Rattle.drag_along.specs.Segments.{SegmentView}
use Rattle.drag_along.specs.Lawful.{IsLawful}
use Rattle.value_stack.specs.Stacks.{IsLawfulStack}

-- both parts of a lawful stack are
pub lawful_parts : (store : StoreView) (older younger : List SegmentView) → IsLawfulStack store (older ++ younger) → IsLawfulStack store older × IsLawfulStack store younger
lawful_parts store [] younger h = (tt, h)
lawful_parts store (s ∷ older) younger h = ((h.0, (lawful_parts store older younger h.1).0), (lawful_parts store older younger h.1).1)

-- and two lawful parts are a lawful stack
pub lawful_both : (store : StoreView) (older younger : List SegmentView) → IsLawfulStack store older → IsLawfulStack store younger → IsLawfulStack store (older ++ younger)
lawful_both store [] younger h g = g
lawful_both store (s ∷ older) younger h g = (h.0, lawful_both store older younger h.1 g)

pub newest_lawful : (store : StoreView) (stack older : List SegmentView) (s : SegmentView) → stack ≡ older ++ s ∷ [] → IsLawfulStack store stack → IsLawful store s
newest_lawful store stack older s is h = (lawful_parts store older (s ∷ []) (subst (IsLawfulStack store) is h)).1.0

pub older_lawful : (store : StoreView) (stack older : List SegmentView) (s : SegmentView) → stack ≡ older ++ s ∷ [] → IsLawfulStack store stack → IsLawfulStack store older
older_lawful store stack older s is h = (lawful_parts store older (s ∷ []) (subst (IsLawfulStack store) is h)).0

pub pushed_lawful : (store : StoreView) (stack older : List SegmentView) (s : SegmentView) → stack ≡ older ++ s ∷ [] → IsLawfulStack store older → IsLawful store s → IsLawfulStack store stack
pushed_lawful store stack older s is h g = subst (IsLawfulStack store) (sym is) (lawful_both store older (s ∷ []) h (g, tt))
