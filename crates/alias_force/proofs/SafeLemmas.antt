-- Entries that may not fail: each means an array.
use Rattle.std.specs.List.{filter}
use Rattle.std.proofs.Common.{◌≡◌, ℕ, zero, suc, Bool, true, false, cond, List, [], ◌∷◌, ◌++◌, map, None, refl, sym, ap, ◌∙◌, subst, arith}
use Rattle.std.specs.Prelude.{IsTrue}
use Rattle.std.proofs.lemmas.List.{map-append}
use Rattle.apl_base.specs.declared.faults.Place.{Place}
use Rattle.apl_base.specs.declared.cells.Interval.{Interval}
use Rattle.apl_base.specs.Array.{Array}
use Rattle.array_store.specs.Stores.{StoreView}
use Rattle.drag_along.specs.Segments.{SegmentView}
use Rattle.drag_along.specs.Meaning.{Meaning, Means, Faults, entry}
use Rattle.drag_along.specs.Lawful.{MeansWithin}
use Rattle.value_stack.specs.Stacks.{entries, MayFail, IsSoAt, IsLeastOrNone, IsLawfulStack}
use Rattle.e_machine.specs.declared.faults.ForceFault.{ForceFault}
use Rattle.e_machine.specs.declared.faults.ForceFault.TheVariants as force
use Rattle.alias_force.specs.Moving.{IsMoved, AreMoved, may_fail, StopsAt, FaultsFirst, IsOldestFault}

-- no entry of a stack may fail
abbrev pub IsSafe : List SegmentView → Type 0
IsSafe stack = IsLeastOrNone MayFail stack 0 None

pub safe_rest : (g : SegmentView) (stack : List SegmentView) → IsSafe (g ∷ stack) → IsSafe stack
safe_rest g stack safe = λ k low so. safe (suc k) (omega arith) so

pub safe_first : (g : SegmentView) (stack : List SegmentView) → IsSafe (g ∷ stack) → g.may_fail ≡ false
safe_first g stack safe = by g.may_fail (λ so. safe 0 (omega arith) (g, refl, so))
  where
    by : (b : Bool) → (IsTrue b → ⊥) → b ≡ false
    by true never = absurd (never refl)
    by false never = refl

-- the oldest entry may not fail, nor any other
pub safe_cons : (g : SegmentView) (stack : List SegmentView) → g.may_fail ≡ false → IsSafe stack → IsSafe (g ∷ stack)
safe_cons g stack first rest zero low so = let is : g ≡ so.0 = (let e = so.1 in cc) in absurd (not_both g.may_fail first (subst MayFail (sym is) so.2))
  where
    not_both : (b : Bool) → b ≡ false → IsTrue b → ⊥
    not_both b f t = absurd (cc)
safe_cons g stack first rest (suc k) low so = rest k (omega arith) so

-- what an entry that may not fail means
array_of_entry : (range : Interval) (m : Meaning) → MeansWithin range m → (a : Array) × (m ≡ Means a)
array_of_entry range (Means a) within = (a, refl)
array_of_entry range (Faults place) within = absurd within

pub safe_means : (store : StoreView) (stack : List SegmentView) → IsLawfulStack store stack → IsSafe stack → (arrays : List Array) × (entries store stack ≡ map (λ a. Means a) arrays)
safe_means store [] lawful safe = ([], refl)
safe_means store (g ∷ stack) lawful safe =
    let first = array_of_entry g.range (entry store g) (lawful.0.sound (safe_first g stack safe)) in
    let rest = safe_means store stack lawful.1 (safe_rest g stack safe) in
    (first.0 ∷ rest.0, ap (λ (m : Meaning). m ∷ entries store stack) first.1 ∙ ap (λ (ms : List Meaning). Means first.0 ∷ ms) rest.1)

-- ---- after a pass over those that may fail

moved_safe : (store : StoreView) (before after : SegmentView) → IsMoved may_fail store before after → after.may_fail ≡ false
moved_safe store before after moved = by before.may_fail refl
  where
    by : (b : Bool) → before.may_fail ≡ b → after.may_fail ≡ false
    by true e = ap (λ (g : SegmentView). g.may_fail) (moved.own e).is
    by false e = ap (λ (g : SegmentView). g.may_fail) (moved.same (λ so. absurd (cc))) ∙ e

pub all_safe : (store : StoreView) (before after : List SegmentView) → AreMoved may_fail store before after → IsSafe after
all_safe store [] [] all = λ k low so. absurd (no_entry k so)
  where
    no_entry : (k : ℕ) → IsSoAt MayFail [] k → ⊥
    no_entry k so = let e = so.1 in absurd (cc)
all_safe store [] (y ∷ ys) all = absurd all
all_safe store (x ∷ xs) [] all = absurd all
all_safe store (x ∷ xs) (y ∷ ys) all = safe_cons y ys (moved_safe store x y all.0) (all_safe store xs ys all.1)

-- older entries of a lawful stack are lawful
older_lawful : (store : StoreView) (older younger : List SegmentView) → IsLawfulStack store (older ++ younger) → IsLawfulStack store older
older_lawful store [] younger lawful = tt
older_lawful store (g ∷ older) younger lawful = (lawful.0, older_lawful store older younger lawful.1)

faults_first : (old new : StoreView) (before after : List SegmentView) (place : Place) → IsLawfulStack new after → entries new after ≡ entries old before → StopsAt may_fail old new before after (force.Fault place) → FaultsFirst (entries old before) place
faults_first old new before after place lawful means stops =
    let older = safe_means new stops.moved (older_lawful new stops.moved (stops.segment ∷ stops.younger) (subst (IsLawfulStack new) stops.after_is lawful)) (all_safe new stops.older stops.moved stops.are_moved) in
    let younger : List Meaning = entries new stops.younger in
    record {
      arrays = older.0;
      younger = younger;
      is =
          sym means ∙ ap (entries new) stops.after_is ∙ map-append (entry new) stops.moved (stops.segment ∷ stops.younger)
          ∙ ap (λ (ms : List Meaning). ms ++ entry new stops.segment ∷ younger) older.1
          ∙ ap (λ (m : Meaning). map (λ a. Means a) older.0 ++ m ∷ younger) stops.refused.0;
    }

pub oldest_fault : (old new : StoreView) (before after : List SegmentView) (fault : ForceFault) → IsLawfulStack new after → entries new after ≡ entries old before → StopsAt may_fail old new before after fault → IsOldestFault (entries old before) fault
oldest_fault old new before after (force.Fault place) lawful means stops = faults_first old new before after place lawful means stops
oldest_fault old new before after (force.WsFull live asked) lawful means stops = tt
oldest_fault old new before after force.NoMemory lawful means stops = tt

-- none is to be settled
pub safe_is_settled : (stack : List SegmentView) → IsSafe stack → filter may_fail stack ≡ []
safe_is_settled [] safe = refl
safe_is_settled (g ∷ stack) safe =
    ap (λ (b : Bool). cond b (g ∷ filter may_fail stack) (filter may_fail stack)) (safe_first g stack safe) ∙ safe_is_settled stack (safe_rest g stack safe)
