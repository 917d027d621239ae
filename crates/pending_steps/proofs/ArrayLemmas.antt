-- Entries that mean arrays.
use Rattle.std.proofs.Common.{◌≡◌, ℕ, zero, suc, Bool, true, false, List, [], ◌∷◌, Some, refl, sym, ap, subst, ◌∙◌, arith}
use Rattle.std.specs.Prelude.{IsTrue, slice_get, slice_set, None}
use Rattle.std.specs.List.{AllByRecursion}
use Rattle.apl_base.specs.Array.{Array, size_of}
use Rattle.array_store.specs.Stores.{StoreView}
use Rattle.drag_along.specs.Segments.{SegmentView, IsSegment}
use Rattle.drag_along.specs.Nodes.{functions_in}
use Rattle.alias_force.specs.Moving.{IsOwn}
use Rattle.alias_force.specs.Steps.{RefusesEntry}
use Rattle.apl_base.specs.declared.faults.Place.{Place}
use Rattle.e_machine.specs.declared.faults.ForceFault.{ForceFault}
use Rattle.e_machine.specs.declared.faults.ForceFault.TheVariants as force
use Rattle.pending_steps.specs.Faults.{halt_of}
use Rattle.pending_steps.specs.Steps.{IsNotComputed}
use Rattle.drag_along.specs.Meaning.{Meaning, Means, Faults, IsMeaning, entry}
use Rattle.drag_along.specs.Lawful.{IsLawful, MeansWithin}
use Rattle.drag_along.proofs.EntryLemmas.{entry_is_meaning}
use Rattle.value_stack.specs.Stacks.{MayFail, IsSoAt, IsLeastOrNone, IsLawfulStack, entries}
use Rattle.pending_steps.specs.Shapes.{shapes_of, IsArrayEntry, AreArrays}

abbrev head_or : List Meaning → Meaning → Meaning
head_or [] d = d
head_or (m ∷ ms) d = m

abbrev tail_of : List Meaning → List Meaning
tail_of [] = []
tail_of (m ∷ ms) = ms

-- an entry that means an array means one of its shape
abbrev pub array_entry : (store : StoreView) (s : SegmentView) (a : Array) → IsSegment s → entry store s ≡ Means a → IsArrayEntry store s
array_entry store s a h e =
    let is : IsMeaning store s (Means a) = subst (IsMeaning store s) e (entry_is_meaning store s h) in
    record { array = a; means = e; shape = is.shape; complete = is.count ∙ ap size_of (sym is.shape) }

-- an entry that can't fail means an array
pub safe_entry : (store : StoreView) (s : SegmentView) → IsSegment s → IsLawful store s → s.may_fail ≡ false → IsArrayEntry store s
safe_entry store s h l safe = by (entry store s) refl (l.sound safe)
  where
    by : (m : Meaning) → entry store s ≡ m → MeansWithin s.range m → IsArrayEntry store s
    by (Means a) e w = array_entry store s a h e
    by (Faults p) e w = elim w [ ]

not_true : (b : Bool) → ¬ (IsTrue b) → b ≡ false
not_true true h = absurd (h refl)
not_true false h = refl

-- where none may fail, all mean arrays
pub safe_arrays : (store : StoreView) (stack : List SegmentView) → AllByRecursion IsSegment stack → IsLawfulStack store stack → ((k : ℕ) → ¬ (IsSoAt MayFail stack k)) → AreArrays store stack
safe_arrays store [] hs ls none = tt
safe_arrays store (s ∷ stack) hs ls none = (
  safe_entry store s hs.0 ls.0 (not_true s.may_fail (λ t. none 0 (s, refl, t))),
  safe_arrays store stack hs.1 ls.1 (λ k so. none (suc k) so),
)

pub least_arrays : (store : StoreView) (stack : List SegmentView) → AllByRecursion IsSegment stack → IsLawfulStack store stack → IsLeastOrNone MayFail stack 0 None → AreArrays store stack
least_arrays store stack hs ls none = safe_arrays store stack hs ls (λ k so. none k (omega arith) so)

-- an entry with an owner of its own has no function
pub own_has_none : (store : StoreView) (s : SegmentView) → IsOwn store s → functions_in s.nodes ≡ 0
own_has_none store s own = ap (λ (x : SegmentView). functions_in x.nodes) own.is

-- arrays that stay the same are arrays
pub kept_arrays : (old new : StoreView) (before after : List SegmentView) → AllByRecursion IsSegment after → AreArrays old before → entries new after ≡ entries old before → AreArrays new after
kept_arrays old new [] [] hs arrays e = tt
kept_arrays old new (b ∷ before) (a ∷ after) hs arrays e =
    let first : entry new a ≡ entry old b = ap (λ (ms : List Meaning). head_or ms (entry new a)) e in
    (array_entry new a arrays.0.array hs.0 (first ∙ arrays.0.means), kept_arrays old new before after hs.1 arrays.1 (ap (λ (ms : List Meaning). tail_of ms) e))
kept_arrays old new [] (a ∷ after) hs arrays e = absurd cc
kept_arrays old new (b ∷ before) [] hs arrays e = absurd cc

-- entries that mean the same arrays have the same shapes
pub same_shapes : (old new : StoreView) (before after : List SegmentView) → AllByRecursion IsSegment before → AreArrays new after → entries new after ≡ entries old before → shapes_of after ≡ shapes_of before
same_shapes old new [] [] hs arrays e = refl
same_shapes old new (b ∷ before) (a ∷ after) hs arrays e =
    let first : entry new a ≡ entry old b = ap (λ (ms : List Meaning). head_or ms (entry new a)) e in
    let was : IsArrayEntry old b = array_entry old b arrays.0.array hs.0 (sym first ∙ arrays.0.means) in
    let shape : a.shape ≡ b.shape = sym arrays.0.shape ∙ was.shape in
    ap (λ (ns : List ℕ). ns ∷ shapes_of after) shape ∙ ap (λ (xs : List (List ℕ)). b.shape ∷ xs) (same_shapes old new before after hs.1 arrays.1 (ap (λ (ms : List Meaning). tail_of ms) e))
same_shapes old new [] (a ∷ after) hs arrays e = absurd cc
same_shapes old new (b ∷ before) [] hs arrays e = absurd cc

-- so where entries that can't fail are computed, none changes its shape
pub kept_shapes : (old new : StoreView) (before after : List SegmentView) → AllByRecursion IsSegment before → AllByRecursion IsSegment after → IsLawfulStack old before → IsLeastOrNone MayFail before 0 None → entries new after ≡ entries old before → shapes_of after ≡ shapes_of before
kept_shapes old new before after hs gs ls none e = same_shapes old new before after hs (kept_arrays old new before after gs (least_arrays old before hs ls none) e) e

-- the entry that was put there
pub put_there : (before : List SegmentView) (at : ℕ) (came s : SegmentView) → slice_get (slice_set before at came) at ≡ Some s → s ≡ came
put_there [] at came s g = absurd cc
put_there (b ∷ before) zero came s g = cc
put_there (b ∷ before) (suc at) came s g = put_there before at came s g

-- an entry of arrays means one
pub array_at : (store : StoreView) (stack : List SegmentView) (at : ℕ) (s : SegmentView) → AreArrays store stack → slice_get stack at ≡ Some s → IsArrayEntry store s
array_at store [] at s arrays g = absurd cc
array_at store (b ∷ stack) zero s arrays g =
    let same : b ≡ s = cc in
    subst (λ (x : SegmentView). IsArrayEntry store x) same arrays.0
array_at store (b ∷ stack) (suc at) s arrays g = array_at store stack at s arrays.1 g

-- why an entry that can't fail is not computed
pub refused_halts : (old new : StoreView) (stack : List SegmentView) (at : ℕ) (fault : ForceFault) → AllByRecursion IsSegment stack → IsLawfulStack old stack → IsLeastOrNone MayFail stack 0 None → RefusesEntry old new stack at fault → entries new stack ≡ entries old stack → IsNotComputed old.limit (entries old stack) (halt_of fault)
refused_halts old new stack at (force.Fault place) hs ls none r e =
    let arrays : AreArrays new stack = kept_arrays old new stack stack hs (least_arrays old stack hs ls none) e in
    let one : IsArrayEntry new r.segment = array_at new stack at r.segment arrays r.there in
    absurd (means_faults one.array place (sym one.means ∙ r.refused.0))
  where
    means_faults : (a : Array) (p : Place) → ¬ (Means a ≡ Faults p)
    means_faults a p h = cc
refused_halts old new stack at (force.WsFull live asked) hs ls none r e =
    omega (arith, r.refused.live, r.refused.asked, r.refused.full, r.follows.limit)
refused_halts old new stack at force.NoMemory hs ls none r e = tt
