-- The entries from a position on, where none of them reads an owner that is written.
use Rattle.std.proofs.Common.{◌≡◌, ◌≢◌, ℕ, ◌+◌, ◌<◌, ℤ, List, length, take, drop, None, sym, ap, ◌∙◌, arith}
use Rattle.std.proofs.lemmas.List.{take-append-drop}
use Rattle.array_store.specs.Stores.{StoreView, holders_of, cells_of, with_cell}
use Rattle.array_store.specs.Follows.{Holds}
use Rattle.array_store.proofs.StoreLemmas.{written_is_only}
use Rattle.drag_along.specs.Segments.{SegmentView}
use Rattle.value_stack.specs.Stacks.{named_on, entries, Reads, IsLeastOrNone, IsLawfulStack}
use Rattle.value_stack.proofs.EntriesLemmas.{named_on_both, unread_is_unnamed, stack_kept}

-- the leaves of the older entries, and those of the younger
parted : (stack : List SegmentView) (from key : ℕ) → named_on stack key ≡ named_on (take from stack) key + named_on (drop from stack) key
parted stack from key =
    ap (λ (xs : List SegmentView). named_on xs key) (sym (take-append-drop from stack)) ∙ named_on_both (take from stack) (drop from stack) key

pub older_alone : (stack : List SegmentView) (key from : ℕ) → IsLeastOrNone (Reads key) stack from None → named_on stack key ≡ named_on (take from stack) key
older_alone stack key from none = omega (arith, parted stack from key, unread_is_unnamed stack key from none)

pub younger_kept : (store : StoreView) (stack : List SegmentView) (key from place : ℕ) (cell : ℤ) → 0 < holders_of store key → place < length (cells_of store key) → Holds store (named_on stack) → IsLeastOrNone (Reads key) stack from None → IsLawfulStack store (drop from stack) → IsLawfulStack (with_cell store key place cell) (drop from stack) × (entries (with_cell store key place cell) (drop from stack) ≡ entries store (drop from stack))
younger_kept store stack key from place cell live below holds none lawful =
    let younger : List SegmentView = drop from stack in
    let unnamed : named_on younger key ≡ 0 = unread_is_unnamed stack key from none in
    let only = written_is_only store key place cell live below in
    let apart : (other : ℕ) → 0 < named_on younger other → other ≢ key = λ other named same. let e : named_on younger other ≡ named_on younger key = ap (named_on younger) same in omega (arith, named, e, unnamed) in
    stack_kept store (with_cell store key place cell) younger
    (record {
      live = λ other named. omega (arith, only.holders other, holds other, named, parted stack from other);
      kept = λ other named. only.others other (apart other named);
    })
    lawful
