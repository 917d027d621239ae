-- Lines of an array along an axis, by the places of the row-major order.
use Rattle.std.specs.Prelude.{ℕ, suc, ◌+◌, ◌-◌, ◌*◌, ◌/◌, ◌%◌, ◌==◌, ◌⊎◌, ◌≡◌, ℤ, pos, ◌+ℤ◌, unsigned_abs, List, length, take, drop, remove, slice_index, slice_index_or, if◌then◌else◌, Option, Some, None}
use Rattle.std.specs.Int.{int_rem_euclid}
use Rattle.std.specs.Ordering.{int_eq}
use Rattle.apl_base.specs.Array.{size_of}
use Rattle.apl_model.specs.Made.{ones}

-- how many elements lie behind an axis
abbrev pub run_of : List ℕ → ℕ → ℕ
run_of ns k = size_of (drop (suc k) ns)

-- the number on the axis of the index at a place
abbrev pub number_at : List ℕ → ℕ → ℕ → ℕ
number_at ns k p = p / run_of ns k % slice_index ns k

-- the line along the axis through a place, as lines are counted without the axis
abbrev pub line_at : List ℕ → ℕ → ℕ → ℕ
line_at ns k p = p / (slice_index ns k * run_of ns k) * run_of ns k + p % run_of ns k

-- how far the line through a place is turned: one number turns all lines
abbrev pub turn_at : List ℕ → ℕ → List ℤ → ℕ → ℤ
turn_at ns k turns p = slice_index_or turns (if length turns == 1 then 0 else line_at ns k p) (pos 0)

-- the element that stands at a place once its line is turned
abbrev pub turned_cell : List ℕ → ℕ → List ℤ → List ℤ → ℕ → ℤ
turned_cell ns k turns items p =
    let x = number_at ns k p in
    let from = unsigned_abs (int_rem_euclid (pos x +ℤ turn_at ns k turns p) (pos (slice_index ns k))) in
    slice_index_or items ((p - x * run_of ns k) + from * run_of ns k) (pos 0)

-- one number, or one for each line of B along the axis
abbrev pub TurnsFit : List ℕ → List ℕ → ℕ → Type 0
TurnsFit turns ns k = (size_of turns ≡ 1) ⊎ (turns ≡ remove ns k)

-- ---- an axis that becomes shorter or longer

-- the element at a source, which lies so many runs behind the base, or a blank
abbrev pub placed : List ℤ → ℤ → ℕ → ℕ → Option ℕ → ℤ
placed items blank base run (Some v) = slice_index_or items (base + v * run) (pos 0)
placed items blank base run None = blank

-- the element at a place of an array of these lengths, of which number j on axis k has the elements that `items` has at
-- number `sources j` on that axis, whose length there is n
abbrev pub spread_cell : List ℕ → ℕ → ℕ → List (Option ℕ) → List ℤ → ℤ → ℕ → ℤ
spread_cell ns k n sources items blank p =
    let run = run_of ns k in
    placed items blank (p / (slice_index ns k * run) * (n * run) + p % run) run
    (slice_index_or sources (p / run % slice_index ns k) None)

-- the source of number j on an axis that is spread by bits: none at a 0, and at a 1 the number of ones before it
abbrev pub spaced_source : List ℤ → ℕ → Option ℕ
spaced_source bits j = if int_eq (slice_index_or bits j (pos 0)) (pos 1) then Some (ones (take j bits)) else None
