-- A leaf that is read into a slice, row by row.
use Rattle.std.proofs.Common.{◌≡◌, ℕ, ◌+◌, ◌-◌, ◌≤◌, ◌++◌, ◌∙◌, ℤ, List, [], length, take, ap, arith, length-append}
use Rattle.std.proofs.lemmas.List.{length-take}
use Rattle.std.proofs.lemmas.Slice.{take-put_mid}
use borrow.Rule.Slice.PartMut.{put_mid, post_of}
use Rattle.array_store.specs.Stores.{StoreView}
use Rattle.drag_along.specs.declared.leaves.Leaf.{Leaf}
use Rattle.e_machine.specs.Rows.{row_cells}
use Rattle.e_machine.proofs.ReadLemmas.{length-read}

-- a row has as many cells as it says
pub row_many : (s : StoreView) (leaf : Leaf) (from step : ℤ) (count : ℕ) (row : List ℤ) → row ≡ row_cells s leaf from step count → length row ≡ count
row_many s leaf from step count row is =
    omega (arith, length-read s leaf from step count [] row is)

-- a part that was overwritten stands behind what was before it
pub block_more : (into row cells : List ℤ) (done count : ℕ) → row ≡ cells → length row ≡ count → done + count ≤ length into → take (done + count) (put_mid done (done + count - done) into row) ≡ take done into ++ cells
block_more into row cells done count is many fits =
    take-put_mid done (done + count - done) into row (done + count) (omega (arith, many)) (omega (arith, fits))
    ∙ ap (λ (xs : List ℤ). take done into ++ xs) is

-- and as much stands there
pub block_long : (into row : List ℤ) (done count : ℕ) → length row ≡ count → done + count ≤ length into → done + count ≤ length (put_mid done (done + count - done) into row)
block_long into row done count many fits =
    omega (arith, many, fits, length-append (take done into) (row ++ post_of done (done + count - done) into), length-append row (post_of done (done + count - done) into), length-take done into)
