-- What the worked examples are written in.
use Rattle.std.specs.Prelude.{ℕ, ℤ, List, map}
use Rattle.apl_base.specs.declared.cells.Elem.{Elem}
use Rattle.apl_base.specs.declared.cells.Kind.TheVariants.{Char}
use Rattle.apl_base.specs.Array.{size_of, place_at, index_at}
use Rattle.apl_base.specs.Selection.{upward}

-- a character as an element
abbrev pub character : ℤ → Elem
character c = record { kind = Char; cell = c }

-- the places of the argument that a selection reads, in the order of its result: `ns` are the argument's
-- lengths, `rs` the result's, and `reads` gives for each index of the result the argument's
abbrev pub places_read : List ℕ → List ℕ → (List ℕ → List ℕ) → List ℕ
places_read ns rs reads = map (λ p. place_at ns (reads (index_at rs p))) (upward 0 (size_of rs))
