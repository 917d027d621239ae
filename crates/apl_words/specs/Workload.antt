-- The workload: a script of 5,000 lines on vectors of 1,000 numbers, which a number chooses.
use Rattle.std.specs.Prelude.{ℕ, zero, suc, ◌+◌, ◌*◌, ◌/◌, ◌%◌, List, [], ◌∷◌, ◌++◌, codes, decimal, slice_index_or}

-- the seed after a seed
abbrev pub next_seed : ℕ → ℕ
next_seed s = (1103515245 * s + 12345) % 2147483648

-- the statements, each with a number below 1000
abbrev pub statements : ℕ → List (List ℕ)
statements p =
    (codes "A←1000|A+" ++ decimal p)
    ∷ codes "A←⌽A"
    ∷ (codes "A←" ++ decimal p ++ codes "⌽A")
    ∷ (codes "A←(" ++ decimal p ++ codes "↓A)," ++ decimal p ++ codes "↑A")
    ∷ (codes "A[" ++ decimal (p + 1) ++ codes "]←" ++ decimal p)
    ∷ (codes "B←" ++ decimal p ++ codes "↑3×⌽A")
    ∷ codes "A←1000|A+⌽A"
    ∷ (codes "S←+/" ++ decimal (p + 1) ++ codes "↑A×2")
    ∷ []

-- the statement of this number
abbrev pub statement : ℕ → ℕ → List ℕ
statement n p = slice_index_or (statements p) n []

-- the line that a seed chooses
abbrev pub line_by : ℕ → List ℕ
line_by s =
    let r = s / 65536 in
    statement (r % 8) ((r / 8) % 1000) ++ codes "\n"

-- so many lines, each by its seed
abbrev pub lines_after : ℕ → ℕ → List ℕ
lines_after zero s = []
lines_after (suc n) s = line_by (next_seed s) ++ lines_after n (next_seed s)

-- what stands before them, and after them
abbrev pub first_lines : List ℕ
first_lines = codes "A←1000|⍳1000\nS←0\nB←0\n"

abbrev pub last_lines : List ℕ
last_lines = codes "S\n+/A\n⌈/A\n⍴A\n⍴B\n"

abbrev pub workload_text : ℕ → List ℕ
workload_text k = first_lines ++ lines_after 5000 k ++ last_lines
