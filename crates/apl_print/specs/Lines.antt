-- The lines of refusals and of the trace, as characters. (Own: all of them.)
use Rattle.std.specs.Prelude.{ℕ, ◌+◌, ◌-◌, ℤ, pos, List, [], ◌∷◌, ◌++◌, length, map, replicate, codes, decimal}
use Rattle.std.specs.List.{join_by}
use Rattle.apl_base.specs.declared.faults.Refusal.{Refusal}
use Rattle.apl_base.specs.declared.faults.Cause.{Cause}
use Rattle.apl_base.specs.declared.faults.Cause.TheVariants.{TooLong, Utf8, LineLong, Character, Number, OpenText, Header, DoubleName, OpenDefinition, NameClass, Deep, Grammar}
use Rattle.array_desc.specs.Desc.{DescView}
use Rattle.drag_along.specs.declared.leaves.Leaf.{Leaf}
use Rattle.drag_along.specs.declared.leaves.Leaf.TheVariants.{Stored, Gen}
use Rattle.drag_along.specs.Nodes.{leaf_desc}
use Rattle.apl_model.specs.Printed.{blank, newline, number_text}
use Rattle.apl_print.specs.declared.costs.Cost.{Cost}

-- fields joined by one blank, on a line
abbrev pub line_of : List (List ℕ) → List ℕ
line_of fields = join_by (λ f. f) blank fields ++ newline

-- ---- reports

-- a line with what stands before it, and a caret under its column. Columns count from 1
abbrev pub pointed : List ℕ → List ℕ → ℕ → List ℕ
pointed prefix line column = prefix ++ (line ++ (newline ++ (replicate (length prefix + (column - 1)) 32 ++ codes "^\n")))

-- ---- refusals

-- the words of a cause
abbrev pub cause_words : Cause → List ℕ
cause_words TooLong = codes "TOO LONG"
cause_words Utf8 = codes "UTF8"
cause_words LineLong = codes "LINE LONG"
cause_words Character = codes "CHARACTER"
cause_words Number = codes "NUMBER"
cause_words OpenText = codes "OPEN TEXT"
cause_words Header = codes "HEADER"
cause_words DoubleName = codes "DOUBLE NAME"
cause_words OpenDefinition = codes "OPEN DEFINITION"
cause_words NameClass = codes "NAME CLASS"
cause_words Deep = codes "DEEP"
cause_words Grammar = codes "GRAMMAR"

-- the line of a refusal: `REFUSED`, its line, its column and the words of its cause
abbrev pub refusal_line : Refusal → List ℕ
refusal_line r = line_of (codes "REFUSED" ∷ decimal r.line ∷ decimal r.column ∷ cause_words r.cause ∷ [])

-- ---- the trace

-- the line of a statement that ended: `COST`, its line, its number among the statements begun, and what it took
abbrev pub cost_line : Cost → List ℕ
cost_line c = line_of (codes "COST" ∷ decimal c.line ∷ decimal c.begun ∷ decimal c.ops ∷ [])

-- numbers joined by commas; none is `-`
abbrev pub numbers_field : List ℤ → List ℕ
numbers_field [] = codes "-"
numbers_field (z ∷ zs) = join_by number_text (codes ",") (z ∷ zs)

-- what a leaf reads: `S` and the owner's key where it is stored, else `G`
abbrev pub source_fields : Leaf → List (List ℕ)
source_fields (Stored owner desc kind) = codes "S" ∷ decimal owner ∷ []
source_fields (Gen desc kind) = codes "G" ∷ []

-- how it reads: the base, the strides and the lengths
abbrev pub view_fields : DescView → List (List ℕ)
view_fields d = number_text d.base ∷ numbers_field d.strides ∷ numbers_field (map pos d.shape) ∷ []

-- the line of a variable: `DESC`, its name, what its leaf reads, and how
abbrev pub desc_line : List ℕ → Leaf → List ℕ
desc_line name leaf = line_of (codes "DESC" ∷ name ∷ (source_fields leaf ++ view_fields (leaf_desc leaf)))
