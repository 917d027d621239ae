-- What is printed: arrays and reports, as characters. (Own: the layout of arrays and the three-line report.)
use Rattle.std.specs.Prelude.{ℕ, zero, suc, ◌+◌, ◌-◌, ◌*◌, max, ℤ, pos, negsuc, Bool, true, false, List, [], ◌∷◌, ◌++◌, map, length, replicate, take, drop, codes, decimal}
use Rattle.std.specs.List.{join_by, fold}
use Rattle.apl_base.specs.declared.cells.Kind.{Kind}
use Rattle.apl_base.specs.declared.cells.Kind.TheVariants.{Num, Char}
use Rattle.apl_base.specs.declared.faults.ErrorKind.{ErrorKind}
use Rattle.apl_base.specs.declared.faults.ErrorKind.TheVariants as error
use Rattle.apl_base.specs.Array.{Array}
use Rattle.apl_model.specs.Whole.{is_empty}

-- ---- numbers

-- a number: its digits, with ¯ before a negative one
abbrev pub number_text : ℤ → List ℕ
number_text (pos n) = decimal n
number_text (negsuc n) = 175 ∷ decimal (suc n)

-- a character is itself
abbrev pub cell_text : Kind → ℤ → List ℕ
cell_text Num z = number_text z
cell_text Char (pos c) = c ∷ []
cell_text Char (negsuc n) = []

-- ---- arrays

abbrev pub newline : List ℕ
newline = 10 ∷ []

abbrev pub blank : List ℕ
blank = 32 ∷ []

-- characters stand side by side, numbers are joined by one blank
abbrev pub between_cells : Kind → List ℕ
between_cells Num = blank
between_cells Char = []

abbrev pub vector_text : Kind → List ℤ → List ℕ
vector_text kind cells = join_by (cell_text kind) (between_cells kind) cells ++ newline

-- a text at the right end of a field
abbrev pub right_justified : ℕ → List ℕ → List ℕ
right_justified width text = replicate (width - length text) 32 ++ text

-- the rows: n cells each
abbrev pub rows_of : ℕ → ℕ → List ℤ → List (List ℤ)
rows_of zero n cells = []
rows_of (suc k) n cells = take n cells ∷ rows_of k n (drop n cells)

-- the widest text of each column over all rows
abbrev pub wider : List ℕ → List ℕ → List ℕ
wider (m ∷ ms) (n ∷ ns) = max m n ∷ wider ms ns
wider ms [] = ms
wider [] (n ∷ ns) = n ∷ ns

abbrev pub widths_of : List (List (List ℕ)) → List ℕ
widths_of rows = fold (λ widest row. wider widest (map length row)) [] rows

abbrev pub justified : List ℕ → List (List ℕ) → List (List ℕ)
justified (w ∷ ws) (t ∷ ts) = right_justified w t ∷ justified ws ts
justified ws ts = ts

abbrev pub row_text : Kind → List ℕ → List (List ℕ) → List ℕ
row_text kind widths row = join_by (λ t. t) (between_cells kind) (justified widths row) ++ newline

-- rows of texts in planes of so many rows, an empty line between two planes
abbrev pub planes_text : ℕ → ℕ → List (List ℕ) → List ℕ
planes_text zero n lines = []
planes_text (suc zero) n lines = join_by (λ t. t) [] (take n lines)
planes_text (suc (suc k)) n lines = join_by (λ t. t) [] (take n lines) ++ newline ++ planes_text (suc k) n (drop n lines)

-- the number of planes, the rows of each, the cells of each row
abbrev pub table_text : Kind → ℕ → ℕ → ℕ → List ℤ → List ℕ
table_text kind planes rows columns cells =
    let texts = map (map (cell_text kind)) (rows_of (planes * rows) columns cells) in
    let widths = widths_of texts in
    planes_text planes rows (map (row_text kind widths) texts)

-- the planes of the last two axes, and those two
abbrev pub planes_of : Kind → ℕ → List ℕ → List ℤ → List ℕ
planes_of kind planes [] cells = []
planes_of kind planes (n ∷ []) cells = vector_text kind cells
planes_of kind planes (m ∷ n ∷ []) cells = table_text kind planes m n cells
planes_of kind planes (k ∷ m ∷ n ∷ ns) cells = planes_of kind (planes * k) (m ∷ n ∷ ns) cells

-- a scalar is one element, a vector one line, also where it is empty; of an array of rank 2 or more without
-- elements nothing is printed
abbrev pub shaped_text : Bool → Kind → List ℕ → List ℤ → List ℕ
shaped_text empty kind [] cells = vector_text kind cells
shaped_text empty kind (n ∷ []) cells = vector_text kind cells
shaped_text true kind (m ∷ n ∷ ns) cells = []
shaped_text false kind (m ∷ n ∷ ns) cells = planes_of kind 1 (m ∷ n ∷ ns) cells

-- the text of an array
abbrev pub array_text : Array → List ℕ
array_text a = shaped_text (is_empty a) a.kind a.shape a.cells

-- ---- reports

abbrev pub error_name : ErrorKind → List ℕ
error_name error.Value = codes "VALUE"
error_name error.Domain = codes "DOMAIN"
error_name error.Length = codes "LENGTH"
error_name error.Rank = codes "RANK"
error_name error.Index = codes "INDEX"
error_name error.Limit = codes "LIMIT"
error_name error.Depth = codes "DEPTH"

-- what stands before the line of a body: the function's name and the line's number in brackets, and a blank
abbrev pub body_prefix : List ℕ → ℕ → List ℕ
body_prefix name k = name ++ codes "[" ++ decimal k ++ codes "] "

-- what stands before a line outside definitions: six blanks
abbrev pub plain_prefix : List ℕ
plain_prefix = replicate 6 32

-- the error's name; the line; and a caret under the place. Columns count from 1
abbrev pub report_text : ErrorKind → List ℕ → List ℕ → ℕ → List ℕ
report_text kind prefix line column =
    error_name kind ++ codes " ERROR" ++ newline
    ++ prefix ++ line ++ newline
    ++ replicate (length prefix + (column - 1)) 32 ++ codes "^" ++ newline
