-- A reader of one statement, one token after the other. It keeps what is open on a stack, and it gives the tree
-- wherever there is one. Only proofs know it: the definitions say which trees a line has.
use Rattle.std.proofs.Common.{ℕ, zero, suc, ◌==◌, cond, List, [], ◌∷◌, Option, None, Some}
use Rattle.std.specs.Option.{option_and_then}
use Rattle.apl_base.specs.declared.cells.Kind.TheVariants as kind
use Rattle.apl_base.specs.declared.faults.Place.{Place}
use Rattle.apl_base.specs.declared.rows.Dya.{Dya}
use Rattle.apl_base.specs.declared.rows.Dya.TheVariants as dya
use Rattle.apl_base.specs.declared.rows.Mon.{Mon}
use Rattle.apl_base.specs.declared.rows.Mon.TheVariants as mon
use Rattle.apl_model.specs.Characters.{code}
use Rattle.apl_model.specs.Grammar.{arguments_of}
use Rattle.apl_model.specs.Tree.{Tree, constant, variable, call, parenthesis, monadic, dyadic, reduction, outer_product, inner_product, subscript, assignment, indexed_assignment, output, Slot, elided, given, Positions, no_position, position, Statement, nothing, branch, expression}
use Rattle.apl_model.specs.declared.functions.Axis.{Axis}
use Rattle.apl_model.specs.declared.functions.Axis.TheVariants as axis
use Rattle.apl_model.specs.declared.functions.DyaFn.{DyaFn}
use Rattle.apl_model.specs.declared.functions.DyaFn.TheVariants as two
use Rattle.apl_model.specs.declared.functions.MonFn.{MonFn}
use Rattle.apl_model.specs.declared.functions.MonFn.TheVariants as one
use Rattle.apl_model.specs.declared.tokens.Heading.{Heading}
use Rattle.apl_model.specs.declared.tokens.Token.{Token}
use Rattle.apl_model.specs.declared.tokens.Word.{Word}
use Rattle.apl_model.specs.declared.tokens.Word.TheVariants as word
use Rattle.apl_model.specs.declared.trees.Literal.{Literal}

-- what a token is to the grammar
pub data Sort : Type 0 where
  literal : Literal → Sort
  -- a name, and how many arguments its function has
  named : List ℕ → Option ℕ → Sort
  -- a scalar function, and its reading with one argument
  scalar : Dya → Option Mon → Sort
  -- a function that takes no axis in brackets, with one argument and with two
  plain : Option MonFn → Option DyaFn → Sort
  turn slash slash_first backslash jot dot assign arrow quad : Sort
  open_paren close_paren open_bracket close_bracket semicolon other : Sort

pub record Entry : Type 0 where
  pub glyph : ℕ
  pub sort : Sort

abbrev pub entries : List Entry
entries =
    record { glyph = code "+"; sort = scalar dya.Add (Some mon.Plus) } ∷
    record { glyph = code "-"; sort = scalar dya.Sub (Some mon.Minus) } ∷
    record { glyph = code "×"; sort = scalar dya.Mul (Some mon.Sign) } ∷
    record { glyph = code "÷"; sort = scalar dya.Div (Some mon.Recip) } ∷
    record { glyph = code "*"; sort = scalar dya.Pow None } ∷
    record { glyph = code "⌈"; sort = scalar dya.Max (Some mon.Ceil) } ∷
    record { glyph = code "⌊"; sort = scalar dya.Min (Some mon.Floor) } ∷
    record { glyph = code "|"; sort = scalar dya.Residue (Some mon.Abs) } ∷
    record { glyph = code "∧"; sort = scalar dya.And None } ∷
    record { glyph = code "∨"; sort = scalar dya.Or None } ∷
    record { glyph = code "⍲"; sort = scalar dya.Nand None } ∷
    record { glyph = code "⍱"; sort = scalar dya.Nor None } ∷
    record { glyph = code "<"; sort = scalar dya.Lt None } ∷
    record { glyph = code "≤"; sort = scalar dya.Le None } ∷
    record { glyph = code "="; sort = scalar dya.Eq None } ∷
    record { glyph = code "≥"; sort = scalar dya.Ge None } ∷
    record { glyph = code ">"; sort = scalar dya.Gt None } ∷
    record { glyph = code "≠"; sort = scalar dya.Ne None } ∷
    record { glyph = code "~"; sort = plain (Some (one.Scalar mon.Not)) None } ∷
    record { glyph = code "!"; sort = plain (Some (one.Scalar mon.Fact)) None } ∷
    record { glyph = code "⍳"; sort = plain (Some one.Iota) (Some two.IndexOf) } ∷
    record { glyph = code "⍴"; sort = plain (Some one.Shape) (Some two.Reshape) } ∷
    record { glyph = code ","; sort = plain (Some one.Ravel) (Some two.Catenate) } ∷
    record { glyph = code "⍉"; sort = plain (Some one.Transpose) (Some two.Transpose) } ∷
    record { glyph = code "⊖"; sort = plain (Some (one.Reverse axis.First)) (Some (two.Rotate axis.First)) } ∷
    record { glyph = code "⍋"; sort = plain (Some one.GradeUp) None } ∷
    record { glyph = code "⍒"; sort = plain (Some one.GradeDown) None } ∷
    record { glyph = code "↑"; sort = plain None (Some two.Take) } ∷
    record { glyph = code "↓"; sort = plain None (Some two.Skip) } ∷
    record { glyph = code "∈"; sort = plain None (Some two.Member) } ∷
    record { glyph = code "⊤"; sort = plain None (Some two.Encode) } ∷
    record { glyph = code "⊥"; sort = plain None (Some two.Decode) } ∷
    record { glyph = code "⍀"; sort = plain None (Some (two.Expand axis.First)) } ∷
    record { glyph = code "⌽"; sort = turn } ∷
    record { glyph = code "/"; sort = slash } ∷
    record { glyph = code "⌿"; sort = slash_first } ∷
    record { glyph = code "\\"; sort = backslash } ∷
    record { glyph = code "∘"; sort = jot } ∷
    record { glyph = code "."; sort = dot } ∷
    record { glyph = code "←"; sort = assign } ∷
    record { glyph = code "→"; sort = arrow } ∷
    record { glyph = code "⎕"; sort = quad } ∷
    record { glyph = code "("; sort = open_paren } ∷
    record { glyph = code ")"; sort = close_paren } ∷
    record { glyph = code "["; sort = open_bracket } ∷
    record { glyph = code "]"; sort = close_bracket } ∷
    record { glyph = code ";"; sort = semicolon } ∷ []

abbrev pub sort_in : List Entry → ℕ → Sort
sort_in [] c = other
sort_in (e ∷ es) c = cond (c == e.glyph) e.sort (sort_in es c)

abbrev pub sort : List Heading → Word → Sort
sort hs (word.Numbers zs) = literal (record { kind = kind.Num; cells = zs })
sort hs (word.Chars zs) = literal (record { kind = kind.Char; cells = zs })
sort hs (word.Name n) = named n (arguments_of hs n)
sort hs (word.Glyph c) = sort_in entries c

-- a form that waits for its right argument
pub data Wait : Type 0 where
  for_call : List ℕ → Slot → Place → Wait
  for_monadic : MonFn → Place → Wait
  for_dyadic : DyaFn → Tree → Place → Wait
  for_reduction : Dya → Axis → Place → Wait
  for_outer : Dya → Tree → Place → Wait
  for_inner : Dya → Dya → Tree → Place → Wait
  for_assignment : List ℕ → Place → Wait
  for_indexed : List ℕ → Positions → Place → Wait
  for_output : Place → Wait

abbrev pub filled : Wait → Tree → Tree
filled (for_call f left p) e = call f left (given e) p
filled (for_monadic f p) e = monadic f e p
filled (for_dyadic f left p) e = dyadic f left e p
filled (for_reduction f x p) e = reduction f x e p
filled (for_outer f left p) e = outer_product f left e p
filled (for_inner f g left p) e = inner_product f g left e p
filled (for_assignment n p) e = assignment n e p
filled (for_indexed n qs p) e = indexed_assignment n qs e p
filled (for_output p) e = output e p

-- what is open, the innermost first. At the bottom the place of → where there is one
pub data Stack : Type 0 where
  bottom : Option Place → Stack
  waiting : Wait → Stack → Stack
  in_parenthesis : Place → Stack → Stack
  in_subscript : Tree → Positions → Place → Stack → Stack

-- what takes an axis in brackets
pub data Along : Type 0 where
  reduces : Dya → Place → Along
  reverses : Place → Along
  rotates : Tree → Place → Along
  compresses : Tree → Place → Along
  expands : Tree → Place → Along

abbrev pub along_axis : Along → Axis → Wait
along_axis (reduces f p) x = for_reduction f x p
along_axis (reverses p) x = for_monadic (one.Reverse x) p
along_axis (rotates left p) x = for_dyadic (two.Rotate x) left p
along_axis (compresses left p) x = for_dyadic (two.Compress x) left p
along_axis (expands left p) x = for_dyadic (two.Expand x) left p

-- what stands last
pub data Status : Type 0 where
  -- nothing yet: the statement begins
  first : Status
  -- an expression has to begin, or a position, which may be left out
  must may : Status
  operand : Tree → Status
  -- a scalar function where an expression begins: of a reduction, or with one argument
  glyph_first : Dya → Option Mon → Place → Status
  -- a scalar function after an operand: of an inner product, or with two arguments
  glyph_after : Dya → Tree → Place → Status
  -- what takes an axis: with [ and a number, or none
  axis_or_none : Along → Status
  axis_opened : Along → Status
  axis_given : Along → Axis → Status
  after_jot after_jot_dot : Tree → Place → Status
  after_dot : Dya → Tree → Place → Status
  after_quad : Place → Status

pub record State : Type 0 where
  pub stack : Stack
  pub status : Status

abbrev pub state : Stack → Status → State
state x y = record { stack = x; status = y }

abbrev pub awaits : Wait → Stack → State
awaits w o = state (waiting w o) must

-- an expression begins
abbrev pub begun : Stack → Place → Sort → Option State
begun o p (literal l) = Some (state o (operand (constant l p)))
begun o p (named n None) = Some (state o (operand (variable n p)))
begun o p (named n (Some zero)) = Some (state o (operand (call n elided elided p)))
begun o p (named n (Some (suc zero))) = Some (awaits (for_call n elided p) o)
begun o p (named n (Some (suc (suc k)))) = None
begun o p (scalar f m) = Some (state o (glyph_first f m p))
begun o p (plain (Some f) g) = Some (awaits (for_monadic f p) o)
begun o p (plain None g) = None
begun o p turn = Some (state o (axis_or_none (reverses p)))
begun o p quad = Some (state o (after_quad p))
begun o p open_paren = Some (state (in_parenthesis p o) must)
begun o p _ = None

-- an expression is complete: what waits for it takes it
pub record Wound : Type 0 where
  pub tree : Tree
  pub stack : Stack

abbrev pub wind : Tree → Stack → Wound
wind e (bottom b) = record { tree = e; stack = bottom b }
wind e (waiting w o) = wind (filled w e) o
wind e (in_parenthesis p o) = record { tree = e; stack = in_parenthesis p o }
wind e (in_subscript a qs p o) = record { tree = e; stack = in_subscript a qs p o }

-- one position more at the end
abbrev pub then_position : Positions → Slot → Positions
then_position no_position s = position s no_position
then_position (position q qs) s = position q (then_position qs s)

abbrev pub close_parenthesis : Tree → Stack → Option State
close_parenthesis e (bottom b) = None
close_parenthesis e (waiting w o) = None
close_parenthesis e (in_parenthesis p o) = Some (state o (operand (parenthesis e p)))
close_parenthesis e (in_subscript a qs p o) = None

abbrev pub close_subscript : Slot → Stack → Option State
close_subscript s (bottom b) = None
close_subscript s (waiting w o) = None
close_subscript s (in_parenthesis p o) = None
close_subscript s (in_subscript a qs p o) = Some (state o (operand (subscript a (then_position qs s) p)))

abbrev pub next_position : Slot → Stack → Option State
next_position s (bottom b) = None
next_position s (waiting w o) = None
next_position s (in_parenthesis p o) = None
next_position s (in_subscript a qs p o) = Some (state (in_subscript a (then_position qs s) p o) may)

abbrev pub assigned : Tree → Stack → Option State
assigned (variable n p) o = Some (awaits (for_assignment n p) o)
assigned (subscript (variable n q) qs p) o = Some (awaits (for_indexed n qs p) o)
assigned _ o = None

-- a name after an operand: that of a function of two arguments
abbrev pub followed_by_name : Stack → Tree → Place → List ℕ → Option ℕ → Option State
followed_by_name o e p n None = None
followed_by_name o e p n (Some zero) = None
followed_by_name o e p n (Some (suc zero)) = None
followed_by_name o e p n (Some (suc (suc zero))) = Some (awaits (for_call n (given e) p) o)
followed_by_name o e p n (Some (suc (suc (suc k)))) = None

-- after an operand, what takes an axis in brackets, or goes on with a dot
abbrev pub followed_along : Stack → Tree → Place → Sort → Option State
followed_along o e p turn = Some (state o (axis_or_none (rotates e p)))
followed_along o e p slash = Some (state o (axis_or_none (compresses e p)))
followed_along o e p backslash = Some (state o (axis_or_none (expands e p)))
followed_along o e p jot = Some (state o (after_jot e p))
followed_along o e p _ = None

-- a function after an operand
abbrev pub followed_by : Stack → Tree → Place → Sort → Option State
followed_by o e p (named n k) = followed_by_name o e p n k
followed_by o e p (scalar f m) = Some (state o (glyph_after f e p))
followed_by o e p (plain f (Some g)) = Some (awaits (for_dyadic g e p) o)
followed_by o e p (plain f None) = None
followed_by o e p slash_first = Some (awaits (for_dyadic (two.Compress axis.First) e p) o)
followed_by o e p s = followed_along o e p s

-- after an operand
abbrev pub followed : Stack → Tree → Place → Sort → Option State
followed o e p assign = assigned e o
followed o e p open_bracket = Some (state (in_subscript e no_position p o) may)
followed o e p close_paren = let w = wind e o in close_parenthesis w.tree w.stack
followed o e p close_bracket = let w = wind e o in close_subscript (given w.tree) w.stack
followed o e p semicolon = let w = wind e o in next_position (given w.tree) w.stack
followed o e p s = followed_by o e p s

-- a position may begin, or be left out
abbrev pub may_begin : Stack → Place → Sort → Option State
may_begin o p close_bracket = close_subscript elided o
may_begin o p semicolon = next_position elided o
may_begin o p s = begun o p s

-- the first token of a statement
abbrev pub first_taken : Stack → Place → Sort → Option State
first_taken o p arrow = Some (state (bottom (Some p)) must)
first_taken o p s = begun o p s

-- after a scalar function where an expression begins
abbrev pub after_first : Stack → Dya → Option Mon → Place → Place → Sort → Option State
after_first o f m q p slash = Some (state o (axis_or_none (reduces f p)))
after_first o f m q p slash_first = Some (awaits (for_reduction f axis.First p) o)
after_first o f None q p s = None
after_first o f (Some m) q p s = begun (waiting (for_monadic (one.Scalar m) q) o) p s

abbrev pub after_scalar : Stack → Dya → Tree → Place → Place → Sort → Option State
after_scalar o f e q p dot = Some (state o (after_dot f e p))
after_scalar o f e q p s = begun (waiting (for_dyadic (two.Scalar f) e q) o) p s

abbrev pub axis_begun : Stack → Along → Place → Sort → Option State
axis_begun o a p open_bracket = Some (state o (axis_opened a))
axis_begun o a p s = begun (waiting (along_axis a axis.Last) o) p s

abbrev pub axis_number : Stack → Along → Literal → Option State
axis_number o a l = elim (l.kind) [
  | kind.Num ↦ elim (l.cells) [ [] ↦ None | z ∷ zs ↦ elim zs [ [] ↦ Some (state o (axis_given a (axis.Numbered z))) | y ∷ ys ↦ None ] ]
  | kind.Char ↦ None
]

abbrev pub axis_taken : Stack → Along → Sort → Option State
axis_taken o a (literal l) = axis_number o a l
axis_taken o a _ = None

abbrev pub axis_closed : Stack → Along → Axis → Sort → Option State
axis_closed o a x close_bracket = Some (awaits (along_axis a x) o)
axis_closed o a x _ = None

abbrev pub dot_taken : Stack → Tree → Place → Sort → Option State
dot_taken o e q dot = Some (state o (after_jot_dot e q))
dot_taken o e q _ = None

abbrev pub outer_taken : Stack → Tree → Place → Sort → Option State
outer_taken o e q (scalar f m) = Some (awaits (for_outer f e q) o)
outer_taken o e q _ = None

abbrev pub inner_taken : Stack → Dya → Tree → Place → Sort → Option State
inner_taken o f e q (scalar g m) = Some (awaits (for_inner f g e q) o)
inner_taken o f e q _ = None

abbrev pub quad_taken : Stack → Place → Sort → Option State
quad_taken o q assign = Some (awaits (for_output q) o)
quad_taken o q _ = None

abbrev pub taken_by : Stack → Status → Place → Sort → Option State
taken_by o first p s = first_taken o p s
taken_by o must p s = begun o p s
taken_by o may p s = may_begin o p s
taken_by o (operand e) p s = followed o e p s
taken_by o (glyph_first f m q) p s = after_first o f m q p s
taken_by o (glyph_after f e q) p s = after_scalar o f e q p s
taken_by o (axis_or_none a) p s = axis_begun o a p s
taken_by o (axis_opened a) p s = axis_taken o a s
taken_by o (axis_given a x) p s = axis_closed o a x s
taken_by o (after_jot e q) p s = dot_taken o e q s
taken_by o (after_jot_dot e q) p s = outer_taken o e q s
taken_by o (after_dot f e q) p s = inner_taken o f e q s
taken_by o (after_quad q) p s = quad_taken o q s

-- one token
abbrev pub taken : State → Place → Sort → Option State
taken x p s = taken_by x.stack x.status p s

abbrev pub step : List Heading → ℕ → State → Token → Option State
step hs n x t = taken x (record { line = n; column = t.from }) (sort hs t.word)

-- all tokens
abbrev pub run : List Heading → ℕ → Option State → List Token → Option State
run hs n x [] = x
run hs n x (t ∷ ts) = run hs n (option_and_then (λ y. step hs n y t) x) ts

abbrev pub start : State
start = state (bottom None) first

-- the statement, where the tokens end here
abbrev pub finished_with : Tree → Stack → Option Statement
finished_with e (bottom None) = Some (expression e)
finished_with e (bottom (Some p)) = Some (branch e p)
finished_with e _ = None

abbrev pub finished : State → Option Statement
finished x = elim (x.status) [
  | first ↦ Some nothing
  | operand e ↦ let w = wind e x.stack in finished_with w.tree w.stack
  | _ ↦ None
]

-- the statement of these tokens
abbrev pub read : List Heading → ℕ → List Token → Option Statement
read hs n ts = option_and_then finished (run hs n (Some start) ts)
