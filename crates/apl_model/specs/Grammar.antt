-- Which trees are those of the language, over given classes of names.
use Rattle.std.specs.Prelude.{◌≡◌, ℕ, ◌<◌, ◌≤◌, ◌^◌, ◌⊎◌, if◌then◌else◌, IsTrue, List, [], ◌∷◌, length, Option, Some, None, pos}
use Rattle.std.specs.List.{AllByRecursion}
use Rattle.std.specs.Option.{IsSome}
use Rattle.apl_base.specs.Number.{IsNumber, IsCell}
use Rattle.apl_base.specs.declared.cells.Kind.TheVariants as kind
use Rattle.apl_model.specs.Characters.{is_name}
use Rattle.apl_model.specs.Environment.{is_same_name}
use Rattle.apl_model.specs.Tree.{Tree, constant, variable, call, parenthesis, monadic, dyadic, reduction, outer_product, inner_product, subscript, assignment, indexed_assignment, output, Slot, elided, given, Positions, no_position, position, Statement, nothing, branch, expression}
use Rattle.apl_model.specs.declared.functions.Axis.{Axis}
use Rattle.apl_model.specs.declared.functions.Axis.TheVariants as axis
use Rattle.apl_model.specs.declared.functions.DyaFn.{DyaFn}
use Rattle.apl_model.specs.declared.functions.DyaFn.TheVariants as two
use Rattle.apl_model.specs.declared.functions.MonFn.{MonFn}
use Rattle.apl_model.specs.declared.functions.MonFn.TheVariants as one
use Rattle.apl_model.specs.declared.scripts.Command.{Command}
use Rattle.apl_model.specs.declared.scripts.Command.TheVariants as command
use Rattle.apl_model.specs.declared.scripts.Header.{Header}
use Rattle.apl_model.specs.declared.tokens.Heading.{Heading}
use Rattle.apl_model.specs.declared.trees.Literal.{Literal}

-- how many arguments the function of this name has, or none where the name heads no definition
abbrev pub arguments_of : List Heading → List ℕ → Option ℕ
arguments_of [] n = None
arguments_of (h ∷ hs) n = if is_same_name h.name n then Some h.arguments else arguments_of hs n

-- a name that heads no definition: that of a variable
pub record IsVariable (hs : List Heading) (n : List ℕ) : Type 0 where
  pub name : IsTrue (is_name n)
  pub free : arguments_of hs n ≡ None

-- the name of a function that has this many arguments
pub record IsFunction (hs : List Heading) (n : List ℕ) (arguments : ℕ) : Type 0 where
  pub name : IsTrue (is_name n)
  pub heads : arguments_of hs n ≡ Some arguments

-- a literal of numbers has at least one. It is a scalar where it has one cell
abbrev pub IsFilled : Literal → Type 0
IsFilled l = elim (l.kind) [ kind.Num ↦ 0 < length l.cells | kind.Char ↦ Unit {0} ]

-- one number, a vector of two or more numbers, one character, or a vector of characters that has not exactly one
pub record IsLiteral (l : Literal) : Type 0 where
  pub cells : AllByRecursion (IsCell l.kind) l.cells
  pub filled : IsFilled l
  pub few : length l.cells ≤ 2 ^ 40

-- the number of an axis is one of the language
abbrev pub IsAxis : Axis → Type 0
IsAxis axis.Last = Unit {0}
IsAxis axis.First = Unit {0}
IsAxis (axis.Numbered k) = IsNumber k

abbrev pub IsMonadic : MonFn → Type 0
IsMonadic (one.Reverse x) = IsAxis x
IsMonadic _ = Unit {0}

abbrev pub IsDyadic : DyaFn → Type 0
IsDyadic (two.Rotate x) = IsAxis x
IsDyadic (two.Compress x) = IsAxis x
IsDyadic (two.Expand x) = IsAxis x
IsDyadic _ = Unit {0}

-- what may stand as a left argument, and before [: a literal, a name, a function without arguments, a
-- parenthesis, or one of these with a subscript
abbrev pub IsOperand : Tree → Type 0
IsOperand (constant l p) = Unit {0}
IsOperand (variable n p) = Unit {0}
IsOperand (call f elided elided p) = Unit {0}
IsOperand (parenthesis e p) = Unit {0}
IsOperand (subscript a qs p) = Unit {0}
IsOperand _ = ⊥

-- at least one position
abbrev pub HasPosition : Positions → Type 0
HasPosition no_position = ⊥
HasPosition (position q qs) = Unit {0}

abbrev mutual
  -- an expression of the language
  pub IsExpression : List Heading → Tree → Type 0
  IsExpression hs (constant l p) = IsLiteral l
  IsExpression hs (variable n p) = IsVariable hs n
  IsExpression hs (call f elided elided p) = IsFunction hs f 0
  IsExpression hs (call f elided (given right) p) = IsFunction hs f 1 × IsExpression hs right
  IsExpression hs (call f (given left) elided p) = ⊥
  IsExpression hs (call f (given left) (given right) p) = IsFunction hs f 2 × IsOperand left × IsExpression hs left × IsExpression hs right
  IsExpression hs (parenthesis e p) = IsExpression hs e
  IsExpression hs (monadic f right p) = IsMonadic f × IsExpression hs right
  IsExpression hs (dyadic f left right p) = IsDyadic f × IsOperand left × IsExpression hs left × IsExpression hs right
  IsExpression hs (reduction f x right p) = IsAxis x × IsExpression hs right
  IsExpression hs (outer_product f left right p) = IsOperand left × IsExpression hs left × IsExpression hs right
  IsExpression hs (inner_product f g left right p) = IsOperand left × IsExpression hs left × IsExpression hs right
  IsExpression hs (subscript array qs p) = IsOperand array × IsExpression hs array × HasPosition qs × ArePositions hs qs
  IsExpression hs (assignment n value p) = IsVariable hs n × IsExpression hs value
  IsExpression hs (indexed_assignment n qs value p) = IsVariable hs n × HasPosition qs × ArePositions hs qs × IsExpression hs value
  IsExpression hs (output value p) = IsExpression hs value

  -- each position is left out or an expression
  pub ArePositions : List Heading → Positions → Type 0
  ArePositions hs no_position = Unit {0}
  ArePositions hs (position q qs) = IsPosition hs q × ArePositions hs qs

  pub IsPosition : List Heading → Slot → Type 0
  IsPosition hs elided = Unit {0}
  IsPosition hs (given e) = IsExpression hs e

abbrev pub IsStatement : List Heading → Statement → Type 0
IsStatement hs nothing = Unit {0}
IsStatement hs (branch e p) = IsExpression hs e
IsStatement hs (expression e) = IsExpression hs e

abbrev pub AreNames : List (List ℕ) → Type 0
AreNames ns = AllByRecursion (λ n. IsTrue (is_name n)) ns

-- a name, where there is one
abbrev pub IsOptionalName : Option (List ℕ) → Type 0
IsOptionalName None = Unit {0}
IsOptionalName (Some n) = IsTrue (is_name n)

-- a label, where there is one: a name that heads no definition
abbrev pub IsLabel : List Heading → Option (List ℕ) → Type 0
IsLabel hs None = Unit {0}
IsLabel hs (Some n) = IsVariable hs n

-- )ERASE has one or more names, and )ORIGIN has 0 or 1
abbrev pub IsCommand : Command → Type 0
IsCommand command.Vars = Unit {0}
IsCommand command.Fns = Unit {0}
IsCommand (command.Erase ns) = (0 < length ns) × AreNames ns
IsCommand (command.Origin o) = (o ≡ pos 0) ⊎ (o ≡ pos 1)

-- the first line of a definition: a left argument comes only with a right one
pub record IsHeader (h : Header) : Type 0 where
  pub f : IsTrue (is_name h.f)
  pub result : IsOptionalName h.result
  pub left : IsOptionalName h.left
  pub right : IsOptionalName h.right
  pub locals : AreNames h.locals
  pub both : IsSome h.left → IsSome h.right
