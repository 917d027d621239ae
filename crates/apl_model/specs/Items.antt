-- Which items of a script are well formed. Texts, tokens, columns and depth of the lines are not asked.
use Rattle.std.specs.Prelude.{◌≡◌, ◌⊎◌, List, [], ◌∷◌, ◌++◌, None, ℕ, map}
use Rattle.std.specs.List.{AllByRecursion, IsDistinct}
use Rattle.std.specs.Option.{option_to_list}
use Rattle.apl_model.specs.Environment.{is_same_name}
use Rattle.apl_model.specs.Grammar.{arguments_of, IsStatement, IsCommand, IsHeader, IsLabel}
use Rattle.apl_model.specs.Script.{headings}
use Rattle.apl_model.specs.Tree.{BodyLine, Definition, Item, statement_item, command_item, definition_item}
use Rattle.apl_model.specs.declared.scripts.Command.{Command}
use Rattle.apl_model.specs.declared.scripts.Command.TheVariants as command
use Rattle.apl_model.specs.declared.tokens.Heading.{Heading}

-- names that head no definition
abbrev pub AreFree : List Heading → List (List ℕ) → Type 0
AreFree hs ns = AllByRecursion (λ n. arguments_of hs n ≡ None) ns

abbrev pub labels : List BodyLine → List (List ℕ)
labels [] = []
labels (b ∷ bs) = option_to_list b.label ++ labels bs

-- the names of a definition, in the order of their places: its result, left argument, function, right argument,
-- locals and labels
abbrev pub names_of_definition : Definition → List (List ℕ)
names_of_definition d = option_to_list d.header.result ++ (option_to_list d.header.left ++ (d.header.f ∷ (option_to_list d.header.right ++ (d.header.locals ++ labels d.body))))

pub record IsLawfulLine (hs : List Heading) (b : BodyLine) : Type 0 where
  pub label : IsLabel hs b.label
  pub statement : IsStatement hs b.statement

-- a definition is well formed where its names differ, and none of them but its function's own heads a definition
pub record IsLawfulDefinition (hs : List Heading) (d : Definition) : Type 0 where
  pub header : IsHeader d.header
  pub body : AllByRecursion (IsLawfulLine hs) d.body
  pub distinct : IsDistinct is_same_name (names_of_definition d)
  pub free : AllByRecursion (λ n. (n ≡ d.header.f) ⊎ (arguments_of hs n ≡ None)) (names_of_definition d)

-- a command is well formed where )ERASE names no function
abbrev pub ErasesFree : List Heading → Command → Type 0
ErasesFree hs (command.Erase ns) = AreFree hs ns
ErasesFree hs command.Vars = Unit {0}
ErasesFree hs command.Fns = Unit {0}
ErasesFree hs (command.Origin o) = Unit {0}

abbrev pub IsLawfulItem : List Heading → Item → Type 0
IsLawfulItem hs (statement_item n s) = IsStatement hs s
IsLawfulItem hs (command_item n c) = IsCommand c × ErasesFree hs c
IsLawfulItem hs (definition_item d) = IsLawfulDefinition hs d

-- items are well formed where each one is, over the classes that they give, and no function is defined twice
pub record AreLawful (items : List Item) : Type 0 where
  pub each : AllByRecursion (IsLawfulItem (headings items)) items
  pub single : IsDistinct is_same_name (map (λ h. h.name) (headings items))
