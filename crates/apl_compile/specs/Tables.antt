-- What the tables of a program have: of a name, of a line's number, the first that the outline has of it.
use Rattle.std.specs.Prelude.{◌≡◌, ℕ, suc, ◌+◌, ◌==◌, List, [], ◌∷◌, length, nat_eq, String, Option, Some, None, if◌then◌else◌}
use Rattle.std.specs.Str.{chars, IsUtf8}
use Rattle.apl_model.specs.declared.outlines.OutlineBody.{OutlineBody}
use Rattle.apl_model.specs.declared.outlines.OutlineItem.{OutlineItem}
use Rattle.apl_model.specs.declared.outlines.OutlineItem.TheVariants as outline
use Rattle.apl_model.specs.declared.outlines.OutlineLine.{OutlineLine}
use Rattle.apl_model.specs.Environment.{is_same_name}
use Rattle.apl_compile.specs.declared.programs.Function.{Function}
use Rattle.apl_compile.specs.declared.tables.Standing.{Standing}
use Rattle.indexmap.specs.IndexMap.{IndexMap, get, get_by_text}

-- how many codes an item has
abbrev pub codes_at : OutlineItem → ℕ
codes_at (outline.Statement line) = 1
codes_at (outline.Command line c) = 0
codes_at (outline.Definition opened closed header body) = length body

abbrev pub codes_for : List OutlineItem → ℕ
codes_for [] = 0
codes_for (i ∷ is) = codes_at i + codes_for is

-- the first item that defines the name, and its first code, where this is the number of the first item, and this that
-- of its first code
abbrev pub function_from : ℕ → ℕ → List OutlineItem → List ℕ → Option Function
function_from item code [] name = None
function_from item code (outline.Statement line ∷ is) name = function_from (suc item) (code + 1) is name
function_from item code (outline.Command line c ∷ is) name = function_from (suc item) code is name
function_from item code (outline.Definition opened closed header body ∷ is) name =
    if is_same_name header.f name then Some (record { item = item; code = code }) else function_from (suc item) (code + length body) is name

-- the place of the first that has the number, where this is the place of the first
abbrev pub place_from : {X : Type 0} → (X → ℕ) → ℕ → List X → ℕ → Option ℕ
place_from number_of at [] number = None
place_from number_of at (x ∷ xs) number = if number_of x == number then Some at else place_from number_of (suc at) xs number

-- the line of this item's body, where there is one
abbrev pub standing_or : ℕ → Option ℕ → Option Standing → Option Standing
standing_or item (Some line) others = Some (record { item = item; line = line })
standing_or item None others = others

-- the first item in whose body the line of this number stands, where this is the number of the first item
abbrev pub standing_from : ℕ → List OutlineItem → ℕ → Option Standing
standing_from item [] number = None
standing_from item (outline.Statement line ∷ is) number = standing_from (suc item) is number
standing_from item (outline.Command line c ∷ is) number = standing_from (suc item) is number
standing_from item (outline.Definition opened closed header body ∷ is) number =
    standing_or item (place_from (λ l. l.line) 0 body number) (standing_from (suc item) is number)

-- ---- tables of items and lines, where the first has these numbers

abbrev pub HasFunctions : {Y S : Type 0} → IndexMap (String Y) Function S → ℕ → ℕ → List OutlineItem → Type 0
HasFunctions table item code items = (text : List ℕ) → IsUtf8 text → get_by_text table text ≡ function_from item code items (chars text)

abbrev pub HasLines : {S : Type 0} → IndexMap ℕ ℕ S → ℕ → List OutlineLine → Type 0
HasLines table place lines = (number : ℕ) → get nat_eq table number ≡ place_from (λ l. l.number) place lines number

abbrev pub HasBodies : {S : Type 0} → IndexMap ℕ Standing S → ℕ → List OutlineItem → Type 0
HasBodies table item items = (number : ℕ) → get nat_eq table number ≡ standing_from item items number

-- the lines of an item's body were put into the table
abbrev pub PutsBody : {S : Type 0} → IndexMap ℕ Standing S → IndexMap ℕ Standing S → ℕ → ℕ → List OutlineBody → Type 0
PutsBody old new item line body = (number : ℕ) → get nat_eq new number ≡ standing_or item (place_from (λ l. l.line) line body number) (get nat_eq old number)
