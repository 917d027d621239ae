-- The items of a script are items of the language.
use Rattle.std.proofs.Common.{◌≡◌, ℕ, suc, ◌≤◌, Bool, true, false, pos, List, [], ◌∷◌, length, map, Some, None, refl, ap, arith}
use Rattle.std.specs.List.{AllByRecursion, AllZip}
use Rattle.std.proofs.lemmas.List.{length-map}
use Rattle.apl_base.specs.Number.{IsNumber}
use Rattle.apl_model.specs.declared.tokens.Heading.{Heading}
use Rattle.apl_model.specs.declared.tokens.Line.{Line}
use Rattle.apl_model.specs.Call.{RoutineLine}
use Rattle.apl_model.specs.Grammar.{IsStatement}
use Rattle.apl_model.specs.Immediate.{routine_line}
use Rattle.apl_model.specs.Script.{is_empty, opens, closes, Part, alone, defined, Inside, parts, inside, headings, IsBodyLine, IsItem}
use Rattle.apl_model.specs.Tree.{Statement, BodyLine, Item, statement_item, command_item, definition_item}
use Rattle.apl_model_laws.specs.Lawful.{IsLawfulItem, ScriptsHaveLawfulItems, ImmediateIsLawful}
use Rattle.apl_model_laws.proofs.Safe.{runs_are_lawful}
use Rattle.apl_model_laws.proofs.Variables.{below-number}

-- a part whose body has at most n lines
abbrev IsShort : ℕ → Part → Type 0
IsShort n (alone l) = Unit {0}
IsShort n (defined l body last) = length body ≤ n

pub record AreShort (n : ℕ) (ls : List Line) (i : Inside) : Type 0 where
  pub body : length i.body ≤ length ls
  pub after : AllByRecursion (IsShort n) i.after

mutual
  parts-short : (n : ℕ) (ls : List Line) → length ls ≤ n → AllByRecursion (IsShort n) (parts ls)
  parts-short n [] h = tt
  parts-short n (l ∷ ls) h = by (is_empty l.tokens) (opens l.tokens) (parts-short n ls (omega (arith, h))) (inside-short n ls (omega (arith, h)))
    where
      by : (p q : Bool) → AllByRecursion (IsShort n) (parts ls) → AreShort n ls (inside ls) →
          AllByRecursion (IsShort n) (elim p [ true ↦ parts ls | false ↦ elim q [ true ↦ defined l (inside ls).body (inside ls).last ∷ (inside ls).after | false ↦ alone l ∷ parts ls ] ])
      by true q a b = a
      by false true a b = (omega (arith, b.body, h), b.after)
      by false false a b = (tt, a)

  inside-short : (n : ℕ) (ls : List Line) → length ls ≤ n → AreShort n ls (inside ls)
  inside-short n [] h = record { body = omega arith; after = tt }
  inside-short n (l ∷ ls) h = by (closes l.tokens) (parts-short n ls (omega (arith, h))) (inside-short n ls (omega (arith, h)))
    where
      by : (p : Bool) → AllByRecursion (IsShort n) (parts ls) → AreShort n ls (inside ls) →
          AreShort n (l ∷ ls) (elim p [ true ↦ record { body = []; last = Some l; after = parts ls } | false ↦ record { body = l ∷ (inside ls).body; last = (inside ls).last; after = (inside ls).after } ])
      by true a b = record { body = omega arith; after = a }
      by false a b = record { body = omega (arith, b.body); after = b.after }

body-lines : (hs : List Heading) (ls : List Line) (body : List BodyLine) → AllZip (IsBodyLine hs) ls body → AllByRecursion (λ (l : RoutineLine Statement). IsStatement hs l.statement) (map routine_line body)
body-lines hs [] [] h = tt
body-lines hs [] (b ∷ bs) h = absurd h
body-lines hs (l ∷ ls) [] h = absurd h
body-lines hs (l ∷ ls) (b ∷ bs) h = (h.0.statement, body-lines hs ls bs h.1)

body-length : (hs : List Heading) (ls : List Line) (body : List BodyLine) → AllZip (IsBodyLine hs) ls body → length body ≡ length ls
body-length hs [] [] h = refl
body-length hs [] (b ∷ bs) h = absurd h
body-length hs (l ∷ ls) [] h = absurd h
body-length hs (l ∷ ls) (b ∷ bs) h = ap suc (body-length hs ls bs h.1)

item-lawful : (hs : List Heading) (n : ℕ) → IsNumber (pos n) → (p : Part) (i : Item) → IsShort n p → IsItem hs p i → IsLawfulItem hs i
item-lawful hs n k (alone l) (statement_item m s) c h = h.statement
item-lawful hs n k (alone l) (command_item m s) c h = h.command
item-lawful hs n k (alone l) (definition_item d) c h = absurd h
item-lawful hs n k (defined l body (Some last)) (definition_item d) c h = record {
  lines = body-lines hs body d.body h.body;
  few = below-number (length (map routine_line d.body)) n (omega (arith, length-map d.body routine_line, body-length hs body d.body h.body, c)) k;
}
item-lawful hs n k (defined l body (Some last)) (statement_item m s) c h = absurd h
item-lawful hs n k (defined l body (Some last)) (command_item m s) c h = absurd h
item-lawful hs n k (defined l body None) i c h = absurd h

items-lawful : (hs : List Heading) (n : ℕ) → IsNumber (pos n) → (ps : List Part) (is : List Item) → AllByRecursion (IsShort n) ps → AllZip (IsItem hs) ps is → AllByRecursion (IsLawfulItem hs) is
items-lawful hs n k [] [] c h = tt
items-lawful hs n k [] (i ∷ is) c h = absurd h
items-lawful hs n k (p ∷ ps) [] c h = absurd h
items-lawful hs n k (p ∷ ps) (i ∷ is) c h = (item-lawful hs n k p i c.0 h.0, items-lawful hs n k ps is c.1 h.1)

pub scripts_have_lawful_items : ScriptsHaveLawfulItems
scripts_have_lawful_items ls script h k =
    items-lawful (headings script.items) (length ls) k (parts ls) script.items (parts-short (length ls) ls (omega arith)) h.items

pub immediate_is_lawful : ImmediateIsLawful
immediate_is_lawful ls script h k n =
    let items = scripts_have_lawful_items ls script h k in
    let e = runs_are_lawful (headings script.items) script script.items n items items in
    (e.globals, e.origin)
