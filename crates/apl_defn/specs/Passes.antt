-- What the two passes over a script have found, after some of its parts.
use Rattle.std.specs.Prelude.{◌≡◌, ℕ, ◌↔◌, true, List, [], ◌∷◌, None, map}
use Rattle.std.specs.List.{IsAmong, AllZip}
use Rattle.apl_model.specs.Mirror.{item_of, body_line_of}
use Rattle.apl_model.specs.Refusal.{Heads, IsFirstIfAny}
use Rattle.apl_model.specs.Script.{Part, alone, defined, opens, IsHeadOf, IsItem, IsBodyLine}
use Rattle.apl_model.specs.declared.scripts.Header.{Header}
use Rattle.apl_model.specs.declared.tokens.Heading.{Heading}
use Rattle.apl_model.specs.declared.tokens.Line.{Line}
use Rattle.apl_defn.specs.PartRefusals.{OfSome, AfterOthers, IsFormRefusal, IsBodyRefusal, IsUseRefusal}
use Rattle.apl_defn.specs.Reading.{IsReadLine}
use Rattle.apl_defn.specs.declared.forms.Forms.{Forms}
use Rattle.apl_defn.specs.declared.uses.Body.{Body}
use Rattle.apl_defn.specs.declared.uses.Uses.{Uses}

-- the lines of a part are read, and the first line of a definition opens one
abbrev pub IsReadPart : Part → Type 0
IsReadPart (alone l) = IsReadLine l
IsReadPart (defined first body last) = IsReadLine first × (opens first.tokens ≡ true) × ((l : Line) → IsAmong body l → IsReadLine l)

-- the headers of the definitions among parts, in order
abbrev pub AreHeaders : List Part → List Header → Type 0
AreHeaders [] [] = Unit {0}
AreHeaders [] (h ∷ hs) = ⊥
AreHeaders (alone l ∷ ps) hs = AreHeaders ps hs
AreHeaders (defined first body last ∷ ps) [] = ⊥
AreHeaders (defined first body last ∷ ps) (h ∷ hs) = IsHeadOf first h × AreHeaders ps hs

-- after these parts: the first refusal of a form, the headers where there is none, and the names that head a part
pub record AreForms (ps : List Part) (f : Forms) : Type 0 where
  pub earliest : IsFirstIfAny (AfterOthers IsFormRefusal ps) f.earliest
  pub headers : f.earliest ≡ None → AreHeaders ps f.headers.items
  pub headed : (n : List ℕ) → IsAmong f.headed n ↔ Heads ps n

-- after these lines of a body: the first refusal, and the lines as they are read where there is none
pub record IsBody (hs : List Heading) (ls : List Line) (b : Body) : Type 0 where
  pub earliest : IsFirstIfAny (OfSome (IsBodyRefusal hs) ls) b.earliest
  pub lines : b.earliest ≡ None → AllZip (IsBodyLine hs) ls (map body_line_of b.lines.items)

-- after these parts: the first refusal of a use, and the items where there is none
pub record AreUses (hs : List Heading) (ps : List Part) (u : Uses) : Type 0 where
  pub earliest : IsFirstIfAny (OfSome (IsUseRefusal hs) ps) u.earliest
  pub items : u.earliest ≡ None → AllZip (IsItem hs) ps (map item_of u.items.items)
