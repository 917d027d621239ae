-- A map that was prepared from headings.
use Rattle.std.specs.Prelude.{◌≡◌, ℕ, List, String}
use Rattle.std.specs.BTreeMap.{BTreeMap, get_by_text}
use Rattle.std.specs.Str.{chars, IsUtf8}
use Rattle.apl_model.specs.Grammar.{arguments_of}
use Rattle.apl_model.specs.declared.tokens.Heading.{Heading}

-- the map has at the text of each name what the headings say of the name
abbrev pub Answers : {Y : Type 0} → BTreeMap (String Y) ℕ → List Heading → Type 0
Answers m hs = (text : List ℕ) → IsUtf8 text → get_by_text m text ≡ arguments_of hs (chars text)
