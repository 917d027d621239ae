use Rattle.std.proofs.Common.{◌≡◌, ◌∙◌, sym, ap, ℕ, List}
use Rattle.std.proofs.lemmas.Str.{chars-encodes, IsUtf8-string_bytes}
use Rattle.std.specs.Str.{IsUtf8, chars, encode_utf8_all}
use Rattle.apl_base.proofs.names.Name.as_str.Goals as goal

-- a text is its characters' bytes
encodes-chars : (bs : List ℕ) → IsUtf8 bs → bs ≡ encode_utf8_all (chars bs)
encodes-chars bs h =
    let same : chars bs ≡ h.0 = ap chars (sym h.1.1) ∙ chars-encodes h.0 h.1.0 in
    sym h.1.1 ∙ ap encode_utf8_all (sym same)

pub returns-clause-bytes : goal.returns-clause-bytes
returns-clause-bytes c = rw (c.as_str.ensures.value, ← c.self.view_is) (encodes-chars _ (IsUtf8-string_bytes c.self.inside.text))
