use Rattle.std.proofs.Common.{◌≡◌, sym, rules}
use Rattle.std.proofs.lemmas.Str.{chars_from_encodes, IsUtf8-string_bytes}
use Rattle.std.specs.Str.{encode_utf8_all}
use Rattle.std.specs.String.{string_bytes}
use Rattle.apl_read.proofs.pieces.string_of.Goals as goal

pub returns : goal.returns
returns c =
    let e : string_bytes c.in_ok-text.text ≡ encode_utf8_all c.args.characters.now = search rules in
    sym (chars_from_encodes c.args.characters.now (string_bytes c.in_ok-text.text) (IsUtf8-string_bytes c.in_ok-text.text) (sym e))
