-- The examples are computed, the characters of their bytes included.
use Rattle.std.proofs.Common.{refl}
use Rattle.std.specs.Char.{encode_utf8}
use Rattle.std.specs.Str.{chars, is_utf8}
use Rattle.std.specs.Str.Lossy.{utf8_valid_len}
use Rattle.apl_read.proofs.laws.worked_lines.Goals as goal

pub returns-clause-lines : goal.returns-clause-lines
unfolding chars is_utf8 utf8_valid_len encode_utf8
returns-clause-lines c = refl

pub returns-clause-accepted : goal.returns-clause-accepted
unfolding chars is_utf8 utf8_valid_len encode_utf8
returns-clause-accepted c = refl

pub returns-clause-character : goal.returns-clause-character
unfolding chars is_utf8 utf8_valid_len encode_utf8
returns-clause-character c = refl

pub returns-clause-ill_formed : goal.returns-clause-ill_formed
unfolding chars is_utf8 utf8_valid_len encode_utf8
returns-clause-ill_formed c = refl
