use Rattle.std.proofs.Common.{◌≡◌, ◌++◌, take, codes, encode_utf8_all, string_bytes}
use Rattle.std.specs.List.{flat_map}
use Rattle.apl_model.specs.Printed.{number_text}
use Rattle.apl_print.proofs.lines.add_further_numbers.Given as goal

abbrev pub invariant-loop-number : goal.invariant-loop-number
invariant-loop-number l = string_bytes l.text ≡ string_bytes l.fn.text ++ encode_utf8_all (flat_map (λ z. codes "," ++ number_text z) (take l.number-index l.numbers))
