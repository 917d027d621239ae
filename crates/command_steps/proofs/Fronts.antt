-- A part of some bytes is a front of them.
use Rattle.std.proofs.Common.{ℕ, List, take, drop, Option}
use Rattle.std.proofs.lemmas.List.{take-append-drop}
use Rattle.apl_outside.specs.Bytes.{GainsPart}
use Rattle.apl_print.specs.Bytes.{GainsPrefix}

pub prefix-alone : (a b : Option (List ℕ)) (bytes : List ℕ) → GainsPart a b bytes → GainsPrefix a b bytes
prefix-alone a b bytes p = record { front = take p.count bytes; rest = drop p.count bytes; whole = take-append-drop p.count bytes; gained = p.gained }
