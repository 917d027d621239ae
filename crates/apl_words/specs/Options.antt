-- The options that the words of the command line give.
use Rattle.std.specs.Prelude.{ℕ, ◌+◌, ◌-◌, ◌*◌, ◌==◌, ◌&&◌, nat_le, Bool, true, false, not, List, [], ◌∷◌, Option, Some, None, option_map, option_and_then, codes, if◌then◌else◌}
use Rattle.std.specs.List.{list_all, fold}
use Rattle.std.specs.Str.{bytes_eq}
use Rattle.clap.specs.Walk.{Row, Rule, Text, first_of, is_empty}
use Rattle.clap.specs.Simple.{App, Shape, matches_of, new_app, new_rule, on_top, with_rule}
use Rattle.clap.specs.Faults.{fault_of}
use Rattle.clap.specs.declared.builder.action.ArgAction.TheVariants.{Set, SetTrue}
use Rattle.apl_words.specs.declared.options.Options.{Options}

-- ---- the words

-- an option with a value, and a flag
abbrev pub valued : Text → Rule
valued name = record (new_rule name) { long = Some name; action = Some Set }

abbrev pub flag : Text → Rule
flag name = record (new_rule name) { long = Some name; action = Some SetTrue }

-- no word is the program's name, and none asks for help or a version
abbrev pub plain : Shape → Shape
plain s = record s { no_binary_name = true; disable_help_flag = true; disable_version_flag = true }

-- the command line: three options, in any order
abbrev pub command : App
command = with_rule (with_rule (with_rule (on_top plain (new_app (codes "aplm")))
    (valued (codes "turns"))) (flag (codes "trace"))) (valued (codes "workload"))

-- the words name these options alone, each at most once, and give a value to those that have one
abbrev pub are_taken : List Text → Bool
are_taken words = is_empty (fault_of command words)

-- ---- numbers

-- a digit, and what it stands for
abbrev pub is_digit : ℕ → Bool
is_digit c = nat_le 48 c && nat_le c 57

abbrev pub with_digit : ℕ → ℕ → ℕ
with_digit n c = n * 10 + (c - 48)

-- a text that begins like a number: not with a 0 before more
abbrev pub begins_well : Text → Bool
begins_well [] = false
begins_well (c ∷ []) = true
begins_well (c ∷ d ∷ cs) = not (c == 48)

-- the number that decimal digits are, where it is at most so much
abbrev pub value_to : ℕ → Text → Option ℕ
value_to most text =
    let n = fold with_digit 0 text in
    if list_all is_digit text && nat_le n most then Some n else None

-- the number that a text is, without sign or leading zero, where it is at most so much
abbrev pub number_to : ℕ → Text → Option ℕ
number_to most text = if begins_well text then value_to most text else None

-- ---- the options

-- the number of turns: what stands there, or a million
abbrev pub turns_in : Option Text → Option ℕ
turns_in None = Some 1000000
turns_in (Some text) = number_to 1000000000000 text

-- the number of the workload, where there is one
abbrev pub workload_in : Option Text → Option (Option ℕ)
workload_in None = Some None
workload_in (Some text) = option_map Some (number_to 999999 text)

-- the flag stands there
abbrev pub is_set : Option Text → Bool
is_set None = false
is_set (Some text) = bytes_eq text (codes "true")

-- the options of the words' matches
abbrev pub options_from : List Row → Option Options
options_from rows = option_and_then (λ turns. option_map (λ workload.
    record { turns = turns; traced = is_set (first_of (codes "trace") rows); workload = workload })
    (workload_in (first_of (codes "workload") rows)))
    (turns_in (first_of (codes "turns") rows))

-- the options that the words give, or none where they are not of the form
abbrev pub options_of : List Text → Option Options
options_of words = if are_taken words then options_from (matches_of command words) else None
