-- Scripts: commands.
use Rattle.std.specs.Prelude.{◌∷◌, [], Some, None, map, codes}
use Rattle.apl_model.specs.declared.scripts.Command.TheVariants.{Vars, Fns, Erase}
use Rattle.apl_model.specs.Tree.{Script, expression, statement_item, command_item}
use Rattle.apl_model_examples.specs.Words.{script, at, number, name, sets, header, definition}

-- the set names are listed in order of bytes; an erased name is unset; there are no functions
abbrev pub names_are_listed_and_erased : Script
names_are_listed_and_erased = script ("B←1" ∷ "A←2" ∷ ")VARS" ∷ ")ERASE B" ∷ ")VARS" ∷ ")FNS" ∷ [])
    (statement_item 1 (expression (sets "B" (number 1 (at 1 3)) (at 1 1)))
    ∷ statement_item 2 (expression (sets "A" (number 2 (at 2 3)) (at 2 1)))
    ∷ command_item 3 Vars
    ∷ command_item 4 (Erase (map codes ("B" ∷ [])))
    ∷ command_item 5 Vars
    ∷ command_item 6 Fns
    ∷ [])

-- functions are listed in order of bytes, also those without a result; a function may stand below the command
abbrev pub functions_are_listed_in_order_of_bytes : Script
functions_are_listed_in_order_of_bytes = script ("∇F" ∷ "∇" ∷ ")FNS" ∷ "∇⍙G;B" ∷ "∇" ∷ "∇Z←A E C" ∷ "∇" ∷ [])
    (definition 1 2 (header None None "F" None []) []
    ∷ command_item 3 Fns
    ∷ definition 4 5 (header None None "⍙G" None ("B" ∷ [])) []
    ∷ definition 6 7 (header (Some (codes "Z")) (Some (codes "A")) "E" (Some (codes "C")) []) []
    ∷ [])

-- a name that is unset is passed over when it is erased
abbrev pub an_unset_name_is_passed_over : Script
an_unset_name_is_passed_over = script ("A←1" ∷ ")ERASE B A A" ∷ ")VARS" ∷ "A" ∷ [])
    (statement_item 1 (expression (sets "A" (number 1 (at 1 3)) (at 1 1)))
    ∷ command_item 2 (Erase (map codes ("B" ∷ "A" ∷ "A" ∷ [])))
    ∷ command_item 3 Vars
    ∷ statement_item 4 (expression (name "A" (at 4 1)))
    ∷ [])

-- names are ordered by the first byte in which they differ, and one that another begins with stands before it
abbrev pub names_differ_at_their_first_differing_byte : Script
names_differ_at_their_first_differing_byte = script ("A←AB←BA←1"
    ∷ "⍙←∆←a←Z9←Z_←2" ∷ ")VARS" ∷ "∇GF" ∷ "∇" ∷ "∇FG" ∷ "∇" ∷ ")FNS" ∷ [])
    (statement_item 1 (expression (sets "A" (sets "AB" (sets "BA" (number 1 (at 1 9)) (at 1 6)) (at 1 3)) (at 1 1)))
    ∷ statement_item 2 (expression
    (sets "⍙"
    (sets "∆" (sets "a" (sets "Z9" (sets "Z_" (number 2 (at 2 13)) (at 2 10)) (at 2 7)) (at 2 5)) (at 2 3)) (at 2 1)))
    ∷ command_item 3 Vars
    ∷ definition 4 5 (header None None "GF" None []) []
    ∷ definition 6 7 (header None None "FG" None []) []
    ∷ command_item 8 Fns
    ∷ [])
