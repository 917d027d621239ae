-- The reader of commands, behind the ): its state is what was read so far.
use Rattle.std.specs.Prelude.{ℕ, nat_lt, if◌then◌else◌, List, [], ◌∷◌, ◌++◌, Option, None, Some, codes, ℤ, pos, negsuc}
use Rattle.apl_model.specs.Environment.{is_same_name}
use Rattle.apl_model.specs.declared.scripts.Command.{Command}
use Rattle.apl_model.specs.declared.scripts.Command.TheVariants as command
use Rattle.apl_model.specs.declared.tokens.Word.{Word}
use Rattle.apl_model.specs.declared.tokens.Word.TheVariants as word
use Rattle.apl_defn.specs.declared.commands.CommandSoFar.{CommandSoFar}
use Rattle.apl_defn.specs.declared.commands.CommandSoFar.TheVariants as so_far

-- the command that a name begins
abbrev pub named : List ℕ → Option CommandSoFar
named n =
    if is_same_name n (codes "VARS") then Some (so_far.Whole command.Vars) else (
    if is_same_name n (codes "FNS") then Some (so_far.Whole command.Fns) else (
    if is_same_name n (codes "ERASE") then Some (so_far.Erases []) else (
    if is_same_name n (codes "ORIGIN") then Some so_far.Origin else None)))

abbrev pub takes_name : CommandSoFar → List ℕ → Option CommandSoFar
takes_name so_far.Opened n = named n
takes_name (so_far.Whole c) n = None
takes_name (so_far.Erases ns) n = Some (so_far.Erases (ns ++ (n ∷ [])))
takes_name so_far.Origin n = None

-- one number that is 0 or 1
abbrev pub with_origin : List ℤ → Option CommandSoFar
with_origin [] = None
with_origin (pos n ∷ []) = if nat_lt n 2 then Some (so_far.Whole (command.Origin (pos n))) else None
with_origin (negsuc n ∷ []) = None
with_origin (z ∷ y ∷ zs) = None

abbrev pub takes_numbers : CommandSoFar → List ℤ → Option CommandSoFar
takes_numbers so_far.Opened zs = None
takes_numbers (so_far.Whole c) zs = None
takes_numbers (so_far.Erases ns) zs = None
takes_numbers so_far.Origin zs = with_origin zs

-- what was read with one word more, where a command goes on with it
abbrev pub takes : CommandSoFar → Word → Option CommandSoFar
takes x (word.Numbers zs) = takes_numbers x zs
takes x (word.Chars zs) = None
takes x (word.Name n) = takes_name x n
takes x (word.Glyph c) = None

-- the command, where it may end here
abbrev pub finished : CommandSoFar → Option Command
finished so_far.Opened = None
finished (so_far.Whole c) = Some c
finished (so_far.Erases []) = None
finished (so_far.Erases (n ∷ ns)) = Some (command.Erase (n ∷ ns))
finished so_far.Origin = None
