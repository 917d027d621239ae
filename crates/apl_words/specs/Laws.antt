-- Worked command lines, and a worked seed.
use Rattle.std.specs.Prelude.{◌≡◌, true, false, [], ◌∷◌, Some, None, codes}
use Rattle.apl_words.specs.Options.{options_of}
use Rattle.apl_words.specs.Workload.{next_seed}

-- nothing is asked for
abbrev pub NoWords : Type 0
NoWords = options_of [] ≡ Some (record { turns = 1000000; traced = false; workload = None })

-- the options in any order, the value behind `=` or as a word of its own
abbrev pub AllWords : Type 0
AllWords =
    options_of (codes "--trace" ∷ codes "--workload=7" ∷ codes "--turns" ∷ codes "5" ∷ [])
    ≡ Some (record { turns = 5; traced = true; workload = Some 7 })

-- a value that is no such number, a value that is missing, and a word of no option
abbrev pub RefusedWords : Type 0
RefusedWords =
    (options_of (codes "--turns" ∷ codes "05" ∷ []) ≡ None)
    × (options_of (codes "--turns" ∷ []) ≡ None)
    × (options_of (codes "--help" ∷ []) ≡ None)

-- the first seed of the workload 7
abbrev pub FirstSeed : Type 0
FirstSeed = next_seed 7 ≡ 1282168116
