-- The options of the matches.
use Rattle.std.proofs.Common.{◌≡◌, ℕ, Bool, List, refl, Option, Some, None, codes}
use Rattle.clap.specs.Walk.{Row, Text, first_of}
use Rattle.apl_words.specs.Options.{is_set, options_from, turns_in, workload_in}

pub found : (rows : List Row) (a b c : Option Text) (turns : ℕ) (workload : Option ℕ) (traced : Bool) → a ≡ first_of (codes "turns") rows → b ≡ first_of (codes "workload") rows
    → c ≡ first_of (codes "trace") rows → turns_in a ≡ Some turns → workload_in b ≡ Some workload
    → traced ≡ is_set c → options_from rows ≡ Some (record { turns = turns; traced = traced; workload = workload })
found rows a b c turns workload traced e f g h k is = rw (← e, ← f, ← g, h, k, is) refl

pub no_turns : (rows : List Row) (a : Option Text) → a ≡ first_of (codes "turns") rows → turns_in a ≡ None → options_from rows ≡ None
no_turns rows a e h = rw (← e, h) refl

pub no_workload : (rows : List Row) (a b : Option Text) (turns : ℕ) → a ≡ first_of (codes "turns") rows → b ≡ first_of (codes "workload") rows
    → turns_in a ≡ Some turns → workload_in b ≡ None → options_from rows ≡ None
no_workload rows a b turns e f h k = rw (← e, ← f, h, k) refl
