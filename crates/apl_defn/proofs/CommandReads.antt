-- The reader of commands is at an end exactly after commands.
use Rattle.std.proofs.Common.{◌≡◌, ℕ, zero, suc, ◌<◌, ◌≤◌, Bool, true, false, cond, List, [], ◌∷◌, ◌++◌, length, take, Option, None, Some, ◌⊎◌, inl, inr, ℤ, pos, negsuc, refl, sym, ap, subst, ◌∙◌, arith, append_assoc, append-nil, codes}
use Rattle.std.specs.Prelude.{nat_lt}
use borrow.Author.Tests.{ltb-true}
use lib.Signed.{le_z_yes}
use Rattle.std.specs.Cmp.Lexicographic.{bytes_decides}
use Rattle.apl_model.proofs.Unique.{words_of, token_words, same_words, closed_out}
use Rattle.apl_model.specs.Environment.{is_same_name}
use Rattle.apl_model.specs.Grammar.{IsCommand, AreNames}
use Rattle.apl_model.specs.Refusal.{outside, IsLawful}
use Rattle.apl_model.specs.Script.{IsCommandLine}
use Rattle.apl_model.specs.Spelling.{Mark, some, glyph, name_marks, command_spelling, Spell}
use Rattle.apl_model.specs.declared.scripts.Command.{Command}
use Rattle.apl_model.specs.declared.scripts.Command.TheVariants as command
use Rattle.apl_model.specs.declared.tokens.Heading.{Heading}
use Rattle.apl_model.specs.declared.tokens.Line.{Line}
use Rattle.apl_model.specs.declared.tokens.Token.{Token}
use Rattle.apl_model.specs.declared.tokens.Word.{Word}
use Rattle.apl_model.specs.declared.tokens.Word.TheVariants as word
use Rattle.apl_tree.proofs.SortFacts.{IsWord, AreWords}
use Rattle.apl_tree.proofs.SplitTokens.{IsNumbers}
use Rattle.apl_defn.proofs.PlainMarks.{names_more, ArePlain, plain_names, spells_by_words}
use Rattle.apl_defn.proofs.Readers.{run, behind_first, read_all, GoesBy, runs_on, some_is, none_is, Ends, Completes, by_nothing, by_name, Reads}
use Rattle.apl_defn.specs.CommandSteps.{with_origin, takes_name, takes_numbers, takes, finished}
use Rattle.apl_defn.specs.declared.commands.CommandSoFar.{CommandSoFar}
use Rattle.apl_defn.specs.declared.commands.CommandSoFar.TheVariants as so_far

-- ---- What was read ----

-- the marks of a command behind its )
abbrev marks : Command → List Mark
marks command.Vars = name_marks (codes "VARS" ∷ [])
marks command.Fns = name_marks (codes "FNS" ∷ [])
marks (command.Erase ns) = name_marks (codes "ERASE" ∷ ns)
marks (command.Origin o) = some (word.Name (codes "ORIGIN")) ∷ some (word.Numbers (o ∷ [])) ∷ []

-- they say no places
plain_marks : (c : Command) → ArePlain (marks c)
plain_marks command.Vars = tt
plain_marks command.Fns = tt
plain_marks (command.Erase ns) = plain_names ns
plain_marks (command.Origin o) = tt

-- a command is spelled as ) and these
spelled : (c : Command) → command_spelling c ≡ some (glyph ")") ∷ marks c
spelled command.Vars = refl
spelled command.Fns = refl
spelled (command.Erase ns) = refl
spelled (command.Origin o) = refl

-- the words that were read
abbrev shown : CommandSoFar → List Word
shown so_far.Opened = []
shown (so_far.Whole c) = words_of (marks c)
shown (so_far.Erases ns) = words_of (name_marks (codes "ERASE" ∷ ns))
shown so_far.Origin = word.Name (codes "ORIGIN") ∷ []

-- their names are names, and the origin is 0 or 1
abbrev IsSoFar : CommandSoFar → Type 0
IsSoFar so_far.Opened = Unit {0}
IsSoFar (so_far.Whole c) = IsCommand c
IsSoFar (so_far.Erases ns) = AreNames ns
IsSoFar so_far.Origin = Unit {0}

-- by this word the reader goes on from x to y
abbrev Goes : CommandSoFar → Word → CommandSoFar → Type 0
Goes = GoesBy shown IsSoFar

-- ---- One word more ----

-- the name behind ), by the tests of what it is
by_names : (a b c d : Bool) (n : List ℕ) (y : CommandSoFar) → is_same_name n (codes "VARS") ≡ a → is_same_name n (codes "FNS") ≡ b → is_same_name n (codes "ERASE") ≡ c → is_same_name n (codes "ORIGIN") ≡ d →
    (let o : Option CommandSoFar = cond a (Some (so_far.Whole command.Vars)) (cond b (Some (so_far.Whole command.Fns)) (cond c (Some (so_far.Erases [])) (cond d (Some so_far.Origin) None))) in o ≡ Some y) →
    Goes so_far.Opened (word.Name n) y
by_names true b c d n y e f g h s =
    some_is (Goes so_far.Opened (word.Name n)) (so_far.Whole command.Vars) y (record { shows = ap (λ m. word.Name m ∷ []) ((bytes_decides n (codes "VARS")).0 e); lawful = tt }) s
by_names false true c d n y e f g h s =
    some_is (Goes so_far.Opened (word.Name n)) (so_far.Whole command.Fns) y (record { shows = ap (λ m. word.Name m ∷ []) ((bytes_decides n (codes "FNS")).0 f); lawful = tt }) s
by_names false false true d n y e f g h s =
    some_is (Goes so_far.Opened (word.Name n)) (so_far.Erases []) y (record { shows = ap (λ m. word.Name m ∷ []) ((bytes_decides n (codes "ERASE")).0 g); lawful = tt }) s
by_names false false false true n y e f g h s =
    some_is (Goes so_far.Opened (word.Name n)) so_far.Origin y (record { shows = ap (λ m. word.Name m ∷ []) ((bytes_decides n (codes "ORIGIN")).0 h); lawful = tt }) s
by_names false false false false n y e f g h s = none_is s

-- the words of one name more
erased_more : (ns : List (List ℕ)) (n : List ℕ) → words_of (name_marks ns) ++ (word.Name n ∷ []) ≡ words_of (name_marks (ns ++ (n ∷ [])))
erased_more [] n = refl
erased_more (m ∷ ns) n = ap (λ ws. word.Name m ∷ ws) (erased_more ns n)

-- each word that the reader takes, it shows: a name
name_goes : (x : CommandSoFar) (n : List ℕ) (y : CommandSoFar) → IsWord (word.Name n) → IsSoFar x → takes_name x n ≡ Some y → Goes x (word.Name n) y
name_goes so_far.Opened n y i s e =
    by_names (is_same_name n (codes "VARS")) (is_same_name n (codes "FNS")) (is_same_name n (codes "ERASE")) (is_same_name n (codes "ORIGIN")) n y refl refl refl refl e
name_goes (so_far.Whole c) n y i s e = none_is e
name_goes (so_far.Erases ns) n y i s e =
    some_is (Goes (so_far.Erases ns) (word.Name n)) (so_far.Erases (ns ++ (n ∷ []))) y
    (record { shows = ap (λ ws. word.Name (codes "ERASE") ∷ ws) (erased_more ns n); lawful = names_more ns n s i }) e
name_goes so_far.Origin n y i s e = none_is e

-- a number below 2
zero_or_one : (n : ℕ) → n < 2 → (pos n ≡ pos 0) ⊎ (pos n ≡ pos 1)
zero_or_one zero h = inl refl
zero_or_one (suc zero) h = inr refl
zero_or_one (suc (suc n)) h = absurd (omega arith)

-- an origin, and literals that are none
by_origin : (b : Bool) (n : ℕ) (y : CommandSoFar) → nat_lt n 2 ≡ b →
    (let o : Option CommandSoFar = cond b (Some (so_far.Whole (command.Origin (pos n)))) None in o ≡ Some y) → Goes so_far.Origin (word.Numbers (pos n ∷ [])) y
by_origin true n y e g =
    some_is (Goes so_far.Origin (word.Numbers (pos n ∷ []))) (so_far.Whole (command.Origin (pos n))) y (record { shows = refl; lawful = zero_or_one n (ltb-true n 2 e) }) g
by_origin false n y e g = none_is g

origin_goes : (zs : List ℤ) (y : CommandSoFar) → with_origin zs ≡ Some y → Goes so_far.Origin (word.Numbers zs) y
origin_goes [] y e = none_is e
origin_goes (pos n ∷ []) y e = by_origin (nat_lt n 2) n y refl e
origin_goes (negsuc n ∷ []) y e = none_is e
origin_goes (z ∷ x ∷ zs) y e = none_is e

-- a literal of numbers
numbers_go : (x : CommandSoFar) (zs : List ℤ) (y : CommandSoFar) → takes_numbers x zs ≡ Some y → Goes x (word.Numbers zs) y
numbers_go so_far.Opened zs y e = none_is e
numbers_go (so_far.Whole c) zs y e = none_is e
numbers_go (so_far.Erases ns) zs y e = none_is e
numbers_go so_far.Origin zs y e = origin_goes zs y e

-- any word
goes_on : (x : CommandSoFar) (w : Word) (y : CommandSoFar) → IsWord w → IsSoFar x → takes x w ≡ Some y → Goes x w y
goes_on x (word.Numbers zs) y i s e = numbers_go x zs y e
goes_on x (word.Chars zs) y i s e = none_is e
goes_on x (word.Name n) y i s e = name_goes x n y i s e
goes_on x (word.Glyph c) y i s e = none_is e

-- ---- Sound ----

-- the words are those of the command
record IsCommandOf (c : Command) (ws : List Word) : Type 0 where
  lawful : IsCommand c
  same : words_of (marks c) ≡ ws

-- where the reader is at an end, it read the words of the command that it answers
command_is : (y : CommandSoFar) (c : Command) (ws : List Word) → IsSoFar y → finished y ≡ Some c → ws ≡ shown y → IsCommandOf c ws
command_is so_far.Opened c ws s f e = none_is f
command_is (so_far.Whole d) c ws s f e = some_is (λ v. IsCommandOf v ws) d c (record { lawful = s; same = sym e }) f
command_is (so_far.Erases []) c ws s f e = none_is f
command_is (so_far.Erases (n ∷ ns)) c ws s f e = some_is (λ v. IsCommandOf v ws) (command.Erase (n ∷ ns)) c (record { lawful = (omega arith, s); same = sym e }) f
command_is so_far.Origin c ws s f e = none_is f

-- ---- Complete ----

-- the reader goes over names
erased_run : (ks ns : List (List ℕ)) → run takes (Some (so_far.Erases ks)) (words_of (name_marks ns)) ≡ Some (so_far.Erases (ks ++ ns))
erased_run ks [] = ap (λ v. Some (so_far.Erases v)) (sym (append-nil ks))
erased_run ks (n ∷ ns) = erased_run (ks ++ (n ∷ [])) ns ∙ ap (λ v. Some (so_far.Erases v)) (append_assoc ks (n ∷ []) ns)

-- the reader goes over a command, and is at an end then
ends_command : (c : Command) → IsCommand c → Ends takes finished so_far.Opened (words_of (marks c))
ends_command command.Vars h = record { last = so_far.Whole command.Vars; answer = command.Vars; runs = refl; ends = refl }
ends_command command.Fns h = record { last = so_far.Whole command.Fns; answer = command.Fns; runs = refl; ends = refl }
ends_command (command.Erase []) h = absurd (none_below h.0)
  where
    none_below : 0 < 0 → ⊥
    none_below h = omega arith
ends_command (command.Erase (n ∷ ns)) h = record { last = so_far.Erases (n ∷ ns); answer = command.Erase (n ∷ ns); runs = erased_run [] (n ∷ ns); ends = refl }
ends_command (command.Origin o) (inl e) =
    subst (λ z. Ends takes finished so_far.Opened (words_of (marks (command.Origin z)))) (sym e)
    (record { last = so_far.Whole (command.Origin (pos 0)); answer = command.Origin (pos 0); runs = refl; ends = refl })
ends_command (command.Origin o) (inr e) =
    subst (λ z. Ends takes finished so_far.Opened (words_of (marks (command.Origin z)))) (sym e)
    (record { last = so_far.Whole (command.Origin (pos 1)); answer = command.Origin (pos 1); runs = refl; ends = refl })

-- ---- Completions ----

-- behind ) the name VARS
by_vars : Completes takes finished so_far.Opened
by_vars = record {
  more = codes "VARS";
  sound = λ k. (tt, tt);
  words = λ k. (refl, tt);
  ends = λ k. record { last = so_far.Whole command.Vars; answer = command.Vars; runs = refl; ends = refl };
  apart = λ k h. absurd h;
}

-- behind )ORIGIN, which is no number, the number 0
by_zero : Completes takes finished so_far.Origin
by_zero = record {
  more = codes "0";
  sound = λ k. (tt, tt);
  words = λ k. ((record { cells = (record { least = le_z_yes tt; most = le_z_yes tt }, tt); filled = omega arith; few = omega arith }), tt);
  ends = λ k. record { last = so_far.Whole (command.Origin (pos 0)); answer = command.Origin (pos 0); runs = refl; ends = refl };
  apart = λ k h y zs e. no_origin y zs e;
}
  where
    whole_clash : (c : Command) → Some (so_far.Whole c) ≡ Some so_far.Origin → ⊥
    whole_clash c e = cc

    by_test : (b : Bool) (n : ℕ) → (let o : Option CommandSoFar = cond b (Some (so_far.Whole (command.Origin (pos n)))) None in o ≡ Some so_far.Origin) → ⊥
    by_test true n e = whole_clash (command.Origin (pos n)) e
    by_test false n e = none_is e

    no_origin : (y : CommandSoFar) (zs : List ℤ) → takes_numbers y zs ≡ Some so_far.Origin → ⊥
    no_origin so_far.Opened zs e = none_is e
    no_origin (so_far.Whole c) zs e = none_is e
    no_origin (so_far.Erases ns) zs e = none_is e
    no_origin so_far.Origin [] e = none_is e
    no_origin so_far.Origin (pos n ∷ []) e = by_test (nat_lt n 2) n e
    no_origin so_far.Origin (negsuc n ∷ []) e = none_is e
    no_origin so_far.Origin (z ∷ x ∷ zs) e = none_is e

-- behind )ERASE alone a name completes the command, and behind a whole command nothing has to follow
completes : (x : CommandSoFar) → Completes takes finished x
completes so_far.Opened = by_vars
completes (so_far.Whole c) = by_nothing takes finished (so_far.Whole c) c refl
completes (so_far.Erases []) = by_name takes finished (so_far.Erases []) (so_far.Erases (codes "A" ∷ [])) (command.Erase (codes "A" ∷ [])) refl refl
completes (so_far.Erases (n ∷ ns)) = by_nothing takes finished (so_far.Erases (n ∷ ns)) (command.Erase (n ∷ ns)) refl
completes so_far.Origin = by_zero

-- ) is no literal of numbers
not_numbers : (w : Word) → glyph ")" ≡ w → IsNumbers w → ⊥
not_numbers w e h = subst IsNumbers (sym e) h

-- the tokens spell the command that the reader answers
read_sound : (n : ℕ) (ts : List Token) (y : CommandSoFar) (c : Command) → AreWords ts → run takes (Some so_far.Opened) (token_words ts) ≡ Some y → finished y ≡ Some c →
    IsCommand c × Spell n (marks c) ts
read_sound n ts y c w runs ends =
    let r = runs_on takes shown IsSoFar goes_on so_far.Opened ts y w tt runs in
    let s = command_is y c (token_words ts) r.lawful ends r.shows in
    (s.lawful, spells_by_words n (marks c) ts (plain_marks c) s.same)

-- with the )
spells : (n : ℕ) (c : Command) (first : Token) (ts : List Token) → glyph ")" ≡ first.word → Spell n (marks c) ts → Spell n (command_spelling c) (first ∷ ts)
spells n c first ts e h = subst (λ ms. Spell n ms (first ∷ ts)) (sym (spelled c)) (e, h)

-- the reader is at an end exactly after commands: a line that begins with ) is no statement
pub command_reads : (hs : List Heading) (n : ℕ) (first : Token) → glyph ")" ≡ first.word → Reads takes finished so_far.Opened outside hs n first
command_reads hs n first e = record {
  begins = not_numbers first.word e;
  sound = λ ts w f. let r = read_sound n ts f.last f.answer w f.runs f.ends in inr (f.answer, r.0, spells n f.answer first ts e r.1);
  complete = λ ts l. complete ts l;
  completes = completes;
}
  where
    complete : (ts : List Token) → IsLawful outside hs n (first ∷ ts) → Ends takes finished so_far.Opened (token_words ts)
    complete ts (inl (s, h, a)) = closed_out hs n first ts s h a e
    complete ts (inr (c, h, a)) =
        subst (Ends takes finished so_far.Opened) (same_words n (marks c) ts (subst (λ ms. Spell n ms (first ∷ ts)) (spelled c) a).1) (ends_command c h)

-- the line is the command that the reader answers behind its last token
pub command_of_all : (l : Line) (first : Token) (rest ts : List Token) (i : ℕ) (y : CommandSoFar) (c : Command) → AreWords l.tokens → l.tokens ≡ first ∷ rest → glyph ")" ≡ first.word → ts ≡ l.tokens →
    length (behind_first ts) ≤ i → run takes (Some so_far.Opened) (token_words (take i (behind_first ts))) ≡ Some y → finished y ≡ Some c → IsCommandLine l l.number c
command_of_all l first rest ts i y c w split g e len runs ends =
    let r = read_sound l.number rest y c (subst AreWords split w).1 (read_all takes so_far.Opened first ts rest i y (e ∙ split) len runs) ends in
    record { number = refl; command = r.0; spells = subst (Spell l.number (command_spelling c)) (sym split) (spells l.number c first rest g r.1) }
