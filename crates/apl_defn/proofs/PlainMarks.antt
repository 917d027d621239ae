-- The words of marks and tokens. Marks that say no place spell tokens by their words alone.
use Rattle.std.proofs.Common.{◌≡◌, ℕ, IsTrue, List, [], ◌∷◌, ◌++◌, Option, None, Some, refl, ap}
use Rattle.apl_model.proofs.Unique.{word_of, words_of, token_words}
use Rattle.apl_model.specs.Characters.{is_name}
use Rattle.apl_model.specs.Grammar.{AreNames}
use Rattle.apl_model.specs.Spelling.{Mark, at, some, Spell, name_marks, local_marks, argument_marks, result_marks}
use Rattle.apl_model.specs.declared.tokens.Token.{Token}
use Rattle.apl_model.specs.declared.tokens.Word.{Word}

-- the words of marks joined
pub words-append : (ms ns : List Mark) → words_of (ms ++ ns) ≡ words_of ms ++ words_of ns
words-append [] ns = refl
words-append (m ∷ ms) ns = ap (λ ws. word_of m ∷ ws) (words-append ms ns)

-- names, and one more
pub names_more : (ls : List (List ℕ)) (l : List ℕ) → AreNames ls → IsTrue (is_name l) → AreNames (ls ++ (l ∷ []))
names_more [] l h i = (i, tt)
names_more (k ∷ ks) l h i = (h.0, names_more ks l h.1 i)

-- no mark says a place
abbrev pub ArePlain : List Mark → Type 0
ArePlain [] = Unit {0}
ArePlain (at p w ∷ ms) = ⊥
ArePlain (some w ∷ ms) = ArePlain ms

-- the marks of headers and commands say no places
pub plain-append : (ms ns : List Mark) → ArePlain ms → ArePlain ns → ArePlain (ms ++ ns)
plain-append [] ns h i = i
plain-append (at p w ∷ ms) ns h i = absurd h
plain-append (some w ∷ ms) ns h i = plain-append ms ns h i

pub plain_names : (ns : List (List ℕ)) → ArePlain (name_marks ns)
plain_names [] = tt
plain_names (n ∷ ns) = plain_names ns

pub plain_locals : (ns : List (List ℕ)) → ArePlain (local_marks ns)
plain_locals [] = tt
plain_locals (n ∷ ns) = plain_locals ns

pub plain_argument : (x : Option (List ℕ)) → ArePlain (argument_marks x)
plain_argument None = tt
plain_argument (Some x) = tt

pub plain_result : (z : Option (List ℕ)) → ArePlain (result_marks z)
plain_result None = tt
plain_result (Some z) = tt

nil_clash : {A : Type 0} {x : A} {xs : List A} → [] ≡ x ∷ xs → ⊥
nil_clash e = cc

cons_clash : {A : Type 0} {x : A} {xs : List A} → x ∷ xs ≡ [] → ⊥
cons_clash e = cc

head_is : {v w : Word} {vs ws : List Word} → v ∷ vs ≡ w ∷ ws → v ≡ w
head_is e = cc

tail_is : {v w : Word} {vs ws : List Word} → v ∷ vs ≡ w ∷ ws → vs ≡ ws
tail_is e = cc

-- marks without places spell the tokens that have their words
pub spells_by_words : (n : ℕ) (ms : List Mark) (ts : List Token) → ArePlain ms → words_of ms ≡ token_words ts → Spell n ms ts
spells_by_words n [] [] h e = tt
spells_by_words n [] (t ∷ ts) h e = absurd (nil_clash e)
spells_by_words n (m ∷ ms) [] h e = absurd (cons_clash e)
spells_by_words n (at p w ∷ ms) (t ∷ ts) h e = absurd h
spells_by_words n (some w ∷ ms) (t ∷ ts) h e = (head_is e, spells_by_words n ms ts h (tail_is e))
