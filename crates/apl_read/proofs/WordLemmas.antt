-- Words of a line: names and numeric words.
use Rattle.std.proofs.Common.{◌≡◌, ℕ, suc, ◌+◌, ◌-◌, ◌<◌, true, false, Bool, List, ◌∷◌, length, take, drop, get_or, refl, ap, ◌∙◌, arith, drop-cons, add-one}
use Rattle.std.proofs.lemmas.Grind.{common_steps}
use Rattle.std.proofs.lemmas.List.Sums.{prefix_len-drop_yes, prefix_len-drop_no, prefix_len-drop_all}
use Rattle.std.specs.List.{prefix_len}
use Rattle.apl_model.specs.Characters.{is_name_part, is_number_part}
use Rattle.apl_model.specs.Tokens.{Found, Beginning, name_at, number_at, name}
use Rattle.apl_read.specs.Pieces.{number_found}

-- the characters so far pass, and the others decide the rest
abbrev pub ArePassed : (ℕ → Bool) → List ℕ → ℕ → Type 0
ArePassed p xs at = prefix_len p xs ≡ at + prefix_len p (drop at xs)

pub one_more : (p : ℕ → Bool) (xs : List ℕ) (at : ℕ) → ArePassed p xs at → at < length xs → p (get_or xs at 0) ≡ true → ArePassed p xs (at + 1)
one_more p xs at h lt t = let k = prefix_len-drop_yes p xs at 0 lt t in omega (arith, h, k)

pub no_more : (p : ℕ → Bool) (xs : List ℕ) (at : ℕ) → ArePassed p xs at → at < length xs → p (get_or xs at 0) ≡ false → at ≡ prefix_len p xs
no_more p xs at h lt t = let k = prefix_len-drop_no p xs at 0 lt t in omega (arith, h, k)

pub all_pass : (p : ℕ → Bool) (xs : List ℕ) → ArePassed p xs (length xs) → length xs ≡ prefix_len p xs
all_pass p xs h = let k = prefix_len-drop_all p xs (length xs) (omega arith) in omega (arith, h, k)

-- a character, and what follows it
pub from_at : (line : List ℕ) (at : ℕ) → at < length line → drop at line ≡ get_or line at 0 ∷ drop (at + 1) line
from_at line at lt = rw (add-one, drop-cons line at 0)

pub rest_at : (line : List ℕ) (at : ℕ) → take (length line - (at + 1)) (drop (at + 1) line) ≡ drop (at + 1) line
rest_at line at = grind (arith, common_steps)

pub word_at : (line : List ℕ) (at more : ℕ) → at < length line → take (at + 1 + more - at) (drop at line) ≡ get_or line at 0 ∷ take more (drop (at + 1) line)
word_at line at more lt =
    let n : at + 1 + more - at ≡ suc more = omega arith in
    rw (n, from_at line at lt) refl

pub name_begins : (c : ℕ) (cs w : List ℕ) (more : ℕ) → more ≡ prefix_len is_name_part cs → w ≡ c ∷ take more cs →
    (let b : Beginning = record { found = name w; more = more } in b) ≡ name_at c cs
name_begins c cs w more e f = let g : w ≡ c ∷ take (prefix_len is_name_part cs) cs = f ∙ ap (λ n. c ∷ take n cs) e in λ i. record { found = name (g i); more = e i }

pub number_begins : (c : ℕ) (cs w : List ℕ) (more : ℕ) (found : Found) → found ≡ number_found w → more ≡ prefix_len is_number_part cs → w ≡ c ∷ take more cs →
    (let b : Beginning = record { found = found; more = more } in b) ≡ number_at c cs
number_begins c cs w more found h e f =
    let g : w ≡ c ∷ take (prefix_len is_number_part cs) cs = f ∙ ap (λ n. c ∷ take n cs) e in
    let k = h ∙ ap number_found g in
    λ i. record { found = k i; more = e i }
