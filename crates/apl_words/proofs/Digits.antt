-- Digits read one after the other.
use Rattle.std.proofs.Common.{◌≡◌, ℕ, suc, ◌≤◌, ◌<◌, false, List, [], ◌∷◌, drop, length, get_or, refl, ap, ◌∙◌, arith, nat_le, None}
use Rattle.std.proofs.Math.Bool.{and-false}
use Rattle.std.proofs.Math.Seq.{drop-cons}
use Rattle.std.proofs.lemmas.Bool.{lt-leb}
use Rattle.std.specs.List.{fold, list_all}
use Rattle.apl_words.specs.Options.{is_digit, value_to, with_digit}

-- more digits make no lesser number
pub grows : (n : ℕ) (cs : List ℕ) → n ≤ fold with_digit n cs
grows n [] = omega arith
grows n (c ∷ cs) = let rest : with_digit n c ≤ fold with_digit (with_digit n c) cs = grows (with_digit n c) cs in omega arith

-- digits before are read as this number, which is at most so much; the rest follows
pub record Reads (limit number : ℕ) (text rest : List ℕ) : Type 0 where
  pub digits : list_all is_digit text ≡ list_all is_digit rest
  pub value : fold with_digit 0 text ≡ fold with_digit number rest
  pub most : number ≤ limit

-- a number that is too great stays so, whatever follows
pub too_great : (limit number at d : ℕ) (text : List ℕ) → Reads limit number text (drop at text) → at < length text
    → limit < with_digit number (get_or text at d) → value_to limit text ≡ None
too_great limit number at d text r inside h =
    let next : ℕ = with_digit number (get_or text at d) in
    let whole : fold with_digit 0 text ≡ fold with_digit next (drop (suc at) text) = r.value ∙ ap (fold with_digit number) (drop-cons text at d inside) in
    let most : next ≤ fold with_digit next (drop (suc at) text) = grows next (drop (suc at) text) in
    let not_le : nat_le (fold with_digit 0 text) limit ≡ false = lt-leb (fold with_digit 0 text) limit (omega arith) in
    rw (not_le, and-false (list_all is_digit text)) refl
