-- The value of digits, as it is computed from the left.
use Rattle.std.proofs.Common.{◌≡◌, ◌≢◌, ℕ, zero, suc, ◌+◌, ◌-◌, ◌*◌, ◌<◌, ◌≤◌, ◌^◌, ◌&&◌, ◌==◌, true, false, List, [], ◌∷◌, length, drop, get_or, refl, ap, sym, ◌∙◌, arith, Option, Some, None, drop-cons, add-one}
use Rattle.std.specs.Prelude.{nat_le, ℤ, pos, negsuc, neg_ℤ, int_le, if◌then◌else◌}
use Rattle.std.proofs.Math.Seq.{drop-length}
use Rattle.std.proofs.lemmas.Bool.{leb-true, leb-false, le-leb, eqb-true}
use Rattle.std.specs.Option.{option_map}
use Rattle.apl_base.specs.Scalar.{in_range}
use Rattle.apl_model.specs.Characters.{is_digit, all_pass, are_digits, decimal_after, number_of}

pub digit_range : (c : ℕ) → is_digit c ≡ true → (48 ≤ c) × (c ≤ 57)
digit_range c h = elim (nat_le 48 c) as (λ a. nat_le 48 c ≡ a → (a && nat_le c 57) ≡ true → (48 ≤ c) × (c ≤ 57)) [
  | true ↦ λ low high. (leb-true 48 c low, leb-true c 57 high)
  | false ↦ λ low high. cc
] refl h

-- digits so far of this value, and the others decide the rest
pub record AreRead (digits : List ℕ) (at value : ℕ) : Type 0 where
  pub small : value ≤ 10 ^ 36
  pub within : at ≤ length digits
  pub some : are_digits digits ≡ all_pass is_digit (drop at digits)
  pub same : decimal_after 0 digits ≡ decimal_after value (drop at digits)

pub read_none : (digits : List ℕ) → digits ≢ [] → AreRead digits 0 0
read_none [] some = absurd (some refl)
read_none (d ∷ ds) some = record { small = omega arith; within = omega arith; some = refl; same = refl }

pub read_digit : (digits : List ℕ) (at value : ℕ) → AreRead digits at value → at < length digits → is_digit (get_or digits at 0) ≡ true →
    value * 10 + (get_or digits at 0 - 48) ≤ 10 ^ 36 → AreRead digits (at + 1) (value * 10 + (get_or digits at 0 - 48))
read_digit digits at value r lt d small =
    let e : drop at digits ≡ get_or digits at 0 ∷ drop (at + 1) digits = (rw (add-one, drop-cons digits at 0)) in
    record {
      small = small;
      within = omega arith;
      some = r.some ∙ ap (all_pass is_digit) e ∙ ap (λ b. b && all_pass is_digit (drop (at + 1) digits)) d;
      same = r.same ∙ ap (decimal_after value) e;
    }

abbrev pub digits_number : List ℕ → Option ℤ
digits_number ds = if are_digits ds then in_range (pos (decimal_after 0 ds)) else None

pub no_digit : (digits : List ℕ) (at value : ℕ) → AreRead digits at value → at < length digits → is_digit (get_or digits at 0) ≡ false → None ≡ digits_number digits
no_digit digits at value r lt d =
    let e : drop at digits ≡ get_or digits at 0 ∷ drop (at + 1) digits = (rw (add-one, drop-cons digits at 0)) in
    let f : are_digits digits ≡ false = r.some ∙ ap (all_pass is_digit) e ∙ ap (λ b. b && all_pass is_digit (drop (at + 1) digits)) d in
    rw f refl

grows : (n : ℕ) (ds : List ℕ) → n ≤ decimal_after n ds
grows n [] = omega arith
grows n (d ∷ ds) = let h = grows (n * 10 + (d - 48)) ds in omega arith

abbrev M : ℕ
M = 1_000_000_000_000_000_000_000_000_000_000_000_000

too_great : (n : ℕ) → M < n → in_range (pos n) ≡ None
too_great n h = elim (nat_le n M) as (λ b. nat_le n M ≡ b → (if (int_le (neg_ℤ (pos M)) (pos n) && b) then Some (pos n) else None) ≡ None) [
  | true ↦ λ e. let k = leb-true n M e in absurd (omega arith)
  | false ↦ λ e. refl
] refl

pub too_many : (digits : List ℕ) (at value : ℕ) → AreRead digits at value → at < length digits → is_digit (get_or digits at 0) ≡ true →
    10 ^ 36 < value * 10 + (get_or digits at 0 - 48) → None ≡ digits_number digits
too_many digits at value r lt d great =
    let e : drop at digits ≡ get_or digits at 0 ∷ drop (at + 1) digits = (rw (add-one, drop-cons digits at 0)) in
    let v : decimal_after 0 digits ≡ decimal_after (value * 10 + (get_or digits at 0 - 48)) (drop (at + 1) digits) = r.same ∙ ap (decimal_after value) e in
    let g = grows (value * 10 + (get_or digits at 0 - 48)) (drop (at + 1) digits) in
    let none : in_range (pos (decimal_after 0 digits)) ≡ None = too_great (decimal_after 0 digits) (rw v (omega arith)) in
    elim (are_digits digits) as (λ b. None ≡ (if b then in_range (pos (decimal_after 0 digits)) else None)) [
      | true ↦ sym none
      | false ↦ refl
    ]

pub all_read : (digits : List ℕ) (value : ℕ) → AreRead digits (length digits) value → Some (pos value) ≡ digits_number digits
all_read digits value r =
    let e : drop (length digits) digits ≡ [] = drop-length digits in
    let t : are_digits digits ≡ true = r.some ∙ ap (all_pass is_digit) e in
    let v : decimal_after 0 digits ≡ value = r.same ∙ ap (decimal_after value) e in
    let s : nat_le value M ≡ true = le-leb value M r.small in
    rw (t, v, s) refl

same_test : (m : ℕ) → nat_le m 999_999_999_999_999_999_999_999_999_999_999_999 ≡ nat_le (suc m) M
same_test m = elim (nat_le m 999_999_999_999_999_999_999_999_999_999_999_999) as (λ p. nat_le m 999_999_999_999_999_999_999_999_999_999_999_999 ≡ p → p ≡ nat_le (suc m) M) [
  | true ↦ λ e. let h = leb-true m 999_999_999_999_999_999_999_999_999_999_999_999 e in sym (le-leb (suc m) M (omega arith))
  | false ↦ λ e. (elim (nat_le (suc m) M) as (λ q. nat_le (suc m) M ≡ q → false ≡ q) [
    | true ↦ λ f. let h = leb-false m 999_999_999_999_999_999_999_999_999_999_999_999 e in let k = leb-true (suc m) M f in absurd (omega arith)
    | false ↦ λ f. refl
  ]) refl
] refl

-- the number of the digits with ¯ before them
pub negative : (n : ℕ) → in_range (neg_ℤ (pos n)) ≡ option_map neg_ℤ (in_range (pos n))
negative zero = refl
negative (suc m) = elim (nat_le (suc m) M) as (λ q. nat_le m 999_999_999_999_999_999_999_999_999_999_999_999 ≡ q →
    (if (nat_le m 999_999_999_999_999_999_999_999_999_999_999_999 && true) then Some (negsuc m) else None) ≡ option_map neg_ℤ (if q then Some (pos (suc m)) else None)) [
      | true ↦ λ e. rw e refl
      | false ↦ λ e. rw e refl
    ] (same_test m)

pub number_negative : (ds : List ℕ) → number_of (175 ∷ ds) ≡ option_map neg_ℤ (digits_number ds)
number_negative ds = elim (are_digits ds) as (λ b. (if b then in_range (neg_ℤ (pos (decimal_after 0 ds))) else None) ≡ option_map neg_ℤ (if b then in_range (pos (decimal_after 0 ds)) else None)) [
  | true ↦ negative (decimal_after 0 ds)
  | false ↦ refl
]

pub number_plain : (w : List ℕ) → (get_or w 0 0 ≡ 175 → ⊥) → number_of w ≡ digits_number w
number_plain [] ne = refl
number_plain (c ∷ cs) ne =
    let no : (c == 175) ≡ false = (elim (c == 175) as (λ t. (c == 175) ≡ t → t ≡ false) [ true ↦ λ e. absurd (ne (eqb-true c 175 e)) | false ↦ λ e. refl ]) refl in
    ap (λ b. if b then (if are_digits cs then in_range (neg_ℤ (pos (decimal_after 0 cs))) else None) else digits_number (c ∷ cs)) no
