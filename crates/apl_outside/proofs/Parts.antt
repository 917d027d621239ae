-- One call after another: what the second takes or adds follows what the first did.
use Rattle.std.proofs.Common.{◌≡◌, ℕ, ◌+◌, ◌≤◌, List, ◌++◌, length, take, drop, Option, arith, length-append, ap, ◌∙◌, refl}
use Rattle.std.proofs.lemmas.Grind.{common_steps}
use Rattle.std.proofs.lemmas.List.{take-append-drop, drop-take, take-take, take_at, drop_at, drop-drop, length-take-le}
use Rattle.apl_outside.specs.Bytes.{Loses, Gains, GainsPart}

pub gains_then : (a b c : Option (List ℕ)) (xs ys : List ℕ) → Gains a b xs → Gains b c ys → Gains a c (xs ++ ys)
gains_then a b c xs ys first then = grind (arith, common_steps)

pub loses_then : (a b c : Option (List ℕ)) (xs ys : List ℕ) → Loses a b xs → Loses b c ys → Loses a c (xs ++ ys)
loses_then a b c xs ys first then = grind (arith, common_steps)

-- a longer front is a front and the front of what is behind it
pub take_further : (d n : ℕ) (xs : List ℕ) → take d xs ++ take n (drop d xs) ≡ take (d + n) xs
take_further d n xs =
    let cut : take d (take (d + n) xs) ≡ take d xs = take-take d (d + n) xs (omega arith) in
    let rest : drop d (take (d + n) xs) ≡ take n (drop d xs) = drop-take d n xs in
    let whole : take d (take (d + n) xs) ++ drop d (take (d + n) xs) ≡ take (d + n) xs = take-append-drop d (take (d + n) xs) in
    cc

-- how long a list is with the front of another behind it
pub length_with_front : (xs ys : List ℕ) (n : ℕ) → n ≤ length ys → length (xs ++ take n ys) ≡ length xs + n
length_with_front xs ys n fits = omega (arith, length-append xs (take n ys), length-take-le n ys fits)

-- the front of a list, copied over the front of a buffer, with what is behind it in the list
pub front_given : (bytes given buf : List ℕ) (at n : ℕ) → given ≡ take n (drop at bytes) → n ≤ length (drop at bytes) → drop at bytes ≡ take n (given ++ drop n buf) ++ drop (at + n) bytes
front_given bytes given buf at n same fits =
    let size : length given ≡ n = ap length same ∙ length-take-le n (drop at bytes) fits in
    let front : take n (given ++ drop n buf) ≡ given = take_at given (drop n buf) n size in
    let behind : drop n (drop at bytes) ≡ drop (at + n) bytes = drop-drop n at bytes in
    let whole : take n (drop at bytes) ++ drop n (drop at bytes) ≡ drop at bytes = take-append-drop n (drop at bytes) in
    cc

-- the front of two lists in turn that reaches into the second
pub take_into_second : (xs ys : List ℕ) (n : ℕ) → take (length xs + n) (xs ++ ys) ≡ xs ++ take n ys
take_into_second xs ys n =
    let front : take (length xs) (xs ++ ys) ≡ xs = take_at xs ys (length xs) refl in
    let behind : drop (length xs) (xs ++ ys) ≡ ys = drop_at xs ys (length xs) refl in
    let both = take_further (length xs) n (xs ++ ys) in
    cc

-- all of one piece and then a part of the next is a part of the two in turn
pub part_after_all : (first second third : Option (List ℕ)) (xs ys : List ℕ) → Gains first second xs → GainsPart second third ys → GainsPart first third (xs ++ ys)
part_after_all first second third xs ys all then = record {
  count = length xs + then.count;
  part = omega (arith, length-append xs ys, then.part);
  gained = rw (take_into_second xs ys then.count) (gains_then first second third xs (take then.count ys) all then.gained);
}
