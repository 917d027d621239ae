-- One turn of each loop over the axes.
use Rattle.std.proofs.Common.{◌≡◌, ℕ, zero, suc, ◌+◌, ◌-◌, ◌^◌, ◌<◌, ◌≤◌, ℤ, pos, ◌+ℤ◌, ◌*ℤ◌, List, [], ◌∷◌, ◌++◌, length, map, get_or, take, drop, drop-cons, append_assoc, add-one, refl, ap, sym, ◌∙◌, arith}
use Rattle.std.specs.Int.{int_wrap}
use Rattle.std.proofs.lemmas.Int.{ints, int_wrap-add_left, int_wrap-add_right, int_wrap-mul_left}
use Rattle.std.specs.Int.RustNames.{FitsSigned}
use Rattle.std.proofs.lemmas.Int.{to_z-of_z}
use Rattle.std.proofs.lemmas.List.{take_all, length-drop}
use lib.Signed.{mag}
use mir.Syntax.{w128}
use mir.Val.{to_z, of_z}
use Rattle.apl_base.specs.Array.{size_of}
use Rattle.array_desc.specs.Desc.{dot}
use Rattle.array_desc.specs.Steps.{paired, row_strides}
use Rattle.apl_base.proofs.Integers.{mul_assoc}

regroup : (sum p rest : ℤ) → (sum +ℤ p) +ℤ rest ≡ (sum +ℤ rest) +ℤ p
regroup sum p rest = omega (arith, ints)

regroup_back : (sum p rest : ℤ) → (sum +ℤ rest) +ℤ p ≡ sum +ℤ (p +ℤ rest)
regroup_back sum p rest = omega (arith, ints)

wrap_turn : (sum p rest : ℤ) → int_wrap w128 (int_wrap w128 (sum +ℤ int_wrap w128 p) +ℤ rest) ≡ int_wrap w128 (sum +ℤ (p +ℤ rest))
wrap_turn sum p rest =
    int_wrap-add_left w128 (sum +ℤ int_wrap w128 p) rest
    ∙ ap (int_wrap w128) (regroup sum (int_wrap w128 p) rest)
    ∙ int_wrap-add_right w128 (sum +ℤ rest) p
    ∙ ap (int_wrap w128) (regroup_back sum p rest)

-- a cell, read back from its bits
pub cell_is : (x y : ℤ) → mag x < 2 ^ 127 → x ≡ y → to_z w128 (of_z w128 x) ≡ y
cell_is x y h e = let f : FitsSigned w128 x = record { sfits = h } in to_z-of_z w128 x f ∙ e

pub dot_turn : (ss : List ℤ) (is : List ℕ) (k : ℕ) (before after stride at product all : ℤ) → k < length ss → k < length is → stride ≡ get_or ss k (pos 0) → at ≡ pos (get_or is k 0) → product ≡ int_wrap w128 (stride *ℤ at) → after ≡ int_wrap w128 (before +ℤ product) → int_wrap w128 (before +ℤ dot (drop k ss) (drop k is)) ≡ all → int_wrap w128 (after +ℤ dot (drop (k + 1) ss) (drop (k + 1) is)) ≡ all
dot_turn ss is k before after stride at product all p q a b m c h =
    let e = drop-cons ss k (pos 0) p in
    let f = drop-cons is k 0 q in
    rw (c, m, a, b, add-one k)
    (wrap_turn before (get_or ss k (pos 0) *ℤ pos (get_or is k 0)) (dot (drop (suc k) ss) (drop (suc k) is))
    ∙ (rw (e, f) at h))

pub size_turn : (ns : List ℕ) (k : ℕ) (before after factor all : ℤ) → k < length ns → factor ≡ pos (get_or ns k 0) → after ≡ int_wrap w128 (before *ℤ factor) → int_wrap w128 (before *ℤ pos (size_of (drop k ns))) ≡ all → int_wrap w128 (after *ℤ pos (size_of (drop (k + 1) ns))) ≡ all
size_turn ns k before after factor all p a b h =
    let e = drop-cons ns k 0 p in
    rw (b, a, add-one k)
    (int_wrap-mul_left w128 (before *ℤ pos (get_or ns k 0)) (pos (size_of (drop (suc k) ns)))
    ∙ ap (int_wrap w128) (mul_assoc before (pos (get_or ns k 0)) (pos (size_of (drop (suc k) ns))))
    ∙ (rw e at h))

paired_more : {A B C : Type 0} (f : A → B → C) (xs : List A) (ys : List B) (k : ℕ) (a : A) (b : B) → k < length xs → k < length ys → paired f (take (suc k) xs) (take (suc k) ys) ≡ paired f (take k xs) (take k ys) ++ f (get_or xs k a) (get_or ys k b) ∷ []
paired_more f [] ys k a b p q = absurd (omega (arith, p))
paired_more f (x ∷ xs) [] k a b p q = absurd (omega (arith, q))
paired_more f (x ∷ xs) (y ∷ ys) zero a b p q = refl
paired_more f (x ∷ xs) (y ∷ ys) (suc k) a b p q =
    ap (λ r. f x y ∷ r) (paired_more f xs ys k a b (omega (arith, p)) (omega (arith, q)))

pub paired_turn : {A B C : Type 0} (f : A → B → C) (xs : List A) (ys : List B) (k : ℕ) (a : A) (b : B) (before after : List C) (x : C) → k < length xs → k < length ys → after ≡ before ++ x ∷ [] → x ≡ f (get_or xs k a) (get_or ys k b) → before ≡ paired f (take k xs) (take k ys) → after ≡ paired f (take (k + 1) xs) (take (k + 1) ys)
paired_turn f xs ys k a b before after x p q e g h =
    rw (add-one k) (e ∙ ap (λ r. before ++ r ∷ []) g ∙ ap (λ r. r ++ f (get_or xs k a) (get_or ys k b) ∷ []) h ∙ sym (paired_more f xs ys k a b p q))

pub row_turn : (ns : List ℕ) (k : ℕ) (before after all : List ℤ) (x : ℤ) → k < length ns → after ≡ before ++ x ∷ [] → x ≡ int_wrap w128 (pos (size_of (drop (k + 1) ns))) → before ++ map (int_wrap w128) (row_strides (drop k ns)) ≡ all → after ++ map (int_wrap w128) (row_strides (drop (k + 1) ns)) ≡ all
row_turn ns k before after all x p a b h =
    let e = drop-cons ns k 0 p in
    rw (a, b, add-one k)
    (append_assoc before (int_wrap w128 (pos (size_of (drop (suc k) ns))) ∷ []) (map (int_wrap w128) (row_strides (drop (suc k) ns)))
    ∙ (rw e at h))

-- the end of a slice, from k on
pub rest_is : (ns : List ℕ) (k : ℕ) → take (length ns - k) (drop k ns) ≡ drop k ns
rest_is ns k = take_all (length ns - k) (drop k ns) (omega (arith, length-drop k ns))

-- after the last axis
pub paired_all : {A B C : Type 0} (f : A → B → C) (xs : List A) (ys : List B) (k : ℕ) (out : List C) → length xs ≤ k → length ys ≤ k → out ≡ paired f (take k xs) (take k ys) → out ≡ paired f xs ys
paired_all f xs ys k out p q e =
    e ∙ ap (λ v. paired f v (take k ys)) (take_all k xs p) ∙ ap (paired f xs) (take_all k ys q)
