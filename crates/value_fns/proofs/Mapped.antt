-- A list whose cells are replaced one after the other.
use Rattle.std.proofs.Common.{◌≡◌, ℕ, suc, ◌+◌, ◌-◌, ◌<◌, ◌≤◌, ℤ, pos, List, [], ◌∷◌, ◌++◌, length, length-take, map, get_or, set, take, drop, arith, ap, sym, ◌∙◌}
use Rattle.std.proofs.lemmas.List.{get_or_default, get_or-append_right, get_or-drop, length-map, map-append, take_more}
use Rattle.std.proofs.lemmas.List.Edits.{map_over_more}
use Rattle.std.proofs.Math.Seq.{take-append_seam, drop-append_seam, take-suc-set}
use borrow.Rule.Slice.PartMut.{put_mid, post_of}

-- one more cell is replaced
pub mapped_more : (f : ℤ → ℤ) (xs ys : List ℤ) (i : ℕ) (y : ℤ) → i < length xs → i < length ys → ys ≡ map f (take i xs) ++ drop i xs → y ≡ f (get_or ys i (pos 0)) → set ys i y ≡ map f (take (i + 1) xs) ++ drop (i + 1) xs
mapped_more f xs ys i y below under so_far is =
    ap (set ys i) is ∙ map_over_more f xs ys i (get_or ys i (pos 0)) below so_far (get_or_default ys i (pos 0) (get_or ys i (pos 0)) under)

-- what a vector has after its whole slice was written
pub whole_back : (n : ℕ) (xs ys : List ℤ) → n ≡ length xs → take n (xs ++ drop (length xs) ys) ≡ xs
whole_back n xs ys e = ap (λ (m : ℕ). take m (xs ++ drop (length xs) ys)) e ∙ take-append_seam xs (drop (length xs) ys)

-- the cell that is next is as it was
pub still : (f : ℤ → ℤ) (xs ys : List ℤ) (i : ℕ) (d : ℤ) → i < length xs → ys ≡ map f (take i xs) ++ drop i xs → get_or ys i d ≡ get_or xs i d
still f xs ys i d below so_far =
    let many : length (map f (take i xs)) ≡ i = omega (arith, length-map (take i xs) f, length-take i xs) in
    let zero_on : i + (i - i) ≡ i = omega arith in
    ap (λ (zs : List ℤ). get_or zs i d) so_far ∙ get_or-append_right (map f (take i xs)) (drop i xs) i i d many (omega arith) ∙ get_or-drop i xs (i - i) d ∙ ap (λ (k : ℕ). get_or xs k d) zero_on

-- one more cell is put into a list beside
pub row_more : (f : ℤ → ℤ) (xs row : List ℤ) (i : ℕ) (y : ℤ) → i < length xs → i < length row → take i row ≡ map f (take i xs) → y ≡ f (get_or xs i (pos 0)) → take (i + 1) (set row i y) ≡ map f (take (i + 1) xs)
row_more f xs row i y below under so_far is =
    let e : i + 1 ≡ suc i = omega arith in
    ap (λ (n : ℕ). take n (set row i y)) e ∙ take-suc-set row i y under
    ∙ ap (λ (zs : List ℤ). zs ++ y ∷ []) so_far ∙ ap (λ (z : ℤ). map f (take i xs) ++ z ∷ []) is
    ∙ sym (ap (map f) (take_more xs i (pos 0) below) ∙ map-append f (take i xs) (get_or xs i (pos 0) ∷ []))

-- what stands from a part on that was written
pub mid_on : (a k : ℕ) (xs ys : List ℤ) → a ≤ length xs → drop a (put_mid a k xs ys) ≡ ys ++ post_of a k xs
mid_on a k xs ys h =
    let e : length (take a xs) ≡ a = omega (arith, length-take a xs) in
    ap (λ (n : ℕ). drop n (put_mid a k xs ys)) (sym e) ∙ drop-append_seam (take a xs) (ys ++ post_of a k xs)
