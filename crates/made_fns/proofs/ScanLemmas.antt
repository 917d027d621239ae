-- The cells of a leaf, a block at a time.
use Rattle.std.proofs.Common.{◌≡◌, ℕ, suc, ◌+◌, ◌-◌, ◌<◌, ◌≤◌, Bool, true, false, ◌&&◌, if◌then◌else◌, ℤ, pos, List, [], ◌∷◌, ◌++◌, length, map, take, get_or, min, count_by, cond, refl, sym, subst, ap, ◌∙◌, arith, add-one}
use Rattle.std.specs.List.{list_all}
use Rattle.std.specs.Ordering.{int_eq}
use Rattle.std.proofs.Math.Seq.{take-suc}
use Rattle.std.proofs.lemmas.List.{map-append, length-take}
use Rattle.std.proofs.lemmas.List.Folds.{list_all-append}
use Rattle.std.proofs.lemmas.List.Recursion.{is_count_by}
use Rattle.apl_base.specs.Array.{index_at}
use Rattle.apl_base.specs.Selection.{upward}
use Rattle.apl_base.proofs.Upward.{upward-append, map-upward-same}
use Rattle.array_store.specs.Stores.{StoreView, IsStore}
use Rattle.array_store.specs.Counting.{OnlyCounted, OnlyFetched}
use Rattle.array_store.proofs.CountingLemmas.{OnlyFetched-then}
use Rattle.drag_along.specs.declared.leaves.Leaf.{Leaf}
use Rattle.drag_along.specs.Nodes.{leaf_shape}
use Rattle.drag_along.specs.Meaning.{leaf_cell}
use Rattle.e_machine.specs.Forced.{cells_from, AreRead}
use Rattle.e_machine.proofs.CopyLemmas.{fetched_read}
use Rattle.e_machine.proofs.CountedLemmas.{leaf_cell-counted}
use Rattle.apl_model.specs.Made.{ones_from, ones}
use Rattle.leaf_names.specs.Variables.{array_of}
use Rattle.made_fns.specs.Answers.{elements_in}

-- ---- blocks

-- one block after others
pub cells_then : (s : StoreView) (leaf : Leaf) (m n : ℕ) → cells_from s leaf 0 (m + n) ≡ cells_from s leaf 0 m ++ cells_from s leaf m n
cells_then s leaf m n =
    let cell : ℕ → ℤ = λ p. leaf_cell s leaf (index_at (leaf_shape leaf) p) in
    let e : 0 + m ≡ m = omega arith in
    ap (map cell) (upward-append 0 m n) ∙ map-append cell (upward 0 m) (upward (0 + m) n) ∙ ap (λ (k : ℕ). map cell (upward 0 m) ++ map cell (upward k n)) e

-- where something was only counted they are the same
pub cells_from-counted : (old now : StoreView) (leaf : Leaf) (first count : ℕ) → OnlyCounted old now → cells_from now leaf first count ≡ cells_from old leaf first count
cells_from-counted old now leaf first count only =
    map-upward-same (λ p. leaf_cell now leaf (index_at (leaf_shape leaf) p)) (λ p. leaf_cell old leaf (index_at (leaf_shape leaf) p)) first count
    (λ p low high. leaf_cell-counted old now leaf (index_at (leaf_shape leaf) p) only)

-- a block that was read behind others
pub block_behind : (old now : StoreView) (leaf : Leaf) (done more many : ℕ) (block : List ℤ) → OnlyCounted old now → many ≡ more → block ≡ cells_from now leaf done many → cells_from old leaf 0 (done + more) ≡ cells_from old leaf 0 done ++ block
block_behind old now leaf done more many block only all read =
    cells_then old leaf done more
    ∙ ap (λ (xs : List ℤ). cells_from old leaf 0 done ++ xs) (sym (read ∙ ap (cells_from now leaf done) all ∙ cells_from-counted old now leaf done more only))

-- all cells are those so far and the others
pub cells_all : (s : StoreView) (leaf : Leaf) (done : ℕ) → done ≤ elements_in leaf → (array_of s leaf).cells ≡ cells_from s leaf 0 done ++ cells_from s leaf done (elements_in leaf - done)
cells_all s leaf done few =
    let e : elements_in leaf ≡ done + (elements_in leaf - done) = omega (arith, few) in
    ap (cells_from s leaf 0) e ∙ cells_then s leaf done (elements_in leaf - done)

-- ---- tests

both_hold : (a b : Bool) → a ≡ true → b ≡ true → a && b ≡ true
both_hold a b p q = rw (p, q) refl

pub test_more : (p : ℤ → Bool) (so_far block all : List ℤ) → all ≡ so_far ++ block → list_all p so_far ≡ true → list_all p block ≡ true → list_all p all ≡ true
test_more p so_far block all is h g = ap (list_all p) is ∙ list_all-append p so_far block ∙ both_hold (list_all p so_far) (list_all p block) h g

one_fails : (a b c : Bool) → b ≡ false → a && b && c ≡ false
one_fails true b c q = rw q refl
one_fails false b c q = refl

pub test_fails : (p : ℤ → Bool) (so_far block rest all : List ℤ) → all ≡ (so_far ++ block) ++ rest → list_all p block ≡ false → list_all p all ≡ false
test_fails p so_far block rest all is g =
    ap (list_all p) is ∙ list_all-append p (so_far ++ block) rest ∙ ap (λ (t : Bool). t && list_all p rest) (list_all-append p so_far block)
    ∙ one_fails (list_all p so_far) (list_all p block) (list_all p rest) g

-- ---- ones

length-ones_from : (p q : ℕ) (bits : List ℤ) → length (ones_from p bits) ≡ length (ones_from q bits)
length-ones_from p q [] = refl
length-ones_from p q (a ∷ bits) = by (int_eq a (pos 1)) (length-ones_from (suc p) (suc q) bits)
  where
    by : (t : Bool) → length (ones_from (suc p) bits) ≡ length (ones_from (suc q) bits) → length (if t then p ∷ ones_from (suc p) bits else ones_from (suc p) bits) ≡ length (if t then q ∷ ones_from (suc q) bits else ones_from (suc q) bits)
    by true h = ap suc h
    by false h = h

pub ones-cons : (a : ℤ) (bits : List ℤ) → ones (a ∷ bits) ≡ (if int_eq a (pos 1) then suc (ones bits) else ones bits)
ones-cons a bits = by (int_eq a (pos 1))
  where
    by : (t : Bool) → length (if t then 0 ∷ ones_from 1 bits else ones_from 1 bits) ≡ (if t then suc (ones bits) else ones bits)
    by true = ap suc (length-ones_from 1 0 bits)
    by false = length-ones_from 1 0 bits

pub ones-append : (xs ys : List ℤ) → ones (xs ++ ys) ≡ ones xs + ones ys
ones-append [] ys = omega arith
ones-append (x ∷ xs) ys = ones-cons x (xs ++ ys) ∙ by (int_eq x (pos 1)) (ones-append xs ys) ∙ ap (λ (n : ℕ). n + ones ys) (sym (ones-cons x xs))
  where
    by : (t : Bool) → ones (xs ++ ys) ≡ ones xs + ones ys → (if t then suc (ones (xs ++ ys)) else ones (xs ++ ys)) ≡ (if t then suc (ones xs) else ones xs) + ones ys
    by true h = omega (arith, h)
    by false h = h

-- at most as many as cells
pub ones-few : (bits : List ℤ) → ones bits ≤ length bits
ones-few [] = omega arith
ones-few (a ∷ bits) = by (int_eq a (pos 1)) (ones-cons a bits) (ones-few bits)
  where
    by : (t : Bool) → ones (a ∷ bits) ≡ (if t then suc (ones bits) else ones bits) → ones bits ≤ length bits → ones (a ∷ bits) ≤ suc (length bits)
    by true e h = omega (arith, e, h)
    by false e h = omega (arith, e, h)

-- one cell more
pub ones-next : (bits : List ℤ) (k : ℕ) (a : ℤ) → k < length bits → a ≡ get_or bits k (pos 0) → ones (take (k + 1) bits) ≡ ones (take k bits) + (if int_eq a (pos 1) then 1 else 0)
ones-next bits k a below is =
    ap (λ (n : ℕ). ones (take n bits)) (add-one k) ∙ ap ones (take-suc bits k (pos 0) below) ∙ ones-append (take k bits) (get_or bits k (pos 0) ∷ [])
    ∙ ap (λ (n : ℕ). ones (take k bits) + n) (ap (λ (z : ℤ). ones (z ∷ [])) (sym is) ∙ single (int_eq a (pos 1)))
  where
    single : (t : Bool) → length {A = ℕ} (if t then 0 ∷ [] else []) ≡ (if t then 1 else 0)
    single true = refl
    single false = refl

-- ---- what the loops keep

pub block_many : (more count done n : ℕ) (block : List ℤ) → length block ≡ n → more ≡ min n (count - done) → length (take more block) ≡ more
block_many more count done n block long is = omega (arith, length-take more block, long, is)

-- one block more
pub fetched_more : (old now new : StoreView) (leaf : Leaf) (done more many : ℕ) → IsStore now → many ≡ more → OnlyFetched old now done → AreRead now new leaf many → OnlyFetched old new (done + more)
fetched_more old now new leaf done more many is all before read =
    OnlyFetched-then old now new done more before (subst (OnlyFetched now new) all (fetched_read now new leaf many is.counts read))

-- ones are counted
pub ones-counted : (bits : List ℤ) → count_by (λ z. int_eq z (pos 1)) bits ≡ ones bits
ones-counted bits = sym (is_count_by ones (λ z. int_eq z (pos 1)) refl step bits)
  where
    one_more : (t : Bool) (n : ℕ) → (if t then suc n else n) ≡ cond t (1 + n) n
    one_more true n = omega arith
    one_more false n = refl

    step : (a : ℤ) (xs : List ℤ) → ones (a ∷ xs) ≡ cond (int_eq a (pos 1)) (1 + ones xs) (ones xs)
    step a xs = ones-cons a xs ∙ one_more (int_eq a (pos 1)) (ones xs)

pub ones_more : (found among : ℕ) (so_far block all : List ℤ) → all ≡ so_far ++ block → found ≡ ones so_far → among ≡ count_by (λ z. int_eq z (pos 1)) block → found + among ≡ ones all
ones_more found among so_far block all is h g = omega (arith, h, g, ones-counted block, ones-append so_far block, ap ones is)
