-- Elements beside bits that are 1.
use Rattle.std.proofs.Common.{◌≡◌, ℕ, zero, suc, ◌+◌, ◌-◌, ◌*◌, ◌/◌, ◌<◌, ◌≤◌, ◌==◌, Bool, true, false, if◌then◌else◌, ℤ, pos, List, [], ◌∷◌, ◌++◌, length, length-append, map, take, drop, replicate, get_or, set, refl, sym, ap, ◌∙◌, arith, add-one}
use Rattle.std.specs.Prelude.{slice_index}
use Rattle.std.specs.Ordering.{int_eq}
use Rattle.std.proofs.lemmas.Bool.{false_from_ne_true, eqb-true}
use Rattle.std.proofs.lemmas.List.{append_assoc, get_or-append_right, get_or-map, length-map, length-take, take_all, take-append-drop}
use Rattle.std.proofs.Math.Nat.{div-one}
use Rattle.std.proofs.Math.Seq.{take-suc}
use Rattle.apl_base.specs.Array.{Array, size_of, place_at, index_at}
use Rattle.apl_base.specs.Selection.{upward}
use Rattle.apl_base.proofs.Booleans.{both_parts}
use Rattle.apl_base.proofs.Upward.{list_by_places, length-map-upward}
use Rattle.array_store.specs.Stores.{StoreView}
use Rattle.drag_along.specs.declared.leaves.Leaf.{Leaf}
use Rattle.drag_along.specs.Nodes.{leaf_shape}
use Rattle.drag_along.specs.Meaning.{leaf_cell}
use Rattle.e_machine.specs.Forced.{cells_from}
use Rattle.apl_model.specs.Made.{ones_from, ones, extended_to, bits_along, compressed}
use Rattle.apl_model.specs.Whole.{count, first, is_extendable, is_single}
use Rattle.leaf_names.specs.Variables.{array_of}
use Rattle.made_fns.specs.Answers.{elements_in, CanKeep, kept_array}
use Rattle.made_fns.proofs.Lengths.{length-array_of}
use Rattle.made_fns.proofs.KeepLemmas.{extended_else}
use Rattle.made_fns.proofs.ScanLemmas.{ones-cons, ones-append, ones-next}

-- the elements beside the bits that are 1
abbrev pub marked : List ℤ → List ℤ → List ℤ
marked [] zs = []
marked (a ∷ bits) [] = []
marked (a ∷ bits) (z ∷ zs) = if int_eq a (pos 1) then z ∷ marked bits zs else marked bits zs

pub marked-append : (xs us ys vs : List ℤ) → length xs ≡ length us → marked (xs ++ ys) (us ++ vs) ≡ marked xs us ++ marked ys vs
marked-append [] [] ys vs h = refl
marked-append [] (u ∷ us) ys vs h = absurd (omega (arith, h))
marked-append (x ∷ xs) [] ys vs h = absurd (omega (arith, h))
marked-append (x ∷ xs) (u ∷ us) ys vs h = by (int_eq x (pos 1)) (marked-append xs us ys vs (omega (arith, h)))
  where
    by : (t : Bool) → marked (xs ++ ys) (us ++ vs) ≡ marked xs us ++ marked ys vs → (if t then u ∷ marked (xs ++ ys) (us ++ vs) else marked (xs ++ ys) (us ++ vs)) ≡ (if t then u ∷ marked xs us else marked xs us) ++ marked ys vs
    by true e = ap (λ (zs : List ℤ). u ∷ zs) e
    by false e = e

-- as many as there are ones
pub length-marked : (bits zs : List ℤ) → length bits ≡ length zs → length (marked bits zs) ≡ ones bits
length-marked [] zs h = refl
length-marked (a ∷ bits) [] h = absurd (omega (arith, h))
length-marked (a ∷ bits) (z ∷ zs) h = by (int_eq a (pos 1)) (length-marked bits zs (omega (arith, h))) ∙ sym (ones-cons a bits)
  where
    by : (t : Bool) → length (marked bits zs) ≡ ones bits → length (if t then z ∷ marked bits zs else marked bits zs) ≡ (if t then suc (ones bits) else ones bits)
    by true e = ap suc e
    by false e = e

-- they are the elements at the places of the ones
marked_from : (before bits zs : List ℤ) → length bits ≡ length zs → map (λ v. get_or (before ++ zs) v (pos 0)) (ones_from (length before) bits) ≡ marked bits zs
marked_from before [] zs h = refl
marked_from before (a ∷ bits) [] h = absurd (omega (arith, h))
marked_from before (a ∷ bits) (z ∷ zs) h =
    by (int_eq a (pos 1)) (rest (marked_from (before ++ z ∷ []) bits zs (omega (arith, h)))) here
  where
    all : List ℤ
    all = before ++ z ∷ zs

    next : suc (length before) ≡ length (before ++ z ∷ [])
    next = omega (arith, length-append before (z ∷ []))

    rest : map (λ v. get_or ((before ++ z ∷ []) ++ zs) v (pos 0)) (ones_from (length (before ++ z ∷ [])) bits) ≡ marked bits zs → map (λ v. get_or all v (pos 0)) (ones_from (suc (length before)) bits) ≡ marked bits zs
    rest e =
        ap (λ (n : ℕ). map (λ v. get_or all v (pos 0)) (ones_from n bits)) next
        ∙ ap (λ (xs : List ℤ). map (λ (v : ℕ). get_or xs v (pos 0)) (ones_from (length (before ++ z ∷ [])) bits)) (sym (append_assoc before (z ∷ []) zs)) ∙ e

    here : get_or all (length before) (pos 0) ≡ z
    here =
        let e : length before - length before ≡ 0 = omega arith in
        get_or-append_right before (z ∷ zs) (length before) (length before) (pos 0) refl (omega arith) ∙ ap (λ (n : ℕ). get_or (z ∷ zs) n (pos 0)) e

    by : (t : Bool) → map (λ v. get_or all v (pos 0)) (ones_from (suc (length before)) bits) ≡ marked bits zs → get_or all (length before) (pos 0) ≡ z
        → map (λ v. get_or all v (pos 0)) (if t then length before ∷ ones_from (suc (length before)) bits else ones_from (suc (length before)) bits) ≡ (if t then z ∷ marked bits zs else marked bits zs)
    by true e i = ap (λ (y : ℤ). y ∷ map {A = ℕ} {B = ℤ} (λ v. get_or all v (pos 0)) (ones_from (suc (length before)) bits)) i ∙ ap (λ (ys : List ℤ). z ∷ ys) e
    by false e i = e

pub marked-is : (bits zs : List ℤ) → length bits ≡ length zs → map (λ v. get_or zs v (pos 0)) (ones_from 0 bits) ≡ marked bits zs
marked-is bits zs h = marked_from [] bits zs h

-- one bit more
pub marked-next : (bits zs : List ℤ) (k : ℕ) (a z : ℤ) → k < length bits → length bits ≡ length zs → a ≡ get_or bits k (pos 0) → z ≡ get_or zs k (pos 0) → marked (take (k + 1) bits) (take (k + 1) zs) ≡ marked (take k bits) (take k zs) ++ (if int_eq a (pos 1) then z ∷ [] else [])
marked-next bits zs k a z below same is here =
    let less : k < length zs = omega (arith, below, same) in
    ap (λ (n : ℕ). marked (take n bits) (take n zs)) (add-one k)
    ∙ ap (λ (xs : List ℤ). marked xs (take (suc k) zs)) (take-suc bits k (pos 0) below)
    ∙ ap (marked (take k bits ++ get_or bits k (pos 0) ∷ [])) (take-suc zs k (pos 0) less)
    ∙ marked-append (take k bits) (take k zs) (get_or bits k (pos 0) ∷ []) (get_or zs k (pos 0) ∷ []) (omega (arith, length-take k bits, length-take k zs, below, less))
    ∙ ap (λ (x : ℤ). marked (take k bits) (take k zs) ++ marked (x ∷ []) (get_or zs k (pos 0) ∷ [])) (sym is)
    ∙ ap (λ (x : ℤ). marked (take k bits) (take k zs) ++ marked (a ∷ []) (x ∷ [])) (sym here)

-- the ones among the first bits are not more
pub ones-take : (bits : List ℤ) (k : ℕ) → ones (take k bits) ≤ ones bits
ones-take bits k = omega (arith, ones-append (take k bits) (drop k bits), ap ones (take-append-drop k bits))

-- ---- a vector

vector_cells : (ns : List ℕ) (k : ℕ) (ps : List ℕ) (zs : List ℤ) → length ns ≡ 1 → k ≡ 0
    → map (λ p. get_or zs (place_at ns (set (index_at (set ns k (length ps)) p) k (get_or ps (get_or (index_at (set ns k (length ps)) p) k 0) 0))) (pos 0)) (upward 0 (size_of (set ns k (length ps)))) ≡ map (λ v. get_or zs v (pos 0)) ps
vector_cells [] k ps zs one first = absurd (omega (arith, one))
vector_cells (n ∷ m ∷ ms) k ps zs one first = absurd (omega (arith, one))
vector_cells (n ∷ []) (suc k) ps zs one first = absurd (omega (arith, first))
vector_cells (n ∷ []) zero ps zs one first =
    let size : size_of (length ps ∷ []) ≡ length ps = omega arith in
    list_by_places (λ p. get_or zs (get_or ps (p / 1) 0 * 1 + 0) (pos 0)) (map (λ v. get_or zs v (pos 0)) ps) (size_of (length ps ∷ [])) (pos 0) (length-map ps (λ v. get_or zs v (pos 0)) ∙ sym size) (λ p less.
    let here : get_or ps (p / 1) 0 * 1 + 0 ≡ get_or ps p 0 = omega (arith, ap (λ (q : ℕ). get_or ps q 0) (div-one p)) in
    ap (λ (q : ℕ). get_or zs q (pos 0)) here ∙ sym (get_or-map (λ v. get_or zs v (pos 0)) ps p 0 (pos 0) (omega (arith, less, size))))

-- a vector is kept where a vector as long is 1
pub kept_vector : (k : ℕ) (a b : Array) → CanKeep k a b → length b.shape ≡ 1 → count a ≡ count b → (count a ≡ 1 → ⊥) → (kept_array k a b).cells ≡ map (λ v. get_or b.cells v (pos 0)) (ones_from 0 a.cells)
kept_vector k a b can one same many =
    ap (λ (c : Array). (compressed k (bits_along (slice_index c.shape k) a) c).cells) whole
    ∙ ap (λ (t : Bool). (compressed k (if t then replicate (slice_index b.shape k) (first a) else a.cells) b).cells) single
    ∙ vector_cells b.shape k (ones_from 0 a.cells) b.cells one here
  where
    other : is_extendable b ≡ false
    other = false_from_ne_true (is_extendable b) (λ e. many (same ∙ eqb-true (count b) 1 (both_parts (count b == 1) _ e).0))

    whole : extended_to (count a) b ≡ b
    whole = extended_else (count a) b other

    single : is_single a ≡ false
    single = false_from_ne_true (is_single a) (λ e. many (eqb-true (count a) 1 e))

    here : k ≡ 0
    here = omega (arith, one, can.axis, ap (λ (c : Array). length c.shape) whole)

-- ---- what the loops keep

-- one block more
pub marked_block : (xs us bits block all whole old new part : List ℤ) → all ≡ xs ++ bits → whole ≡ us ++ block → length xs ≡ length us → length bits ≡ length block → old ≡ marked xs us → part ≡ map (λ v. get_or block v (pos 0)) (ones_from 0 bits) → new ≡ old ++ part → new ≡ marked all whole
marked_block xs us bits block all whole old new part is here long same before are appended =
    appended ∙ ap (λ (zs : List ℤ). zs ++ part) before
    ∙ ap (λ (zs : List ℤ). marked xs us ++ zs) (are ∙ marked-is bits block same)
    ∙ sym (ap (λ (zs : List ℤ). marked zs whole) is ∙ ap (marked (xs ++ bits)) here ∙ marked-append xs us bits block long)

-- the vector has room for it
pub room_block : (xs us bits rest all old : List ℤ) → all ≡ (xs ++ bits) ++ rest → length xs ≡ length us → old ≡ marked xs us → length old + ones bits ≤ ones all
room_block xs us bits rest all old is long before =
    omega (arith, ap ones is, ones-append (xs ++ bits) rest, ones-append xs bits, length-marked xs us long, ap length before)

pub long_from : (s : StoreView) (leaf : Leaf) (n : ℕ) → length (cells_from s leaf 0 n) ≡ n
long_from s leaf n = length-map-upward (λ p. leaf_cell s leaf (index_at (leaf_shape leaf) p)) 0 n

-- one item more
pub marked_step : (bits zs : List ℤ) (k : ℕ) (a z : ℤ) (start old new : List ℤ) → k < length bits → length bits ≡ length zs → a ≡ get_or bits k (pos 0) → z ≡ get_or zs k (pos 0) → old ≡ start ++ marked (take k bits) (take k zs) → new ≡ old ++ (if int_eq a (pos 1) then z ∷ [] else []) → new ≡ start ++ marked (take (k + 1) bits) (take (k + 1) zs)
marked_step bits zs k a z start old new below same is here before appended =
    let more : List ℤ = if int_eq a (pos 1) then z ∷ [] else [] in
    appended ∙ ap (λ (xs : List ℤ). xs ++ more) before ∙ append_assoc start (marked (take k bits) (take k zs)) more
    ∙ ap (λ (xs : List ℤ). start ++ xs) (sym (marked-next bits zs k a z below same is here))

-- and there is room for it
pub marked_room : (bits zs : List ℤ) (k : ℕ) (a : ℤ) (start old : List ℤ) → k < length bits → length bits ≡ length zs → a ≡ get_or bits k (pos 0) → old ≡ start ++ marked (take k bits) (take k zs) → length old + (if int_eq a (pos 1) then 1 else 0) ≤ length start + ones bits
marked_room bits zs k a start old below same is before =
    let long : length (take k bits) ≡ length (take k zs) = omega (arith, length-take k bits, length-take k zs, same) in
    omega (arith, ap length before, length-append start (marked (take k bits) (take k zs)), length-marked (take k bits) (take k zs) long, ones-next bits k a below is, ones-take bits (k + 1))

-- all items
pub marked_all : (bits zs : List ℤ) (k : ℕ) (start new : List ℤ) → length bits ≤ k → length bits ≡ length zs → new ≡ start ++ marked (take k bits) (take k zs) → new ≡ start ++ map (λ v. get_or zs v (pos 0)) (ones_from 0 bits)
marked_all bits zs k start new all same is =
    is ∙ ap (λ (xs : List ℤ). start ++ marked xs (take k zs)) (take_all k bits all) ∙ ap (λ (xs : List ℤ). start ++ marked bits xs) (take_all k zs (omega (arith, all, same)))
    ∙ ap (λ (xs : List ℤ). start ++ xs) (sym (marked-is bits zs same))

-- all of both leaves
pub marked_done : (s : StoreView) (a b : Leaf) (done : ℕ) (cells : List ℤ) → elements_in a ≡ elements_in b → done ≡ elements_in a → cells ≡ marked (cells_from s a 0 done) (cells_from s b 0 done) → cells ≡ map (λ v. get_or (array_of s b).cells v (pos 0)) (ones_from 0 (array_of s a).cells)
marked_done s a b done cells same all is =
    is ∙ ap (λ (n : ℕ). marked (cells_from s a 0 n) (cells_from s b 0 done)) all ∙ ap (λ (n : ℕ). marked (array_of s a).cells (cells_from s b 0 n)) (all ∙ same)
    ∙ sym (marked-is (array_of s a).cells (array_of s b).cells (length-array_of s a ∙ same ∙ sym (length-array_of s b)))
