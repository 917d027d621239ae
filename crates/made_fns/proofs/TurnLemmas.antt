-- Lines of an array that are turned.
use Rattle.std.proofs.Common.{◌≡◌, ◌≢◌, ℕ, zero, suc, ◌+◌, ◌-◌, ◌*◌, ◌/◌, ◌%◌, ◌<◌, ◌≤◌, ◌==◌, ◌⊎◌, inl, inr, Bool, true, false, not, ◌&&◌, if◌then◌else◌, ℤ, pos, ◌+ℤ◌, Ok, Err, List, [], ◌∷◌, ◌++◌, length, map, take, drop, get_or, min, ◌^◌, add-one, refl, sym, ap, ◌∙◌, subst, arith}
use Rattle.std.specs.Prelude.{unsigned_abs, nat_eq, remove, slice_index, slice_set}
use Rattle.std.specs.Int.{int_rem_euclid}
use Rattle.std.specs.Cmp.Lexicographic.{pointwise}
use Rattle.std.proofs.Math.Nat.{div-lt_iff_lt-mul, mod-lt, mul-pos, mul-le-mul_right, le-mul_of_pos_right, mul_comm}
use Rattle.std.proofs.lemmas.Bool.{eqb-true, eqb-false, eq-eqb, ne_eqb, false≢true, false_from_ne_true, and_left, and_right, and_parts}
use Rattle.apl_base.specs.declared.faults.ErrorKind.TheVariants as error
use Rattle.apl_base.specs.Array.{Array, IsIndex, size_of, place_at, index_at, cell_at}
use Rattle.apl_base.specs.Selection.{upward}
use Rattle.apl_base.proofs.Sizes.{IsIndex-index_at, IsIndex-set, place_at-below}
use Rattle.std.proofs.lemmas.List.{map-append, length-take, length-drop, take-append-drop}
use Rattle.std.proofs.Math.Seq.{take-append_seam, drop-append_seam, take-length}
use Rattle.apl_base.proofs.Upward.{map-upward-same, length-map-upward}
use Rattle.e_machine.proofs.WholeLemmas.{upward-push}
use Rattle.apl_model.specs.declared.functions.Axis.{Axis}
use Rattle.apl_model.specs.Made.{rotated, turn, turned_index}
use Rattle.apl_model.specs.Whole.{rank, count, is_single, is_text, first}
use Rattle.made_fns.specs.Answers.{GoesAlong, NoAxis, rotated_array}
use Rattle.made_fns.specs.Lines.{run_of, number_at, line_at, turn_at, turned_cell, TurnsFit}
use Rattle.made_fns.proofs.AxisLemmas.{OnAxisOf, on_axis_of, size_by, size_without, some_factors}
use Rattle.made_fns.proofs.Tests.{no_error, an_error}

-- ---- where a place's line leads

pub record InLine (ns : List ℕ) (k p : ℕ) : Type 0 where
  pub run : 0 < run_of ns k
  pub axis : 0 < slice_index ns k
  pub within : number_at ns k p * run_of ns k ≤ p
  pub source : (v : ℕ) → v < slice_index ns k → (p - number_at ns k p * run_of ns k) + v * run_of ns k < size_of ns
  pub line : line_at ns k p < size_of (remove ns k)
  pub lines : slice_index ns k * run_of ns k ≤ size_of ns

pub below_product : (a i j n : ℕ) → a < n → j < i → a * i + j < n * i
below_product a i j n h g =
    let more : suc a * i ≤ n * i = mul-le-mul_right i h in
    omega (arith, g, more)

pub at_least : (b w s : ℕ) → s ≡ b * w → 0 < s → w ≤ s
at_least zero w s e h = absurd (omega (arith, e, h))
at_least (suc b) w s e h = omega (arith, e)

pub in_line : (ns : List ℕ) (k p : ℕ) → k < length ns → p < size_of ns → InLine ns k p
in_line ns k p h less =
    let on = on_axis_of ns k p h less in
    let size = size_by ns k h in
    let some = some_factors (size_of (take k ns)) (slice_index ns k) (run_of ns k) (size_of ns) p size less in
    let outer : p / (slice_index ns k * run_of ns k) < size_of (take k ns) =
    (div-lt_iff_lt-mul (mul-pos some.1 some.0)).1 (omega (arith, less, size)) in
    record {
      run = some.0;
      axis = some.1;
      within = on.within;
      source = λ v few.
          let is : IsIndex ns (index_at ns p) = IsIndex-index_at ns p less in
          let moved : place_at ns (slice_set (index_at ns p) k v) < size_of ns = place_at-below ns (slice_set (index_at ns p) k v) (IsIndex-set ns (index_at ns p) k v is (λ _. few)) in
          subst (λ (n : ℕ). n < size_of ns) (on.moved v) moved;
      line = subst (λ (n : ℕ). line_at ns k p < n) (sym (size_without ns k h))
          (below_product (p / (slice_index ns k * run_of ns k)) (run_of ns k) (p % run_of ns k) (size_of (take k ns)) outer (mod-lt p some.0));
      lines = at_least (size_of (take k ns)) (slice_index ns k * run_of ns k) (size_of ns) size (omega (arith, less));
    }

-- ---- the definition's array

turn_is : (ns : List ℕ) (k p : ℕ) (a : Array) → OnAxisOf ns k p → length a.cells ≡ count a → TurnsFit a.shape ns k → turn a k (index_at ns p) ≡ turn_at ns k a.cells p
turn_is ns k p a on many fits = by (count a == 1) refl
  where
    by : (t : Bool) → (count a == 1) ≡ t → (if count a == 1 then first a else cell_at a (remove (index_at ns p) k)) ≡ get_or a.cells (if length a.cells == 1 then 0 else line_at ns k p) (pos 0)
    by true e =
        let l : (length a.cells == 1) ≡ true = ap (λ (n : ℕ). n == 1) many ∙ e in
        rw (e, l) refl
    by false e =
        let l : (length a.cells == 1) ≡ false = ap (λ (n : ℕ). n == 1) many ∙ e in
        let shape : a.shape ≡ remove ns k = elim fits [ inl one ↦ absurd (eqb-false (count a) 1 e one) | inr same ↦ same ] in
        rw (e, l) (ap (λ (ms : List ℕ). get_or a.cells (place_at ms (remove (index_at ns p) k)) (pos 0)) shape ∙ ap (λ (n : ℕ). get_or a.cells n (pos 0)) on.without)

pub turned_are : (ns : List ℕ) (k : ℕ) (a b : Array) → k < length ns → b.shape ≡ ns → length a.cells ≡ count a → TurnsFit a.shape ns k → map (turned_cell ns k a.cells b.cells) (upward 0 (size_of ns)) ≡ (rotated_array k a b).cells
turned_are ns k a b h same many fits =
    map-upward-same (turned_cell ns k a.cells b.cells) (λ p. cell_at b (turned_index ns k (turn a k (index_at ns p)) (index_at ns p))) 0 (size_of ns) (λ p low high.
    let less : p < size_of ns = omega (arith, high) in
    let on = on_axis_of ns k p h less in
    let from : ℤ → ℕ → ℕ = λ by x. unsigned_abs (int_rem_euclid (pos x +ℤ by) (pos (slice_index ns k))) in
    let v : from (turn_at ns k a.cells p) (number_at ns k p) ≡ from (turn a k (index_at ns p)) (slice_index (index_at ns p) k) =
    ap (λ (z : ℤ). from z (number_at ns k p)) (sym (turn_is ns k p a on many fits)) ∙ ap (from (turn a k (index_at ns p))) (sym on.number) in
    ap (λ (n : ℕ). get_or b.cells n (pos 0)) (ap (λ (x : ℕ). (p - number_at ns k p * run_of ns k) + x * run_of ns k) v ∙ sym (on.moved (from (turn a k (index_at ns p)) (slice_index (index_at ns p) k))))
    ∙ ap (λ (ms : List ℕ). get_or b.cells (place_at ms (turned_index ns k (turn a k (index_at ns p)) (index_at ns p))) (pos 0)) (sym same))
    ∙ ap (λ (ms : List ℕ). map (λ p. cell_at b (turned_index ms k (turn a k (index_at ms p)) (index_at ms p))) (upward 0 (size_of ms))) (sym same)

-- a scalar stays
pub scalar_stays : (k : ℕ) (a b : Array) → length b.shape ≡ 0 → length b.cells ≡ size_of b.shape → b.cells ≡ (rotated_array k a b).cells
scalar_stays k a b none many = by b.shape none many
  where
    one : (cells : List ℤ) → length cells ≡ 1 → cells ≡ get_or cells 0 (pos 0) ∷ []
    one [] h = absurd (omega (arith, h))
    one (z ∷ []) h = refl
    one (z ∷ y ∷ cells) h = absurd (omega (arith, h))

    by : (ns : List ℕ) → length ns ≡ 0 → length b.cells ≡ size_of ns → b.cells ≡ map (λ p. get_or b.cells (place_at ns (turned_index ns k (turn a k (index_at ns p)) (index_at ns p))) (pos 0)) (upward 0 (size_of ns))
    by [] h m = one b.cells m
    by (n ∷ ns) h m = absurd (omega (arith, h))

-- ---- errors

pub rotated_axis : (axis : Axis) (a b : Array) → NoAxis axis (rank b) → rotated (pos 1) axis a b ≡ Err error.Rank
rotated_axis axis a b none = none _

pub rotated_rank : (axis : Axis) (k : ℕ) (a b : Array) → GoesAlong axis (rank b) k → count a ≢ 1 → rank a + 1 ≢ rank b → rotated (pos 1) axis a b ≡ Err error.Rank
rotated_rank axis k a b along many other =
    along _ ∙ an_error error.Rank (not (is_single a) && not (rank a + 1 == rank b)) _ (rw (ne_eqb (count a) 1 many, ne_eqb (rank a + 1) (rank b) other) refl)

-- the ranks are right
pub ranks_pass : (a b : Array) → ((count a ≡ 1) ⊎ (rank a + 1 ≡ rank b)) → not (is_single a) && not (rank a + 1 == rank b) ≡ false
ranks_pass a b h = elim h [
  | inl one ↦ and_left (not (is_single a)) (not (rank a + 1 == rank b)) (ap not (eq-eqb (count a) 1 one))
  | inr same ↦ and_right (not (is_single a)) (not (rank a + 1 == rank b)) (ap not (eq-eqb (rank a + 1) (rank b) same))
]

points_same : (xs : List ℕ) → pointwise nat_eq xs xs ≡ true
points_same [] = refl
points_same (x ∷ xs) = rw (eq-eqb x x refl) (points_same xs)

points_true : (xs ys : List ℕ) → pointwise nat_eq xs ys ≡ true → xs ≡ ys
points_true [] [] h = refl
points_true [] (y ∷ ys) h = absurd (false≢true h)
points_true (x ∷ xs) [] h = absurd (false≢true h)
points_true (x ∷ xs) (y ∷ ys) h =
    let p = and_parts (x == y) (pointwise nat_eq xs ys) h in
    let here = eqb-true x y p.0 in
    let rest = points_true xs ys p.1 in
    cc

pub rotated_length : (axis : Axis) (k : ℕ) (a b : Array) → GoesAlong axis (rank b) k → count a ≢ 1 → rank a + 1 ≡ rank b → (a.shape ≡ remove b.shape k → ⊥) → rotated (pos 1) axis a b ≡ Err error.Length
rotated_length axis k a b along many same other =
    let no : pointwise nat_eq a.shape (remove b.shape k) ≡ false = false_from_ne_true (pointwise nat_eq a.shape (remove b.shape k)) (λ e. other (points_true a.shape (remove b.shape k) e)) in
    along _ ∙ no_error error.Rank (not (is_single a) && not (rank a + 1 == rank b)) _ (ranks_pass a b (inr same))
    ∙ an_error error.Length (not (is_single a) && not (pointwise nat_eq a.shape (remove b.shape k))) _ (rw (ne_eqb (count a) 1 many, no) refl)

-- the lengths are right
lengths_pass : (k : ℕ) (a b : Array) → TurnsFit a.shape b.shape k → not (is_single a) && not (pointwise nat_eq a.shape (remove b.shape k)) ≡ false
lengths_pass k a b h = elim h [
  | inl one ↦ and_left (not (is_single a)) (not (pointwise nat_eq a.shape (remove b.shape k))) (ap not (eq-eqb (count a) 1 one))
  | inr same ↦ and_right (not (is_single a)) (not (pointwise nat_eq a.shape (remove b.shape k)))
      (ap not (ap (λ (ms : List ℕ). pointwise nat_eq ms (remove b.shape k)) same ∙ points_same (remove b.shape k)))
]

pub rotated_text : (axis : Axis) (k : ℕ) (a b : Array) → GoesAlong axis (rank b) k → ((count a ≡ 1) ⊎ (rank a + 1 ≡ rank b)) → TurnsFit a.shape b.shape k → is_text a ≡ true → rotated (pos 1) axis a b ≡ Err error.Domain
rotated_text axis k a b along ranks fits text =
    along _ ∙ no_error error.Rank (not (is_single a) && not (rank a + 1 == rank b)) _ (ranks_pass a b ranks)
    ∙ no_error error.Length (not (is_single a) && not (pointwise nat_eq a.shape (remove b.shape k))) _ (lengths_pass k a b fits) ∙ an_error error.Domain (is_text a) _ text

pub rotated_is : (axis : Axis) (k : ℕ) (a b : Array) → GoesAlong axis (rank b) k → ((count a ≡ 1) ⊎ (rank a + 1 ≡ rank b)) → TurnsFit a.shape b.shape k → is_text a ≡ false → rotated (pos 1) axis a b ≡ Ok (rotated_array k a b)
rotated_is axis k a b along ranks fits text =
    along _ ∙ no_error error.Rank (not (is_single a) && not (rank a + 1 == rank b)) _ (ranks_pass a b ranks)
    ∙ no_error error.Length (not (is_single a) && not (pointwise nat_eq a.shape (remove b.shape k))) _ (lengths_pass k a b fits) ∙ no_error error.Domain (is_text a) _ text

-- ---- the same, as the code knows the run behind the axis

pub record LineFacts (ns : List ℕ) (k run p : ℕ) : Type 0 where
  pub some : 0 < run
  pub axis : 0 < get_or ns k 0
  pub short : get_or ns k 0 ≤ size_of ns
  pub lines : get_or ns k 0 * run ≤ size_of ns
  pub number : p / run % get_or ns k 0 < get_or ns k 0
  pub within : p / run % get_or ns k 0 * run ≤ p
  pub source : (v : ℕ) → v < get_or ns k 0 → (p - p / run % get_or ns k 0 * run) + v * run < size_of ns
  pub line : p / (get_or ns k 0 * run) * run + p % run < size_of (remove ns k)

shorter : (n i s : ℕ) → 0 < i → n * i ≤ s → n ≤ s
shorter n zero s some h = absurd (omega (arith, some))
shorter n (suc i) s some h = omega (arith, h)

pub line_facts : (ns : List ℕ) (k run p : ℕ) → run ≡ run_of ns k → k < length ns → p < size_of ns → LineFacts ns k run p
line_facts ns k run p is h less =
    let l = in_line ns k p h less in
    subst (λ (r : ℕ). LineFacts ns k r p) (sym is) (record {
      some = l.run;
      axis = l.axis;
      short = shorter (get_or ns k 0) (run_of ns k) (size_of ns) l.run l.lines;
      lines = l.lines;
      number = mod-lt (p / run_of ns k) l.axis;
      within = l.within;
      source = l.source;
      line = l.line;
    })

pub line_known : (ns : List ℕ) (k run p : ℕ) (turns : List ℤ) → LineFacts ns k run p → ((length turns ≡ 1) ⊎ (length turns ≡ size_of (remove ns k))) → ((length turns ≡ 1) ⊎ (p / (get_or ns k 0 * run) * run + p % run < length turns))
line_known ns k run p turns facts h = elim h [ inl one ↦ inl one | inr all ↦ inr (omega (arith, facts.line, all)) ]

pub cell_is : (ns : List ℕ) (k run p from : ℕ) (by : ℤ) (turns items : List ℤ) → run ≡ run_of ns k → by ≡ get_or turns (if length turns == 1 then 0 else p / (get_or ns k 0 * run) * run + p % run) (pos 0) → from ≡ unsigned_abs (int_rem_euclid (pos (p / run % get_or ns k 0) +ℤ by) (pos (get_or ns k 0))) → get_or items ((p - p / run % get_or ns k 0 * run) + from * run) (pos 0) ≡ turned_cell ns k turns items p
cell_is ns k run p from by turns items is turn there =
    let axis = get_or ns k 0 in
    let way : ℕ → ℤ = λ r. get_or turns (if length turns == 1 then 0 else p / (axis * r) * r + p % r) (pos 0) in
    let goes : ℕ → ℤ → ℕ = λ r z. unsigned_abs (int_rem_euclid (pos (p / r % axis) +ℤ z) (pos axis)) in
    ap (λ (f : ℕ). get_or items ((p - p / run % axis * run) + f * run) (pos 0)) (there ∙ ap (goes run) turn)
    ∙ ap (λ (r : ℕ). get_or items ((p - p / r % axis * r) + goes r (way r) * r) (pos 0)) is

pub grown : (f : ℕ → ℤ) (p : ℕ) (old new : List ℤ) (z : ℤ) → old ≡ map f (upward 0 p) → new ≡ old ++ z ∷ [] → z ≡ f p → new ≡ map f (upward 0 (p + 1))
grown f p old new z before pushed is =
    let e : 0 + p ≡ p = omega arith in
    pushed ∙ ap (λ (xs : List ℤ). xs ++ z ∷ []) before ∙ ap (λ (y : ℤ). map f (upward 0 p) ++ y ∷ []) (is ∙ ap f (sym e))
    ∙ sym (ap (map f) (upward-push 0 p) ∙ map-append f (upward 0 p) ((0 + p) ∷ []))

pub grown_long : (f : ℕ → ℤ) (p : ℕ) (xs : List ℤ) → xs ≡ map f (upward 0 p) → length xs ≡ p
grown_long f p xs is = ap length is ∙ length-map-upward f 0 p

-- ---- lengths without an axis

pub parts_same : (k : ℕ) (xs ys : List ℕ) → take k xs ≡ take k ys → drop k xs ≡ drop (suc k) ys → xs ≡ remove ys k
parts_same k xs ys p q = sym (take-append-drop k xs) ∙ ap (λ (zs : List ℕ). zs ++ drop k xs) p ∙ ap (λ (zs : List ℕ). take k ys ++ zs) q

pub front_same : (k : ℕ) (xs ys : List ℕ) → k < length ys → xs ≡ remove ys k → take k xs ≡ take k ys
front_same k xs ys h is =
    let long : k ≡ length (take k ys) = sym (length-take k ys ∙ omega (arith, h)) in
    ap (take k) is ∙ ap (λ (n : ℕ). take n (take k ys ++ drop (suc k) ys)) long ∙ take-append_seam (take k ys) (drop (suc k) ys)

pub back_same : (k : ℕ) (xs ys : List ℕ) → k < length ys → xs ≡ remove ys k → drop k xs ≡ drop (suc k) ys
back_same k xs ys h is =
    let long : k ≡ length (take k ys) = sym (length-take k ys ∙ omega (arith, h)) in
    ap (drop k) is ∙ ap (λ (n : ℕ). drop n (take k ys ++ drop (suc k) ys)) long ∙ drop-append_seam (take k ys) (drop (suc k) ys)

pub behind_size : (ns : List ℕ) (k r : ℕ) → k < length ns → 0 < size_of ns → size_of ns ≤ 2 ^ 40 → r ≡ min (size_of (drop (k + 1) ns)) (2 ^ 40 + 1) → r ≡ run_of ns k
behind_size ns k r h some few is =
    let e : size_of (drop (k + 1) ns) ≡ run_of ns k = ap (λ (n : ℕ). size_of (drop n ns)) (add-one k) in
    let l = in_line ns k 0 h some in
    let most : run_of ns k ≤ slice_index ns k * run_of ns k = subst (λ (n : ℕ). run_of ns k ≤ n) (mul_comm (run_of ns k) (slice_index ns k)) (le-mul_of_pos_right (run_of ns k) l.axis) in
    omega (arith, is, e, most, l.lines, few)

pub trimmed : (n k : ℕ) (xs : List ℕ) → n ≡ length xs - k → take n (drop k xs) ≡ drop k xs
trimmed n k xs is = ap (λ (m : ℕ). take m (drop k xs)) (is ∙ sym (length-drop k xs)) ∙ take-length (drop k xs)

pub without_then : (k : ℕ) (xs ys : List ℕ) (front back : Bool) → k < length ys → front ≡ pointwise nat_eq (take k xs) (take k ys) → front ≡ true → back ≡ pointwise nat_eq (take (length xs - k) (drop k xs)) (take (length ys - (k + 1)) (drop (k + 1) ys)) → (back ≡ true → xs ≡ remove ys k) × (xs ≡ remove ys k → back ≡ true)
without_then k xs ys front back h p q r =
    let here : back ≡ pointwise nat_eq (drop k xs) (drop (suc k) ys) =
    r ∙ ap (λ (zs : List ℕ). pointwise nat_eq zs (take (length ys - (k + 1)) (drop (k + 1) ys))) (trimmed (length xs - k) k xs refl)
    ∙ ap (pointwise nat_eq (drop k xs)) (trimmed (length ys - (k + 1)) (k + 1) ys refl ∙ ap (λ (n : ℕ). drop n ys) (add-one k)) in (
      λ e. parts_same k xs ys (points_true (take k xs) (take k ys) (sym p ∙ q)) (points_true (drop k xs) (drop (suc k) ys) (sym here ∙ e)),
      λ e. here ∙ ap (λ (zs : List ℕ). pointwise nat_eq zs (drop (suc k) ys)) (back_same k xs ys h e) ∙ points_same (drop (suc k) ys),
    )

pub without_else : (k : ℕ) (xs ys : List ℕ) (front : Bool) → k < length ys → front ≡ pointwise nat_eq (take k xs) (take k ys) → front ≡ false → (front ≡ true → xs ≡ remove ys k) × (xs ≡ remove ys k → front ≡ true)
without_else k xs ys front h p q = (
  λ e. absurd (false≢true (sym q ∙ e)),
  λ e. p ∙ ap (λ (zs : List ℕ). pointwise nat_eq zs (take k ys)) (front_same k xs ys h e) ∙ points_same (take k ys),
)

-- ---- the end

pub length-rotated : (k : ℕ) (a b : Array) → length (rotated_array k a b).cells ≡ size_of b.shape
length-rotated k a b = length-map-upward (λ p. cell_at b (turned_index b.shape k (turn a k (index_at b.shape p)) (index_at b.shape p))) 0 (size_of b.shape)

pub rotated_are : (ns : List ℕ) (k : ℕ) (a b : Array) (turns items cells : List ℤ) → ((k < length ns) ⊎ ((length ns ≡ 0) × (k ≡ 0))) → ns ≡ b.shape → length a.cells ≡ count a → length b.cells ≡ size_of b.shape → TurnsFit a.shape b.shape k → turns ≡ a.cells → items ≡ b.cells → (length ns ≡ 0 → cells ≡ items) → (0 < length ns → cells ≡ map (turned_cell ns k turns items) (upward 0 (size_of ns))) → cells ≡ (rotated_array k a b).cells
rotated_are ns k a b turns items cells within is some many fits ts bs still turned = elim within [
  | inl below ↦
      turned (omega (arith, below)) ∙ ap (λ (zs : List ℤ). map (turned_cell ns k zs items) (upward 0 (size_of ns))) ts
      ∙ ap (λ (zs : List ℤ). map (turned_cell ns k a.cells zs) (upward 0 (size_of ns))) bs
      ∙ turned_are ns k a b below (sym is) some (subst (λ (ms : List ℕ). TurnsFit a.shape ms k) (sym is) fits)
  | inr none ↦ still none.0 ∙ bs ∙ scalar_stays k a b (ap length (sym is) ∙ none.0) many
]

pub turns_known : (some_lengths all_lengths ns : List ℕ) (k n : ℕ) → n ≡ size_of some_lengths → ns ≡ all_lengths → TurnsFit some_lengths all_lengths k → ((n ≡ 1) ⊎ (n ≡ size_of (remove ns k)))
turns_known some_lengths all_lengths ns k n long same fits = elim fits [
  | inl one ↦ inl (long ∙ one)
  | inr without ↦ inr (long ∙ ap size_of without ∙ ap (λ (ms : List ℕ). size_of (remove ms k)) (sym same))
]
