-- Elements along an axis that is spread by bits.
use Rattle.std.proofs.Common.{◌≡◌, ℕ, ◌+◌, ◌*◌, ◌/◌, ◌%◌, ◌<◌, ◌≤◌, ◌==◌, ◌⊎◌, Bool, true, false, not, ◌&&◌, if◌then◌else◌, ℤ, pos, Result, Ok, Err, IfOk, IfErr, OnOk, Option, Some, None, IfSome, List, [], ◌∷◌, ◌++◌, length, map, take, drop, get_or, set, refl, sym, ap, ◌∙◌, subst, arith}
use Rattle.std.specs.Ordering.{int_eq}
use Rattle.std.proofs.lemmas.Bool.{le-ltb, eqb-true, false≢true}
use Rattle.std.proofs.lemmas.List.{take-append-drop, map-append}
use Rattle.apl_base.specs.declared.faults.ErrorKind.TheVariants as error
use Rattle.apl_base.specs.Array.{Array, IsShape, size_of, place_at, index_at}
use Rattle.apl_base.specs.Selection.{upward}
use Rattle.apl_base.proofs.Booleans.{not-false}
use Rattle.apl_base.proofs.Upward.{map-upward-same, length-map-upward, get_or-map-places}
use Rattle.e_machine.proofs.WholeLemmas.{upward-push}
use Rattle.apl_model.specs.declared.functions.Axis.{Axis}
use Rattle.apl_model.specs.Made.{is_above_one, are_bits, ones, spaced, expanded, extended_to, expand, read_or_fill}
use Rattle.apl_model.specs.Whole.{rank, is_extendable, fill, error_if}
use Rattle.made_fns.specs.Answers.{GoesAlong, CanSpace, spaced_array, spaced_answer}
use Rattle.made_fns.specs.Lines.{run_of, placed, spread_cell, spaced_source}
use Rattle.made_fns.proofs.AxisLemmas.{on_axis_of}
use Rattle.made_fns.proofs.KeepLemmas.{axis_extended, axis_first, extended_shape, extended_else, extended_count, kind-extended, set_back, set_long, set_at}
use Rattle.made_fns.proofs.ScanLemmas.{ones-append, ones-next}
use Rattle.made_fns.proofs.SpreadLemmas.{moved_across, spread_facts}
use Rattle.made_fns.proofs.Tests.{no_error, an_error, within_shape, over_limit}

-- ---- errors

abbrev pub unmet : ℕ → ℕ → Array → Bool
unmet k n b = not (is_extendable b) && not (n == get_or b.shape k 0)

not_true : (t : Bool) → not t ≡ true → t ≡ false
not_true true h = absurd (false≢true h)
not_true false h = refl

first_fails : (x y z : Bool) → x ≡ false → x && y && z ≡ false
first_fails true y z h = absurd (false≢true (sym h))
first_fails false y z h = refl

pub spaced_domain : (axis : Axis) (k : ℕ) (a b : Array) (u : Bool) → rank a ≤ 1 → GoesAlong axis (rank b) k → u ≡ are_bits a → u ≡ false → expand (pos 1) axis a b ≡ Err error.Domain
spaced_domain axis k a b u one along bits g =
    no_error error.Rank (is_above_one a) _ (le-ltb 1 (rank a) one) ∙ along _
    ∙ no_error error.Length (are_bits a && not (is_extendable b) && not (ones a.cells == get_or b.shape k 0)) _ (first_fails (are_bits a) (not (is_extendable b)) (not (ones a.cells == get_or b.shape k 0)) (sym bits ∙ g))
    ∙ an_error error.Domain (not (are_bits a)) _ (ap not (sym bits ∙ g))

pub spaced_goes : (axis : Axis) (k : ℕ) (a b : Array) (u : Bool) → rank a ≤ 1 → GoesAlong axis (rank b) k → u ≡ are_bits a → u ≡ true → expand (pos 1) axis a b ≡ spaced_answer k a b
spaced_goes axis k a b u one along bits g =
    no_error error.Rank (is_above_one a) _ (le-ltb 1 (rank a) one) ∙ along _
    ∙ ap (λ (t : Bool). error_if error.Length (t && not (is_extendable b) && not (ones a.cells == get_or b.shape k 0)) (error_if error.Domain (not t) (expanded k a.cells (extended_to (ones a.cells) b)))) (sym bits ∙ g)

pub spaced_length : (k n : ℕ) (a b : Array) (t : Bool) → t ≡ not (unmet k n b) → t ≡ false → n ≡ ones a.cells → spaced_answer k a b ≡ Err error.Length
spaced_length k n a b t is h e =
    an_error error.Length (unmet k (ones a.cells) b) _ (ap (λ (m : ℕ). unmet k m b) (sym e) ∙ not-false (unmet k n b) (sym is ∙ h))

met : (k n : ℕ) (a b : Array) (t : Bool) → t ≡ not (unmet k n b) → t ≡ true → n ≡ ones a.cells → unmet k (ones a.cells) b ≡ false
met k n a b t is h e = ap (λ (m : ℕ). unmet k m b) (sym e) ∙ not_true (unmet k n b) (sym is ∙ h)

pub spaced_shape_is : (k n m : ℕ) (a b : Array) → n ≡ ones a.cells → m ≡ length a.cells → set (extended_to n b).shape k m ≡ (spaced_array k a b).shape
spaced_shape_is k n m a b e f = ap (λ (i : ℕ). set (extended_to i b).shape k m) e ∙ ap (set (extended_to (ones a.cells) b).shape k) f

pub spaced_limit : (k n m : ℕ) (a b : Array) (t : Bool) → t ≡ not (unmet k n b) → t ≡ true → n ≡ ones a.cells → m ≡ length a.cells → (IsShape (set (extended_to n b).shape k m) → ⊥) → spaced_answer k a b ≡ Err error.Limit
spaced_limit k n m a b t is h e f none =
    no_error error.Length (unmet k (ones a.cells) b) _ (met k n a b t is h e)
    ∙ over_limit (spaced_array k a b).shape _ (λ lawful. none (subst IsShape (sym (spaced_shape_is k n m a b e f)) lawful))

pub spaced_is : (k n m : ℕ) (a b : Array) (t : Bool) → t ≡ not (unmet k n b) → t ≡ true → n ≡ ones a.cells → m ≡ length a.cells → IsShape (set (extended_to n b).shape k m) → spaced_answer k a b ≡ Ok (spaced_array k a b)
spaced_is k n m a b t is h e f lawful =
    no_error error.Length (unmet k (ones a.cells) b) _ (met k n a b t is h e)
    ∙ within_shape (spaced_array k a b).shape _ (subst IsShape (spaced_shape_is k n m a b e f) lawful)

pub can_space : (k n : ℕ) (b : Array) (t : Bool) → ((k < rank b) ⊎ ((rank b ≡ 0) × (k ≡ 0))) → t ≡ not (unmet k n b) → t ≡ true → CanSpace k n b
can_space k n b t within is h = record {
  axis = axis_extended n b k within;
  ones = by (is_extendable b) refl;
}
  where
    count_met : (x y : Bool) → x ≡ false → not x && not y ≡ false → y ≡ true
    count_met true y p q = absurd (false≢true (sym p))
    count_met false true p q = refl
    count_met false false p q = absurd (false≢true (sym q))

    by : (s : Bool) → is_extendable b ≡ s → n ≡ get_or (extended_to n b).shape k 0
    by true q = sym (ap (λ (ns : List ℕ). get_or ns k 0) (extended_shape n b q) ∙ ap (λ (i : ℕ). get_or (n ∷ []) i 0) (axis_first b.shape k within q))
    by false q = eqb-true n (get_or b.shape k 0) (count_met (is_extendable b) (n == get_or b.shape k 0) q (not_true (unmet k n b) (sym is ∙ h))) ∙ ap (λ (x : Array). get_or x.shape k 0) (sym (extended_else n b q))

-- ---- sources

pub source_more : (bits : List ℤ) (k found : ℕ) (old new : List (Option ℕ)) (o : Option ℕ) → old ≡ map (spaced_source bits) (upward 0 k) → found ≡ ones (take k bits) → o ≡ (if int_eq (get_or bits k (pos 0)) (pos 1) then Some found else None) → new ≡ old ++ o ∷ [] → new ≡ map (spaced_source bits) (upward 0 (k + 1))
source_more bits k found old new o before many is pushed =
    let e : 0 + k ≡ k = omega arith in
    let here : o ≡ spaced_source bits k = is ∙ ap (λ (n : ℕ). if int_eq (get_or bits k (pos 0)) (pos 1) then Some n else None) many in
    pushed ∙ ap (λ (xs : List (Option ℕ)). xs ++ o ∷ []) before ∙ ap (λ (y : Option ℕ). map (spaced_source bits) (upward 0 k) ++ y ∷ []) (here ∙ ap (spaced_source bits) (sym e))
    ∙ sym (ap (map (spaced_source bits)) (upward-push 0 k) ∙ map-append (spaced_source bits) (upward 0 k) ((0 + k) ∷ []))

at_most_one : (t : Bool) → (if t then 1 else 0) ≤ 1
at_most_one true = omega arith
at_most_one false = omega arith

pub found_more : (bits : List ℤ) (k found now : ℕ) → k < length bits → found ≡ ones (take k bits) → found ≤ k → now ≡ found + (if int_eq (get_or bits k (pos 0)) (pos 1) then 1 else 0) → (now ≡ ones (take (k + 1) bits)) × (now ≤ k + 1)
found_more bits k found now below many few is = (
  is ∙ ap (λ (n : ℕ). n + (if int_eq (get_or bits k (pos 0)) (pos 1) then 1 else 0)) many ∙ sym (ones-next bits k (get_or bits k (pos 0)) below refl),
  omega (arith, is, few, at_most_one (int_eq (get_or bits k (pos 0)) (pos 1))),
)

-- a one has fewer before it than there are
ones_before : (bits : List ℤ) (j : ℕ) → j < length bits → int_eq (get_or bits j (pos 0)) (pos 1) ≡ true → ones (take j bits) < ones bits
ones_before bits j below one =
    let whole : ones (take (j + 1) bits) + ones (drop (j + 1) bits) ≡ ones bits = sym (ones-append (take (j + 1) bits) (drop (j + 1) bits)) ∙ ap ones (take-append-drop (j + 1) bits) in
    let next : ones (take (j + 1) bits) ≡ ones (take j bits) + 1 = ones-next bits j (get_or bits j (pos 0)) below refl ∙ ap (λ (t : Bool). ones (take j bits) + (if t then 1 else 0)) one in
    omega (arith, whole, next)

source_below : (bits : List ℤ) (j : ℕ) → j < length bits → IfSome (spaced_source bits j) (λ v. v < ones bits)
source_below bits j below = by (int_eq (get_or bits j (pos 0)) (pos 1)) (ones_before bits j below)
  where
    by : (t : Bool) → (t ≡ true → ones (take j bits) < ones bits) → IfSome (if t then Some (ones (take j bits)) else None) (λ v. v < ones bits)
    by true h = h refl
    by false h = tt

-- ---- the elements

pub record SpacedFacts (k : ℕ) (a b : Array) (shape : List ℕ) (axis : ℕ) (sources : List (Option ℕ)) (items : List ℤ) (blank : ℤ) : Type 0 where
  pub along : k < length shape
  pub long : length sources ≡ get_or shape k 0
  pub within : (j : ℕ) → j < length sources → IfSome (get_or sources j None) (λ v. v < axis)
  pub back : set shape k axis ≡ (extended_to (ones a.cells) b).shape
  pub many : length items ≡ size_of (set shape k axis)
  pub are : map (spread_cell shape k axis sources items blank) (upward 0 (size_of shape)) ≡ (spaced_array k a b).cells

placed_is : (c : Array) (ms is : List ℕ) (k base run v : ℕ) (t : Bool) → base + v * run ≡ place_at ms (set is k v) → ms ≡ c.shape → placed c.cells (fill c.kind) base run (if t then Some v else None) ≡ read_or_fill c (if t then Some (set is k v) else None)
placed_is c ms is k base run v true e f = ap (λ (x : ℕ). get_or c.cells x (pos 0)) e ∙ ap (λ (ns : List ℕ). get_or c.cells (place_at ns (set is k v)) (pos 0)) f
placed_is c ms is k base run v false e f = refl

spaced_here : (k : ℕ) (a b : Array) → CanSpace k (ones a.cells) b → length b.cells ≡ size_of b.shape → (let c : Array = extended_to (ones a.cells) b in SpacedFacts k a b (spaced_array k a b).shape (get_or c.shape k 0) (map (spaced_source a.cells) (upward 0 (length a.cells))) c.cells (fill c.kind))
spaced_here k a b can many =
    let c = extended_to (ones a.cells) b in
    let bits = a.cells in
    let ns = c.shape in
    let n = get_or ns k 0 in
    let sources = map (spaced_source bits) (upward 0 (length bits)) in
    let shape = set ns k (length bits) in
    let back : set shape k n ≡ ns = set_back ns k (length bits) in
    let along : k < length shape = omega (arith, can.axis, set_long ns k (length bits)) in
    let here : get_or shape k 0 ≡ length bits = set_at ns k (length bits) can.axis in
    let long : length sources ≡ length bits = length-map-upward (spaced_source bits) 0 (length bits) in
    record {
      along = along;
      long = long ∙ sym here;
      within = λ j below.
          let less : j < length bits = omega (arith, below, long) in
          subst (λ (o : Option ℕ). IfSome o (λ v. v < n)) (sym (get_or-map-places (spaced_source bits) (length bits) j None less))
          (subst (λ (m : ℕ). IfSome (spaced_source bits j) (λ v. v < m)) can.ones (source_below bits j less));
      back = back;
      many = extended_count (ones bits) b many ∙ ap size_of (sym back);
      are = map-upward-same (spread_cell shape k n sources c.cells (fill c.kind)) (λ p. read_or_fill c (spaced k bits (index_at shape p))) 0 (size_of shape) (λ p low high.
          let less : p < size_of shape = omega (arith, high) in
          let on = on_axis_of shape k p along less in
          let f = spread_facts shape k (run_of shape k) n p refl along less in
          let j = p / run_of shape k % get_or shape k 0 in
          let base = p / (get_or shape k 0 * run_of shape k) * (n * run_of shape k) + p % run_of shape k in
          let is = index_at shape p in
          ap (placed c.cells (fill c.kind) base (run_of shape k)) (get_or-map-places (spaced_source bits) (length bits) j None (omega (arith, f.number, here)))
          ∙ placed_is c (set shape k n) is k base (run_of shape k) (ones (take j bits)) (int_eq (get_or bits j (pos 0)) (pos 1)) (sym (moved_across shape k n p (ones (take j bits)) along less)) back
          ∙ ap (λ (i : ℕ). read_or_fill c (if int_eq (get_or bits i (pos 0)) (pos 1) then Some (set is k (ones (take i bits))) else None)) (sym on.number));
    }

-- by what the code knows
pub spaced_facts : (k : ℕ) (a b : Array) (n : ℕ) (whole shape : List ℕ) (axis : ℕ) (bits : List ℤ) (sources : List (Option ℕ)) (items : List ℤ) (blank : ℤ) → n ≡ ones a.cells → CanSpace k n b → length b.cells ≡ size_of b.shape → whole ≡ (extended_to n b).shape → axis ≡ get_or whole k 0 → bits ≡ a.cells → sources ≡ map (spaced_source bits) (upward 0 (length bits)) → items ≡ (extended_to n b).cells → shape ≡ (spaced_array k a b).shape → blank ≡ fill b.kind → SpacedFacts k a b shape axis sources items blank
spaced_facts k a b n whole shape axis bits sources items blank e can many w x y z i s f =
    let c = extended_to (ones a.cells) b in
    let m : axis ≡ get_or c.shape k 0 = x ∙ ap (λ (ns : List ℕ). get_or ns k 0) w ∙ ap (λ (q : ℕ). get_or (extended_to q b).shape k 0) e in
    let o : sources ≡ map (spaced_source a.cells) (upward 0 (length a.cells)) = z ∙ ap (λ (zs : List ℤ). map (spaced_source zs) (upward 0 (length zs))) y in
    let g : items ≡ c.cells = i ∙ ap (λ (q : ℕ). (extended_to q b).cells) e in
    let h : blank ≡ fill c.kind = f ∙ ap fill (sym (kind-extended (ones a.cells) b)) in
    subst (λ (ns : List ℕ). SpacedFacts k a b ns axis sources items blank) (sym s)
    (subst (λ (q : ℕ). SpacedFacts k a b (spaced_array k a b).shape q sources items blank) (sym m)
    (subst (λ (os : List (Option ℕ)). SpacedFacts k a b (spaced_array k a b).shape (get_or c.shape k 0) os items blank) (sym o)
    (subst (λ (zs : List ℤ). SpacedFacts k a b (spaced_array k a b).shape (get_or c.shape k 0) (map (spaced_source a.cells) (upward 0 (length a.cells))) zs blank) (sym g)
    (subst (λ (u : ℤ). SpacedFacts k a b (spaced_array k a b).shape (get_or c.shape k 0) (map (spaced_source a.cells) (upward 0 (length a.cells))) c.cells u) (sym h)
    (spaced_here k a b (subst (λ (q : ℕ). CanSpace k q b) e can) many)))))

-- ---- the end

pub length-spaced : (k : ℕ) (a b : Array) → length (spaced_array k a b).cells ≡ size_of (spaced_array k a b).shape
length-spaced k a b = length-map-upward (λ p. read_or_fill (extended_to (ones a.cells) b) (spaced k a.cells (index_at (spaced_array k a b).shape p))) 0 (size_of (spaced_array k a b).shape)

pub kind-spaced : (k : ℕ) (a b : Array) → (spaced_array k a b).kind ≡ b.kind
kind-spaced k a b = kind-extended (ones a.cells) b

-- ---- answers of a call that is passed on

pub ok_then : {T E : Type 0} (P Q : T → Type 0) (r : Result T E) → ((x : T) → P x → Q x) → IfOk r P → IfOk r Q
ok_then P Q (Ok x) f h = f x h
ok_then P Q (Err e) f h = h

pub on_ok : {T E : Type 0} (P : T → Type 0) (Q : Type 0) (r : Result T E) → ((x : T) → P x → Q) → IfOk r P → OnOk r Q
on_ok P Q (Ok x) f h = f x h
on_ok P Q (Err e) f h = h

pub err_then : {T E : Type 0} (P Q : E → Type 0) (r : Result T E) → ((e : E) → P e → Q e) → IfErr r P → IfErr r Q
err_then P Q (Ok x) f h = h
err_then P Q (Err e) f h = f e h
