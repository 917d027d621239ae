-- The errors that the shapes and the kind tell.
use Rattle.std.proofs.Common.{◌≡◌, ◌≢◌, ◌==◌, ◌⊎◌, inl, inr, ℕ, suc, ◌-◌, ◌<◌, ◌≤◌, Bool, true, false, not, ◌&&◌, ◌||◌, ℤ, List, [], ◌∷◌, length, map, Err, refl, sym, ap, ◌∙◌, arith}
use Rattle.std.specs.Prelude.{unsigned_abs}
use Rattle.std.proofs.lemmas.Bool.{le-leb, lt-leb, eqb-true, false≢true}
use Rattle.std.proofs.lemmas.List.{length-map}
use denote.Enum.Bare.{sameb}
use Rattle.apl_base.specs.contracts.cells.Kind.{the_type}
use Rattle.apl_base.specs.declared.cells.Kind.{Kind}
use Rattle.apl_base.specs.declared.cells.Kind.TheVariants.{Num, Char}
use Rattle.apl_base.specs.declared.faults.ErrorKind.TheVariants as error
use Rattle.apl_base.specs.Array.{Array, size_of}
use Rattle.apl_base.specs.Selection.{drop_shape}
use Rattle.apl_base.proofs.Booleans.{eqb-same, eqb-other}
use Rattle.apl_model.specs.declared.functions.DyaFn.{DyaFn}
use Rattle.apl_model.specs.declared.functions.DyaFn.TheVariants as dyadic_fn
use Rattle.apl_model.specs.Evaluation.{dyadic_value}
use Rattle.apl_model.specs.Whole.{rank, count, is_char, is_text, is_empty, is_shape}
use Rattle.apl_model.specs.Made.{is_above_one, taken_shape, are_axes, less_origin}
use Rattle.apl_base.proofs.Elements.{tabulated-count}
use Rattle.array_store.specs.Stores.{StoreView}
use Rattle.drag_along.specs.declared.leaves.Leaf.{Leaf}
use Rattle.drag_along.specs.Nodes.{leaf_kind, leaf_shape}
use Rattle.drag_along.specs.Meaning.{leaf_cell}
use Rattle.leaf_names.specs.Variables.{array_of}
use Rattle.pending_laws.specs.Selections.{IsNumberList}
use Rattle.pending_laws.proofs.AnswerLemmas.{not-above_one}
use Rattle.selection_choices.specs.Choices.{SelectsTwo, Errs}
use Rattle.selection_choices.specs.Left.{asked_for}
use Rattle.apl_model_laws.proofs.Refusals.{fails_if, fails_or, passes_if}

-- ---- RANK ERROR

pub refused_rank : (o : ℤ) (f : DyaFn) (a b : Array) → SelectsTwo f → 1 < rank a → dyadic_value o f a b ≡ Err error.Rank
refused_rank o dyadic_fn.Transpose a b h r = fails_if error.Rank (is_above_one a) _ (le-leb 2 (rank a) r)
refused_rank o dyadic_fn.Take a b h r = fails_if error.Rank (is_above_one a) _ (le-leb 2 (rank a) r)
refused_rank o dyadic_fn.Skip a b h r = fails_if error.Rank (is_above_one a) _ (le-leb 2 (rank a) r)
refused_rank o (dyadic_fn.Scalar f) a b h r = absurd h
refused_rank o dyadic_fn.Reshape a b h r = absurd h
refused_rank o dyadic_fn.Catenate a b h r = absurd h
refused_rank o (dyadic_fn.Rotate axis) a b h r = absurd h
refused_rank o (dyadic_fn.Compress axis) a b h r = absurd h
refused_rank o (dyadic_fn.Expand axis) a b h r = absurd h
refused_rank o dyadic_fn.IndexOf a b h r = absurd h
refused_rank o dyadic_fn.Member a b h r = absurd h
refused_rank o dyadic_fn.Encode a b h r = absurd h
refused_rank o dyadic_fn.Decode a b h r = absurd h

-- ---- LENGTH ERROR

differ : (x y : ℕ) → x ≢ y → not (x == y) ≡ true
differ x y h = by (x == y) refl
  where
    by : (t : Bool) → (x == y) ≡ t → not t ≡ true
    by true e = absurd (h (eqb-true x y e))
    by false e = refl

pub refused_length : (o : ℤ) (f : DyaFn) (a b : Array) → SelectsTwo f → rank a ≤ 1 → count a ≢ asked_for f (count a) b.shape → dyadic_value o f a b ≡ Err error.Length
refused_length o dyadic_fn.Transpose a b h r n = passes_if error.Rank (is_above_one a) _ (not-above_one a r) ∙ fails_if error.Length (not (count a == rank b)) _ (differ (count a) (rank b) n)
refused_length o dyadic_fn.Take a b h r n = passes_if error.Rank (is_above_one a) _ (not-above_one a r) ∙ fails_if error.Length (not (count a == length (taken_shape a b))) _ (differ (count a) (length (taken_shape a b)) n)
refused_length o dyadic_fn.Skip a b h r n = passes_if error.Rank (is_above_one a) _ (not-above_one a r) ∙ fails_if error.Length (not (count a == length (taken_shape a b))) _ (differ (count a) (length (taken_shape a b)) n)
refused_length o (dyadic_fn.Scalar f) a b h r n = absurd h
refused_length o dyadic_fn.Reshape a b h r n = absurd h
refused_length o dyadic_fn.Catenate a b h r n = absurd h
refused_length o (dyadic_fn.Rotate axis) a b h r n = absurd h
refused_length o (dyadic_fn.Compress axis) a b h r n = absurd h
refused_length o (dyadic_fn.Expand axis) a b h r n = absurd h
refused_length o dyadic_fn.IndexOf a b h r n = absurd h
refused_length o dyadic_fn.Member a b h r n = absurd h
refused_length o dyadic_fn.Encode a b h r n = absurd h
refused_length o dyadic_fn.Decode a b h r n = absurd h

-- ---- DOMAIN ERROR

alike : (x y : ℕ) → x ≡ y → not (x == y) ≡ false
alike x y e = ap not (eqb-same x y e)

-- characters, of which there is one
pub texts : (a : Array) → a.kind ≡ Char → 0 < count a → is_text a ≡ true
texts a k some =
    let test : (count a == 0) ≡ false = eqb-other (count a) 0 (count a - 1) (omega (arith, some)) in
    rw (ap is_char k, test) refl

-- numbers, or no element
pub no_text : (a : Array) → (a.kind ≡ Char → count a ≡ 0) → is_text a ≡ false
no_text a h = by a.kind refl
  where
    by : (k : Kind) → a.kind ≡ k → is_char k && not (is_empty a) ≡ false
    by Num e = refl
    by Char e = ap not (eqb-same (count a) 0 (h e))

either : (t u : Bool) → t ≡ true → t || u ≡ true
either t u h = ap (λ (b : Bool). b || u) h

pub refused_domain : (o : ℤ) (f : DyaFn) (a b : Array) → SelectsTwo f → rank a ≤ 1 → count a ≡ asked_for f (count a) b.shape → is_text a ≡ true → dyadic_value o f a b ≡ Err error.Domain
refused_domain o dyadic_fn.Transpose a b h r n t =
    passes_if error.Rank (is_above_one a) _ (not-above_one a r) ∙ passes_if error.Length (not (count a == rank b)) _ (alike (count a) (rank b) n)
    ∙ fails_or error.Domain (is_text a || not (are_axes (less_origin o a))) _ (either (is_text a) (not (are_axes (less_origin o a))) t)
refused_domain o dyadic_fn.Take a b h r n t =
    passes_if error.Rank (is_above_one a) _ (not-above_one a r) ∙ passes_if error.Length (not (count a == length (taken_shape a b))) _ (alike (count a) (length (taken_shape a b)) n)
    ∙ fails_if error.Domain (is_text a) _ t
refused_domain o dyadic_fn.Skip a b h r n t =
    passes_if error.Rank (is_above_one a) _ (not-above_one a r) ∙ passes_if error.Length (not (count a == length (taken_shape a b))) _ (alike (count a) (length (taken_shape a b)) n)
    ∙ fails_if error.Domain (is_text a) _ t
refused_domain o (dyadic_fn.Scalar f) a b h r n t = absurd h
refused_domain o dyadic_fn.Reshape a b h r n t = absurd h
refused_domain o dyadic_fn.Catenate a b h r n t = absurd h
refused_domain o (dyadic_fn.Rotate axis) a b h r n t = absurd h
refused_domain o (dyadic_fn.Compress axis) a b h r n t = absurd h
refused_domain o (dyadic_fn.Expand axis) a b h r n t = absurd h
refused_domain o dyadic_fn.IndexOf a b h r n t = absurd h
refused_domain o dyadic_fn.Member a b h r n t = absurd h
refused_domain o dyadic_fn.Encode a b h r n t = absurd h
refused_domain o dyadic_fn.Decode a b h r n t = absurd h

-- ---- LIMIT ERROR

-- more than eight lengths make no shape
no_shape : (ns : List ℕ) → 8 < length ns → not (is_shape ns) ≡ true
no_shape ns many = rw (lt-leb (length ns) 8 many) refl

drops-length : (ns : List ℕ) (counts : List ℤ) → length ns ≡ length counts → length (drop_shape ns counts) ≡ length counts
drops-length [] [] h = refl
drops-length [] (a ∷ counts) h = absurd (omega (arith, h))
drops-length (n ∷ ns) [] h = absurd (omega (arith, h))
drops-length (n ∷ ns) (a ∷ counts) h = ap suc (drops-length ns counts (omega (arith, h)))

pub refused_limit : (o : ℤ) (f : DyaFn) (a b : Array) → SelectsTwo f → rank a ≤ 1 → count a ≡ asked_for f (count a) b.shape → is_text a ≡ false → length a.cells ≡ count a → rank b ≤ 8 → 8 < count a → dyadic_value o f a b ≡ Err error.Limit
refused_limit o dyadic_fn.Transpose a b h r n t c few many = absurd (omega (arith, n, few, many))
refused_limit o dyadic_fn.Take a b h r n t c few many =
    passes_if error.Rank (is_above_one a) _ (not-above_one a r) ∙ passes_if error.Length (not (count a == length (taken_shape a b))) _ (alike (count a) (length (taken_shape a b)) n)
    ∙ passes_if error.Domain (is_text a) _ t
    ∙ fails_or error.Limit (not (is_shape (map unsigned_abs a.cells))) _ (no_shape (map unsigned_abs a.cells) (omega (arith, length-map a.cells unsigned_abs, c, many)))
refused_limit o dyadic_fn.Skip a b h r n t c few many =
    passes_if error.Rank (is_above_one a) _ (not-above_one a r) ∙ passes_if error.Length (not (count a == length (taken_shape a b))) _ (alike (count a) (length (taken_shape a b)) n)
    ∙ passes_if error.Domain (is_text a) _ t
    ∙ fails_or error.Limit (not (is_shape (drop_shape (taken_shape a b) a.cells))) _ (no_shape (drop_shape (taken_shape a b) a.cells) (omega (arith, drops-length (taken_shape a b) a.cells (sym n ∙ sym c), c, many)))
refused_limit o (dyadic_fn.Scalar f) a b h r n t c few many = absurd h
refused_limit o dyadic_fn.Reshape a b h r n t c few many = absurd h
refused_limit o dyadic_fn.Catenate a b h r n t c few many = absurd h
refused_limit o (dyadic_fn.Rotate axis) a b h r n t c few many = absurd h
refused_limit o (dyadic_fn.Compress axis) a b h r n t c few many = absurd h
refused_limit o (dyadic_fn.Expand axis) a b h r n t c few many = absurd h
refused_limit o dyadic_fn.IndexOf a b h r n t c few many = absurd h
refused_limit o dyadic_fn.Member a b h r n t c few many = absurd h
refused_limit o dyadic_fn.Encode a b h r n t c few many = absurd h
refused_limit o dyadic_fn.Decode a b h r n t c few many = absurd h

-- ---- a leaf

-- what the test of the kind and the count tells
pub kind_tested : (t : Bool) (k l : Kind) (n : ℕ) → k ≡ l → t ≡ sameb the_type k Char → (t ≡ true × n ≤ 0) ⊎ (t ≡ false) → l ≡ Char → n ≡ 0
kind_tested t k l n e test (inl few) is = omega (arith, few.1)
kind_tested t k l n e test (inr other) is = absurd (false≢true (sym other ∙ test ∙ ap (λ (x : Kind). sameb the_type x Char) (e ∙ is)))

pub lists_numbers : (leaf : Leaf) (store : StoreView) (n : ℕ) → n ≡ size_of (leaf_shape leaf) → length (leaf_shape leaf) ≤ 1 → (leaf_kind leaf ≡ Char → n ≡ 0) → IsNumberList (array_of store leaf)
lists_numbers leaf store n many flat kind = record {
  axes = flat;
  complete = tabulated-count (leaf_kind leaf) (leaf_shape leaf) (leaf_cell store leaf);
  numbers = no_text (array_of store leaf) (λ e. sym many ∙ kind e);
}

pub limit_refused : (f : DyaFn) (leaf : Leaf) (ns : List ℕ) (n : ℕ) → SelectsTwo f → n ≡ size_of (leaf_shape leaf) → length (leaf_shape leaf) ≤ 1 → n ≡ asked_for f n ns → (leaf_kind leaf ≡ Char → n ≡ 0) → 8 < n → length ns ≤ 8 → (o : ℤ) (store : StoreView) → Errs (dyadic_value o f (array_of store leaf)) ns error.Limit
limit_refused f leaf ns n selects many flat asked kind above short o store b is =
    let a : Array = array_of store leaf in
    let list : IsNumberList (array_of store leaf) = lists_numbers leaf store n many flat kind in
    refused_limit o f (array_of store leaf) b selects flat
    (sym many ∙ asked ∙ ap (λ (k : ℕ). asked_for f k ns) many ∙ ap (λ (ms : List ℕ). asked_for f (size_of (leaf_shape leaf)) ms) (sym is.shape))
    list.numbers list.complete (omega (arith, short, ap (λ (ms : List ℕ). length ms) is.shape)) (omega (arith, above, many))
