-- The errors of an indexed assignment, in their order.
use Rattle.std.proofs.Common.{◌≡◌, ◌≢◌, ◌==◌, ℕ, Bool, true, false, not, ◌&&◌, ◌||◌, ℤ, inl, inr, List, [], ◌∷◌, length, Option, Some, None, Ok, Err, refl, sym, ap, subst, ◌∙◌, arith}
use Rattle.std.specs.Prelude.{nat_eq, sum_by, IfSome, IfNone, MatchOption}
use Rattle.std.specs.Cmp.Lexicographic.{pointwise}
use Rattle.std.specs.List.{list_any}
use Rattle.std.proofs.lemmas.Bool.{eqb-true}
use lib.Pointwise.{bytes_decides}
use Rattle.std.proofs.lemmas.List.{length-append}
use Rattle.std.proofs.lemmas.List.Sums.{sum_by-cons}
use Rattle.apl_base.specs.declared.faults.ErrorKind.{ErrorKind}
use Rattle.apl_base.specs.declared.faults.ErrorKind.TheVariants as error
use Rattle.apl_base.specs.Array.{Array, IsShape}
use Rattle.apl_base.specs.Elements.{indices}
use Rattle.apl_base.proofs.Booleans.{by_false, eqb-same}
use Rattle.apl_model.specs.Made.{kinds_differ}
use Rattle.apl_model.specs.Subscript.{is_text_position, in_axes, positions_shape, replaced, replacement}
use Rattle.apl_model.specs.Whole.{Answer, rank, is_single, is_shape, error_if, within_limit}
use Rattle.apl_model_laws.proofs.Arrays.{shapes_are_tested}
use Rattle.pending_laws.proofs.JoinLemmas.{pointwise-same}
use Rattle.array_store.specs.Stores.{StoreView}
use Rattle.drag_along.specs.declared.leaves.Leaf.{Leaf}
use Rattle.drag_along.specs.Nodes.{leaf_shape}
use Rattle.made_picks.specs.Picks.{positions_of}
use Rattle.replacing_steps.specs.Checks.{FitsSelected, IsFit, CanReplace, axes_given}
use Rattle.apl_model_laws.proofs.Refusals.{fails_if, fails_or, passes_if, passes_limit}

either_true : (s t : Bool) → t ≡ true → s || t ≡ true
either_true true t h = refl
either_true false t h = h

first_true : (s t : Bool) → s ≡ true → s || t ≡ true
first_true s t h = ap (λ (b : Bool). b || t) h

both_true : (s t : Bool) → s ≡ true → t ≡ true → s && t ≡ true
both_true s t h g = ap (λ (b : Bool). b && t) h ∙ g

first_false : (s t : Bool) → s ≡ false → s && t ≡ false
first_false s t h = ap (λ (b : Bool). b && t) h

neither_false : (s t : Bool) → s ≡ false → t ≡ false → s || t ≡ false
neither_false s t h g = ap (λ (b : Bool). b || t) h ∙ g

second_false : (s t : Bool) → t ≡ false → s && t ≡ false
second_false true t h = h
second_false false t h = refl

unequal : (x y : ℕ) → x ≢ y → (x == y) ≡ false
unequal x y h = by_false (x == y) (x ≡ y) (eqb-true x y) (λ e. h e)

-- ---- the checks, one after the other

abbrev rank_test : Array → List (Option Array) → Array → Bool
rank_test a ps b = not (length ps == rank a) || (not (is_single b) && not (rank b == length (positions_shape a.shape ps)))

abbrev length_test : Array → List (Option Array) → Array → Bool
length_test a ps b = not (is_single b) && not (pointwise nat_eq b.shape (positions_shape a.shape ps))

abbrev domain_test : Array → List (Option Array) → Array → Bool
domain_test a ps b = list_any is_text_position ps || kinds_differ a b

abbrev limit_part : ℤ → Array → List (Option Array) → Array → Answer
limit_part o a ps b =
    within_limit (positions_shape a.shape ps) (λ _. Ok (record a { cells = replaced o a ps b (indices (positions_shape a.shape ps)) a.cells }))

abbrev index_part : ℤ → Array → List (Option Array) → Array → Answer
index_part o a ps b = error_if error.Index (not (in_axes o a.shape ps)) (limit_part o a ps b)

abbrev domain_part : ℤ → Array → List (Option Array) → Array → Answer
domain_part o a ps b = error_if error.Domain (domain_test a ps b) (index_part o a ps b)

abbrev length_part : ℤ → Array → List (Option Array) → Array → Answer
length_part o a ps b = error_if error.Length (length_test a ps b) (domain_part o a ps b)

module _ (o : ℤ) (a b : Array) (ps : List (Option Array)) where
  pub count_fails : length ps ≢ length a.shape → replacement o a ps b ≡ Err error.Rank
  count_fails h =
      fails_if error.Rank (rank_test a ps b) (length_part o a ps b)
      (first_true (not (length ps == rank a)) (not (is_single b) && not (rank b == length (positions_shape a.shape ps))) (ap not (unequal (length ps) (rank a) h)))

  -- where there is a position for each axis
  module _ (count : length ps ≡ length a.shape) where
    no_count : not (length ps == rank a) ≡ false
    no_count = ap not (eqb-same (length ps) (rank a) count)

    pub unfit_fails : (kind : ErrorKind) → IsFit b (positions_shape a.shape ps) (Some kind) → replacement o a ps b ≡ Err kind
    unfit_fails kind (many, inl (is, differ)) =
        subst (λ (k : ErrorKind). replacement o a ps b ≡ Err k) (sym is)
        (fails_if error.Rank (rank_test a ps b) (length_part o a ps b)
        (either_true (not (length ps == rank a)) (not (is_single b) && not (rank b == length (positions_shape a.shape ps)))
        (both_true (not (is_single b)) (not (rank b == length (positions_shape a.shape ps))) (ap not many) (ap not (unequal (rank b) (length (positions_shape a.shape ps)) differ)))))
    unfit_fails kind (many, inr (is, same, differ)) =
        subst (λ (k : ErrorKind). replacement o a ps b ≡ Err k) (sym is)
        (passes_if error.Rank (rank_test a ps b) (length_part o a ps b)
        (neither_false (not (length ps == rank a)) (not (is_single b) && not (rank b == length (positions_shape a.shape ps))) no_count
        (second_false (not (is_single b)) (not (rank b == length (positions_shape a.shape ps))) (ap not (eqb-same (rank b) (length (positions_shape a.shape ps)) same))))
        ∙ fails_if error.Length (length_test a ps b) (domain_part o a ps b)
        (both_true (not (is_single b)) (not (pointwise nat_eq b.shape (positions_shape a.shape ps))) (ap not many)
        (ap not (by_false (pointwise nat_eq b.shape (positions_shape a.shape ps)) (b.shape ≡ positions_shape a.shape ps) (λ t. (bytes_decides b.shape (positions_shape a.shape ps)).0 t) (λ e. differ e)))))

    -- where the value fits
    fits_pass : FitsSelected b (positions_shape a.shape ps) → (rank_test a ps b ≡ false) × (length_test a ps b ≡ false)
    fits_pass (inl one) = (
      neither_false (not (length ps == rank a)) (not (is_single b) && not (rank b == length (positions_shape a.shape ps))) no_count
          (first_false (not (is_single b)) (not (rank b == length (positions_shape a.shape ps))) (ap not one)),
      first_false (not (is_single b)) (not (pointwise nat_eq b.shape (positions_shape a.shape ps))) (ap not one),
    )
    fits_pass (inr same) = (
      neither_false (not (length ps == rank a)) (not (is_single b) && not (rank b == length (positions_shape a.shape ps))) no_count
          (second_false (not (is_single b)) (not (rank b == length (positions_shape a.shape ps)))
          (ap not (eqb-same (rank b) (length (positions_shape a.shape ps)) (ap (λ (ns : List ℕ). length ns) same.1)))),
      second_false (not (is_single b)) (not (pointwise nat_eq b.shape (positions_shape a.shape ps)))
          (ap not (ap (λ (ns : List ℕ). pointwise nat_eq ns (positions_shape a.shape ps)) same.1 ∙ pointwise-same (positions_shape a.shape ps))),
    )

    to_domain : FitsSelected b (positions_shape a.shape ps) → replacement o a ps b ≡ domain_part o a ps b
    to_domain fits =
        passes_if error.Rank (rank_test a ps b) (length_part o a ps b) (fits_pass fits).0
        ∙ passes_if error.Length (length_test a ps b) (domain_part o a ps b) (fits_pass fits).1

    pub text_fails : FitsSelected b (positions_shape a.shape ps) → domain_test a ps b ≡ true → replacement o a ps b ≡ Err error.Domain
    text_fails fits t = to_domain fits ∙ fails_if error.Domain (domain_test a ps b) (index_part o a ps b) t

    to_index : FitsSelected b (positions_shape a.shape ps) → domain_test a ps b ≡ false → replacement o a ps b ≡ index_part o a ps b
    to_index fits t = to_domain fits ∙ passes_if error.Domain (domain_test a ps b) (index_part o a ps b) t

    pub axis_fails : FitsSelected b (positions_shape a.shape ps) → domain_test a ps b ≡ false → in_axes o a.shape ps ≡ false → replacement o a ps b ≡ Err error.Index
    axis_fails fits t off = to_index fits t ∙ fails_if error.Index (not (in_axes o a.shape ps)) (limit_part o a ps b) (ap not off)

    to_limit : FitsSelected b (positions_shape a.shape ps) → domain_test a ps b ≡ false → in_axes o a.shape ps ≡ true → replacement o a ps b ≡ limit_part o a ps b
    to_limit fits t on = to_index fits t ∙ passes_if error.Index (not (in_axes o a.shape ps)) (limit_part o a ps b) (ap not on)

    pub size_fails : FitsSelected b (positions_shape a.shape ps) → domain_test a ps b ≡ false → in_axes o a.shape ps ≡ true → ¬ (IsShape (positions_shape a.shape ps)) → replacement o a ps b ≡ Err error.Limit
    size_fails fits t on none =
        to_limit fits t on
        ∙ fails_or error.Limit (not (is_shape (positions_shape a.shape ps))) _
        (ap not (by_false (is_shape (positions_shape a.shape ps)) ⊥ (λ s. none ((shapes_are_tested (positions_shape a.shape ps)).0 s)) (λ e. e)))

    pub all_pass : FitsSelected b (positions_shape a.shape ps) → domain_test a ps b ≡ false → in_axes o a.shape ps ≡ true → IsShape (positions_shape a.shape ps) → replacement o a ps b ≡ Ok (record a { cells = replaced o a ps b (indices (positions_shape a.shape ps)) a.cells })
    all_pass fits t on shape = to_limit fits t on ∙ passes_limit (positions_shape a.shape ps) _ shape

-- where all checks are passed, this is the replacement
pub can_replace : (o : ℤ) (a b : Array) (ps : List (Option Array)) (s : List ℕ) → CanReplace o a ps b s → replacement o a ps b ≡ Ok (record a { cells = replaced o a ps b (indices s) a.cells })
can_replace o a b ps s c =
    all_pass o a b ps c.count (subst (FitsSelected b) c.selected c.fits)
    (neither_false (list_any is_text_position ps) (kinds_differ a b) c.numbers c.kinds) c.on_axes (subst IsShape c.selected c.shape)
    ∙ ap (λ (ns : List ℕ). Ok (record a { cells = replaced o a ps b (indices ns) a.cells })) (sym c.selected)

-- how many lengths positions give together
pub rank_joined : (s : StoreView) (ns : List ℕ) (ps : List (Option Leaf)) → length ns ≡ length ps → sum_by axes_given ps ≡ length (positions_shape ns (positions_of s ps))
rank_joined s [] [] h = refl
rank_joined s [] (p ∷ ps) h = absurd (omega (arith, h))
rank_joined s (n ∷ ns) [] h = absurd (omega (arith, h))
rank_joined s (n ∷ ns) (None ∷ ps) h =
    omega (arith, rank_joined s ns ps (omega (arith, h)), sum_by-cons axes_given None ps, length-append (n ∷ []) (positions_shape ns (positions_of s ps)))
rank_joined s (n ∷ ns) (Some leaf ∷ ps) h =
    omega (arith, rank_joined s ns ps (omega (arith, h)), sum_by-cons axes_given (Some leaf) ps, length-append (leaf_shape leaf) (positions_shape ns (positions_of s ps)))

-- the shape selected, or that there is none
pub joined_fit : (r : Option (List ℕ)) (axes shape : List ℕ) (ps : List (Option Leaf)) → axes ≡ shape → IfSome r (λ s. (store : StoreView) → s ≡ positions_shape axes (positions_of store ps))
    → IfNone r ((store : StoreView) → ¬ (IsShape (positions_shape axes (positions_of store ps)))) → (store : StoreView)
    → MatchOption r (¬ (IsShape (positions_shape shape (positions_of store ps)))) (λ s. s ≡ positions_shape shape (positions_of store ps))
joined_fit None axes shape ps e some none store = subst (λ (ns : List ℕ). ¬ (IsShape (positions_shape ns (positions_of store ps)))) e (none store)
joined_fit (Some s) axes shape ps e some none store = subst (λ (ns : List ℕ). s ≡ positions_shape ns (positions_of store ps)) e (some store)

pub fit_some : {X : Type 0} (r : Option X) (x : X) (P : Type 0) (Q : X → Type 0) → MatchOption r P Q → r ≡ Some x → Q x
fit_some None x P Q h e = absurd cc
fit_some (Some y) x P Q h e =
    let same : y ≡ x = cc in
    subst Q same h

pub fit_none : {X : Type 0} (r : Option X) (P : Type 0) (Q : X → Type 0) → MatchOption r P Q → r ≡ None → P
fit_none None P Q h e = h
fit_none (Some y) P Q h e = absurd cc

pub some_is : {X : Type 0} (r : Option X) (x : X) (Q : X → Type 0) → IfSome r Q → r ≡ Some x → Q x
some_is None x Q h e = absurd cc
some_is (Some y) x Q h e =
    let same : y ≡ x = cc in
    subst Q same h

-- how a value fits, or the error
pub fit_is : (b : Array) (ns : List ℕ) (r o : Option ErrorKind) → IsFit b ns r → r ≡ o → IsFit b ns o
fit_is b ns r o h e = subst (IsFit b ns) e h

pub domain_first : (a : Array) (ps : List (Option Array)) (b : Array) → list_any is_text_position ps ≡ true → list_any is_text_position ps || kinds_differ a b ≡ true
domain_first a ps b h = first_true (list_any is_text_position ps) (kinds_differ a b) h

pub domain_second : (a : Array) (ps : List (Option Array)) (b : Array) → kinds_differ a b ≡ true → list_any is_text_position ps || kinds_differ a b ≡ true
domain_second a ps b h = either_true (list_any is_text_position ps) (kinds_differ a b) h

pub domain_none : (a : Array) (ps : List (Option Array)) (b : Array) → list_any is_text_position ps ≡ false → kinds_differ a b ≡ false → list_any is_text_position ps || kinds_differ a b ≡ false
domain_none a ps b h g = neither_false (list_any is_text_position ps) (kinds_differ a b) h g
