-- How a subscript is answered.
use Rattle.std.proofs.Common.{◌≡◌, ◌≢◌, ◌==◌, ℕ, suc, ◌+◌, ◌<◌, ◌≤◌, Bool, true, false, not, ◌&&◌, ℤ, List, [], ◌∷◌, ◌++◌, length, map, take, get_or, Option, Some, None, Ok, Err, refl, sym, ap, subst, ◌∙◌, arith, append_assoc, add-one}
use Rattle.std.specs.List.{list_any}
use Rattle.std.proofs.lemmas.Bool.{eqb-true}
use Rattle.std.proofs.lemmas.List.{length-append, length-map, length-take-le, map-append}
use Rattle.std.proofs.Math.Seq.{take-suc, take-length}
use Rattle.apl_base.specs.declared.faults.ErrorKind.{ErrorKind}
use Rattle.apl_base.specs.declared.faults.ErrorKind.TheVariants as error
use Rattle.apl_base.specs.Array.{Array, IsShape}
use Rattle.apl_base.specs.Elements.{gathered}
use Rattle.apl_base.specs.Selection.{Position, whole, one, run, subscript_shape}
use Rattle.apl_base.proofs.Booleans.{by_false, eqb-same}
use Rattle.beating.specs.declared.selections.Item.{Item}
use Rattle.beating.specs.declared.selections.Item.TheVariants as item
use Rattle.beating.specs.Selecting.{position_of, ItemsFit}
use Rattle.apl_model.specs.Whole.{rank, is_shape, error_if, within_limit}
use Rattle.apl_model.specs.Subscript.{is_text_position, in_axes, positions_shape, positions_index, subscript}
use Rattle.apl_model_laws.proofs.Arrays.{shapes_are_tested}
use Rattle.pending_laws.specs.Subscripts.{IsItemAt, AreItems}
use Rattle.indexing_steps.specs.declared.choices.Choice.{Choice}
use Rattle.indexing_steps.specs.declared.choices.Choice.TheVariants.{Select, Refuse}
use Rattle.beating.specs.declared.selections.Selection.TheVariants as select
use Rattle.indexing_steps.specs.Choices.{IsChoice, IsFitted}
use Rattle.apl_model_laws.proofs.Refusals.{fails_if, fails_or, passes_if}
use Rattle.pending_laws.proofs.SubscriptLemmas.{item-axis, items-shape, shape-step}

-- ---- the lengths of a selection

-- one more axis
shape_push : (qs : List Position) (ns : List ℕ) (q : Position) (n : ℕ) → length qs ≡ length ns → subscript_shape (qs ++ q ∷ []) (ns ++ n ∷ []) ≡ subscript_shape qs ns ++ subscript_shape (q ∷ []) (n ∷ [])
shape_push [] [] q n h = refl
shape_push [] (m ∷ ns) q n h = absurd (omega (arith, h))
shape_push (p ∷ qs) [] q n h = absurd (omega (arith, h))
shape_push (p ∷ qs) (m ∷ ns) q n h =
    shape-step p (qs ++ q ∷ []) m (ns ++ n ∷ [])
    ∙ ap (λ (ks : List ℕ). subscript_shape (p ∷ []) (m ∷ []) ++ ks) (shape_push qs ns q n (omega (arith, h)))
    ∙ sym (append_assoc (subscript_shape (p ∷ []) (m ∷ [])) (subscript_shape qs ns) (subscript_shape (q ∷ []) (n ∷ [])))
    ∙ ap (λ (ks : List ℕ). ks ++ subscript_shape (q ∷ []) (n ∷ [])) (sym (shape-step p qs m ns))

-- so it goes with the first axes
pub lengths_more : (items : List Item) (ns : List ℕ) (k n : ℕ) (i : Item) → take (k + 1) items ≡ take k items ++ i ∷ [] → take (k + 1) ns ≡ take k ns ++ n ∷ [] → length (take k items) ≡ length (take k ns) →
    subscript_shape (map position_of (take (k + 1) items)) (take (k + 1) ns) ≡ subscript_shape (map position_of (take k items)) (take k ns) ++ subscript_shape (position_of i ∷ []) (n ∷ [])
lengths_more items ns k n i e f long =
    ap (λ (is : List Item). subscript_shape (map position_of is) (take (k + 1) ns)) e
    ∙ ap (λ (ms : List ℕ). subscript_shape (map position_of (take k items ++ i ∷ [])) ms) f
    ∙ ap (λ (qs : List Position). subscript_shape qs (take k ns ++ n ∷ [])) (map-append position_of (take k items) (i ∷ []))
    ∙ shape_push (map position_of (take k items)) (take k ns) (position_of i) n (length-map (take k items) position_of ∙ long)

shape_one : (q : Position) (n : ℕ) → length (subscript_shape (q ∷ []) (n ∷ [])) ≤ 1
shape_one whole n = omega arith
shape_one (one p) n = omega arith
shape_one (run from step count) n = omega arith

take_at : {A : Type 0} (xs : List A) (k : ℕ) (d x : A) → k < length xs → get_or xs k d ≡ x → take (k + 1) xs ≡ take k xs ++ x ∷ []
take_at {A} xs k d x below e = rw add-one (take-suc xs k d below ∙ ap (λ (y : A). take k xs ++ y ∷ []) e)

-- the lengths of the first axes
pub record AreKept (items : List Item) (ns : List ℕ) (k : ℕ) (lengths : List ℕ) : Type 0 where
  pub are : lengths ≡ subscript_shape (map position_of (take k items)) (take k ns)
  pub few : length lengths ≤ k

pub none_kept : (items : List Item) (ns lengths : List ℕ) → lengths ≡ [] → AreKept items ns 0 lengths
none_kept items ns lengths e = record { are = e; few = omega (arith, ap (λ (l : List ℕ). length l) e) }

pub kept_more : (items : List Item) (ns : List ℕ) (k n : ℕ) (i : Item) (lengths after : List ℕ) → AreKept items ns k lengths → length items ≡ length ns → k < length items → get_or items k item.All ≡ i → get_or ns k 0 ≡ n → after ≡ lengths ++ subscript_shape (position_of i ∷ []) (n ∷ []) → AreKept items ns (k + 1) after
kept_more items ns k n i lengths after h long below e f is =
    let first : length (take k items) ≡ length (take k ns) =
    length-take-le k items (omega arith) ∙ sym (length-take-le k ns (omega (arith, long))) in
    record {
      are =
          is ∙ ap (λ (l : List ℕ). l ++ subscript_shape (position_of i ∷ []) (n ∷ [])) h.are
          ∙ sym (lengths_more items ns k n i (take_at items k item.All i below e) (take_at ns k 0 n (omega (arith, below, long)) f) first);
      few =
          omega (arith, ap (λ (l : List ℕ). length l) is, length-append lengths (subscript_shape (position_of i ∷ []) (n ∷ [])), shape_one (position_of i) n, h.few);
    }

pub all_kept : (items : List Item) (ns : List ℕ) (k : ℕ) (lengths : List ℕ) → AreKept items ns k lengths → length items ≡ length ns → k ≡ length items → lengths ≡ subscript_shape (map position_of items) ns
all_kept items ns k lengths h long e =
    h.are
    ∙ ap (λ (is : List Item). subscript_shape (map position_of is) (take k ns)) (ap (λ (m : ℕ). take m items) e ∙ take-length items)
    ∙ ap (λ (ms : List ℕ). subscript_shape (map position_of items) ms) (ap (λ (m : ℕ). take m ns) (e ∙ long) ∙ take-length ns)

-- and their places are on their axes
pub items_fit : (o : ℤ) (ns : List ℕ) (ps : List (Option Array)) (items : List Item) → AreItems o ns ps items → ItemsFit items ns
items_fit o [] [] [] h = tt
items_fit o (n ∷ ns) (p ∷ ps) (i ∷ items) h = fit_first i n items ns (item_fits o n p i h.0) (items_fit o ns ps items h.1)
  where
    fit_first : (i : Item) (n : ℕ) (items : List Item) (ns : List ℕ) → ItemsFit (i ∷ []) (n ∷ []) → ItemsFit items ns → ItemsFit (i ∷ items) (n ∷ ns)
    fit_first item.All n items ns fits rest = rest
    fit_first (item.At at) n items ns fits rest = (fits.0, rest)
    fit_first (item.Run from step count) n items ns fits rest = (fits.0, rest)

    item_fits : (o : ℤ) (n : ℕ) (p : Option Array) (kept : Item) → IsItemAt o n p kept → ItemsFit (kept ∷ []) (n ∷ [])
    item_fits o n None kept h = subst (λ (i : Item). ItemsFit (i ∷ []) (n ∷ [])) (sym h) tt
    item_fits o n (Some p) kept h = h.places.fits
items_fit o [] [] (i ∷ items) h = absurd h
items_fit o [] (p ∷ ps) items h = absurd h
items_fit o (n ∷ ns) [] items h = absurd h
items_fit o (n ∷ ns) (p ∷ ps) [] h = absurd h

pub items_long : (o : ℤ) (ns : List ℕ) (ps : List (Option Array)) (items : List Item) → AreItems o ns ps items → length items ≡ length ns
items_long o [] [] [] h = refl
items_long o (n ∷ ns) (p ∷ ps) (i ∷ items) h = ap suc (items_long o ns ps items h.1)
items_long o [] [] (i ∷ items) h = absurd h
items_long o [] (p ∷ ps) items h = absurd h
items_long o (n ∷ ns) [] items h = absurd h
items_long o (n ∷ ns) (p ∷ ps) [] h = absurd h

pub items_axes : (o : ℤ) (ns : List ℕ) (ps : List (Option Array)) (items : List Item) → AreItems o ns ps items → in_axes o ns ps ≡ true
items_axes o [] [] [] h = refl
items_axes o (n ∷ ns) (p ∷ ps) (i ∷ items) h =
    ap (λ (t : Bool). t && in_axes o ns ps) (item-axis o n p i h.0) ∙ items_axes o ns ps items h.1
items_axes o [] [] (i ∷ items) h = absurd h
items_axes o [] (p ∷ ps) items h = absurd h
items_axes o (n ∷ ns) [] items h = absurd h
items_axes o (n ∷ ns) (p ∷ ps) [] h = absurd h

-- ---- errors

module _ (o : ℤ) (a : Array) (ps : List (Option Array)) where
  pub rank_fails : length ps ≢ length a.shape → subscript o a ps ≡ Err error.Rank
  rank_fails h =
      fails_if error.Rank (not (length ps == rank a)) _ (ap not (by_false (length ps == rank a) (length ps ≡ rank a) (eqb-true (length ps) (rank a)) (λ e. h e)))

  after_rank : length ps ≡ length a.shape → subscript o a ps ≡ error_if error.Domain (list_any is_text_position ps) (error_if error.Index (not (in_axes o a.shape ps)) (within_limit (positions_shape a.shape ps) (λ _. Ok (gathered (positions_shape a.shape ps) (positions_index o a.shape ps) a))))
  after_rank h = passes_if error.Rank (not (length ps == rank a)) _ (ap not (eqb-same (length ps) (rank a) h))

  pub domain_fails : length ps ≡ length a.shape → list_any is_text_position ps ≡ true → subscript o a ps ≡ Err error.Domain
  domain_fails h text = after_rank h ∙ fails_if error.Domain (list_any is_text_position ps) _ text

  after_domain : length ps ≡ length a.shape → list_any is_text_position ps ≡ false → subscript o a ps ≡ error_if error.Index (not (in_axes o a.shape ps)) (within_limit (positions_shape a.shape ps) (λ _. Ok (gathered (positions_shape a.shape ps) (positions_index o a.shape ps) a)))
  after_domain h text = after_rank h ∙ passes_if error.Domain (list_any is_text_position ps) _ text

  pub index_fails : length ps ≡ length a.shape → list_any is_text_position ps ≡ false → in_axes o a.shape ps ≡ false → subscript o a ps ≡ Err error.Index
  index_fails h text off = after_domain h text ∙ fails_if error.Index (not (in_axes o a.shape ps)) _ (ap not off)

  pub limit_fails : length ps ≡ length a.shape → list_any is_text_position ps ≡ false → in_axes o a.shape ps ≡ true → ¬ (IsShape (positions_shape a.shape ps)) → subscript o a ps ≡ Err error.Limit
  limit_fails h text on none =
      after_domain h text ∙ passes_if error.Index (not (in_axes o a.shape ps)) _ (ap not on)
      ∙ fails_or error.Limit (not (is_shape (positions_shape a.shape ps))) _
      (ap not (by_false (is_shape (positions_shape a.shape ps)) ⊥ (λ t. none ((shapes_are_tested (positions_shape a.shape ps)).0 t)) (λ b. b)))

-- ---- what is chosen

-- the items that fit are the selection that keeps the positions; those that don't are LIMIT ERROR
pub fitted_choice : (o : ℤ) (ns : List ℕ) (ps : List (Option Array)) (items : List Item) (choice : Choice) → list_any is_text_position ps ≡ false → length ps ≡ length ns → AreItems o ns ps items → IsFitted ns items choice → IsChoice o ns ps choice
fitted_choice o ns ps items (Select (select.Index given)) text long h f =
    (subst (AreItems o ns ps) (sym f.0) h, (items_fit o ns ps given.items (subst (AreItems o ns ps) (sym f.0) h), subst (λ (is : List Item). IsShape (subscript_shape (map position_of is) ns)) (sym f.0) f.1))
fitted_choice o ns ps items (Refuse kind) text long h f =
    λ a same.
    subst (λ (k : ErrorKind). subscript o a ps ≡ Err k) (sym f.0)
    (limit_fails o a ps (long ∙ ap (λ (ms : List ℕ). length ms) (sym same)) text
    (ap (λ (ms : List ℕ). in_axes o ms ps) same ∙ items_axes o ns ps items h)
    (λ shape. f.1 (subst IsShape (ap (λ (ms : List ℕ). positions_shape ms ps) same ∙ sym (items-shape o ns ps items h)) shape)))
fitted_choice o ns ps items other text long h f = absurd f
