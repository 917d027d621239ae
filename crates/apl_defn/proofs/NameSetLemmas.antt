-- Sets of texts, as the lists of the names that they hold.
use Rattle.std.proofs.Common.{◌≡◌, ℕ, Bool, true, false, not, IsTrue, List, [], ◌∷◌, map, ◌⊎◌, inl, inr, ◌↔◌, refl, sym, ap, subst, ◌∙◌}
use Rattle.std.specs.Prelude.{◌||◌}
use Rattle.std.specs.Bool.{OnFalse}
use Rattle.std.specs.BTreeSet.{insert_key}
use Rattle.std.specs.List.{AllByRecursion, IsAmong, list_any}
use Rattle.std.specs.Ordering.{is_eq, match_ordering}
use Rattle.std.specs.declared.cmp.Ordering.TheVariants.{Less, Equal, Greater}
use Rattle.std.specs.Str.{chars, encode_utf8_all}
use Rattle.std.specs.String.{string_bytes, string_cmp}
use Rattle.std.specs.declared.string.String.{String}
use Rattle.std.proofs.lemmas.Map.Lookups.{exact_bytes}
use Rattle.std.proofs.lemmas.Map.Text.{is_eq-slice_cmp}
use Rattle.std.proofs.lemmas.Slice.Eq.{bytes_eq-Decides}
use Rattle.apl_model.proofs.Accepted.{among_here, among_there, among_cases, among_none}

abbrev pub IsText : {Z : Type 0} → String Z → Type 0
IsText t = encode_utf8_all (chars (string_bytes t)) ≡ string_bytes t

abbrev pub AreTexts : {Z : Type 0} → List (String Z) → Type 0
AreTexts ts = AllByRecursion (λ t. encode_utf8_all (chars (string_bytes t)) ≡ string_bytes t) ts

abbrev pub names_of : {Z : Type 0} → List (String Z) → List (List ℕ)
names_of ts = map (λ t. chars (string_bytes t)) ts

-- texts with the same characters are the same
same_texts : {Z : Type 0} (t u : String Z) → IsText t → IsText u → chars (string_bytes t) ≡ chars (string_bytes u) → string_bytes t ≡ string_bytes u
same_texts t u h k e = sym h ∙ ap encode_utf8_all e ∙ k

compared_same : {Z : Type 0} (t u : String Z) → string_bytes t ≡ string_bytes u → is_eq (string_cmp t u) ≡ true
compared_same t u e = is_eq-slice_cmp (string_bytes t) (string_bytes u) ∙ (bytes_eq-Decides (string_bytes t) (string_bytes u)).1 e

-- a set stays one of texts
pub texts_added : {Z : Type 0} (ts : List (String Z)) (t : String Z) → AreTexts ts → IsText t → AreTexts (insert_key string_cmp ts t)
texts_added [] t h k = (k, tt)
texts_added (u ∷ ts) t h k = elim (string_cmp t u) as (λ o. AreTexts (match_ordering o (t ∷ u ∷ ts) (u ∷ ts) (u ∷ insert_key string_cmp ts t))) [
  | Less ↦ (k, h)
  | Equal ↦ h
  | Greater ↦ (h.0, texts_added ts t h.1 k)
]

-- the names that a set has after a text is added: no others
pub names_were : {Z : Type 0} (ts : List (String Z)) (t : String Z) (n : List ℕ) → IsAmong (names_of (insert_key string_cmp ts t)) n →
    (n ≡ chars (string_bytes t)) ⊎ IsAmong (names_of ts) n
names_were [] t n m = among_cases [] (chars (string_bytes t)) n m
names_were (u ∷ ts) t n m = elim (string_cmp t u) as (λ o. IsAmong (names_of (match_ordering o (t ∷ u ∷ ts) (u ∷ ts) (u ∷ insert_key string_cmp ts t))) n →
    (n ≡ chars (string_bytes t)) ⊎ IsAmong (names_of (u ∷ ts)) n) [
      | Less ↦ λ m. among_cases (names_of (u ∷ ts)) (chars (string_bytes t)) n m
      | Equal ↦ λ m. inr m
      | Greater ↦ λ m. elim (among_cases (names_of (insert_key string_cmp ts t)) (chars (string_bytes u)) n m) [
        | inl e ↦ inr (among_here (names_of ts) (chars (string_bytes u)) n e)
        | inr k ↦ elim (names_were ts t n k) [
          | inl e ↦ inl e
          | inr l ↦ inr (among_there (names_of ts) (chars (string_bytes u)) n l)
        ]
      ]
    ] m

-- the names that it had stay
pub names_stay : {Z : Type 0} (ts : List (String Z)) (t : String Z) (n : List ℕ) → IsAmong (names_of ts) n → IsAmong (names_of (insert_key string_cmp ts t)) n
names_stay [] t n m = absurd (among_none n m)
names_stay (u ∷ ts) t n m = elim (string_cmp t u) as (λ o. IsAmong (names_of (match_ordering o (t ∷ u ∷ ts) (u ∷ ts) (u ∷ insert_key string_cmp ts t))) n) [
  | Less ↦ among_there (names_of (u ∷ ts)) (chars (string_bytes t)) n m
  | Equal ↦ m
  | Greater ↦ elim (among_cases (names_of ts) (chars (string_bytes u)) n m) [
    | inl e ↦ among_here (names_of (insert_key string_cmp ts t)) (chars (string_bytes u)) n e
    | inr k ↦ among_there (names_of (insert_key string_cmp ts t)) (chars (string_bytes u)) n (names_stay ts t n k)
  ]
]

-- and the text's own is there
pub name_comes : {Z : Type 0} (ts : List (String Z)) (t : String Z) → IsAmong (names_of (insert_key string_cmp ts t)) (chars (string_bytes t))
name_comes [] t = among_here [] (chars (string_bytes t)) (chars (string_bytes t)) refl
name_comes (u ∷ ts) t = elim (string_cmp t u) as (λ o. string_cmp t u ≡ o → IsAmong (names_of (match_ordering o (t ∷ u ∷ ts) (u ∷ ts) (u ∷ insert_key string_cmp ts t))) (chars (string_bytes t))) [
  | Less ↦ λ e. among_here (names_of (u ∷ ts)) (chars (string_bytes t)) (chars (string_bytes t)) refl
  | Equal ↦ λ e. among_here (names_of ts) (chars (string_bytes u)) (chars (string_bytes t)) (ap chars (exact_bytes (string_bytes t) (string_bytes u) e))
  | Greater ↦ λ e. among_there (names_of (insert_key string_cmp ts t)) (chars (string_bytes u)) (chars (string_bytes t)) (name_comes ts t)
] refl

-- a set has a text where it has the name
pub met_is : {Z : Type 0} (ts : List (String Z)) (t : String Z) → list_any (λ u. is_eq (string_cmp t u)) ts ≡ true → IsAmong (names_of ts) (chars (string_bytes t))
met_is [] t e = cc
met_is (u ∷ ts) t e = elim (string_cmp t u) as (λ o. string_cmp t u ≡ o → list_any (λ u. is_eq (string_cmp t u)) (u ∷ ts) ≡ true → IsAmong (names_of (u ∷ ts)) (chars (string_bytes t))) [
  | Less ↦ λ f g. among_there (names_of ts) (chars (string_bytes u)) (chars (string_bytes t)) (met_is ts t (rw f at g))
  | Equal ↦ λ f g. among_here (names_of ts) (chars (string_bytes u)) (chars (string_bytes t)) (ap chars (exact_bytes (string_bytes t) (string_bytes u) f))
  | Greater ↦ λ f g. among_there (names_of ts) (chars (string_bytes u)) (chars (string_bytes t)) (met_is ts t (rw f at g))
] refl e

pub is_met : {Z : Type 0} (ts : List (String Z)) (t : String Z) → AreTexts ts → IsText t → IsAmong (names_of ts) (chars (string_bytes t)) →
    list_any (λ u. is_eq (string_cmp t u)) ts ≡ true
is_met [] t h k m = absurd (among_none (chars (string_bytes t)) m)
is_met (u ∷ ts) t h k m = elim (among_cases (names_of ts) (chars (string_bytes u)) (chars (string_bytes t)) m) [
  | inl e ↦ rw (compared_same t u (same_texts t u k h.0 e)) refl
  | inr l ↦ rw (is_met ts t h.1 k l) (or_true (is_eq (string_cmp t u)))
]
  where
    or_true : (b : Bool) → (b || true) ≡ true
    or_true true = refl
    or_true false = refl

-- the bytes of a name are a text
pub text_of_name : {Z : Type 0} (t : String Z) (bytes n : List ℕ) → string_bytes t ≡ bytes → chars bytes ≡ n → bytes ≡ encode_utf8_all n → IsText t
text_of_name t bytes n e f g = ap (λ b. encode_utf8_all (chars b)) e ∙ ap encode_utf8_all f ∙ sym g ∙ sym e

-- what adding a text says of the names
module _ {Z : Type 0} (ts : List (String Z)) (t : String Z) (n : List ℕ) (own : chars (string_bytes t) ≡ n) where
  pub names_added : (us : List (String Z)) → us ≡ insert_key string_cmp ts t → (m : List ℕ) → IsAmong (names_of us) m ↔ ((m ≡ n) ⊎ IsAmong (names_of ts) m)
  names_added us e m = (there, back)
    where
      there : IsAmong (names_of us) m → (m ≡ n) ⊎ IsAmong (names_of ts) m
      there k = subst (λ v. (m ≡ v) ⊎ IsAmong (names_of ts) m) own (names_were ts t m (subst (λ v. IsAmong (names_of v) m) e k))

      back : (m ≡ n) ⊎ IsAmong (names_of ts) m → IsAmong (names_of us) m
      back (inl f) = subst (λ v. IsAmong (names_of v) m) (sym e) (subst (λ v. IsAmong (names_of (insert_key string_cmp ts t)) v) (own ∙ sym f) (name_comes ts t))
      back (inr k) = subst (λ v. IsAmong (names_of v) m) (sym e) (names_stay ts t m k)

  pub added_new : (added : Bool) → AreTexts ts → IsText t → added ≡ not (list_any (λ u. is_eq (string_cmp t u)) ts) → IsTrue added ↔ ¬ (IsAmong (names_of ts) n)
  added_new added texts text e = (
    λ h k. let f = ap not (is_met ts t texts text (subst (λ v. IsAmong (names_of ts) v) (sym own) k)) in false_true (sym (e ∙ f) ∙ h),
    λ h. e ∙ ap not (by_test (list_any (λ u. is_eq (string_cmp t u)) ts) (λ f. h (subst (λ v. IsAmong (names_of ts) v) own (met_is ts t f)))),
  )
    where
      false_true : false ≡ true → ⊥
      false_true e = cc

      by_test : (b : Bool) → (b ≡ true → ⊥) → b ≡ false
      by_test true f = absurd (f refl)
      by_test false f = refl

  pub added_met : (added : Bool) → added ≡ not (list_any (λ u. is_eq (string_cmp t u)) ts) → OnFalse added (IsAmong (names_of ts) n)
  added_met true e = tt
  added_met false e = subst (λ v. IsAmong (names_of ts) v) own (met_is ts t (by_test (list_any (λ u. is_eq (string_cmp t u)) ts) (sym e)))
    where
      by_test : (b : Bool) → not b ≡ false → b ≡ true
      by_test true f = refl
      by_test false f = cc
