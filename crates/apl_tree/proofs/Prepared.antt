-- A map that is prepared from one heading after the other.
use Rattle.std.proofs.Common.{◌≡◌, ℕ, ◌+◌, ◌<◌, Bool, true, false, cond, List, [], ◌∷◌, ◌++◌, length, take, get_or, String, BTreeMap, Option, None, Some, refl, sym, ap, ◌∙◌}
use Rattle.std.proofs.lemmas.List.{take_more}
use Rattle.std.specs.BTreeMap.{IsEmpty, get_by_text}
use Rattle.std.specs.Cmp.Lexicographic.{bytes_decides}
use Rattle.std.specs.Map.{update}
use Rattle.std.specs.Option.{is_some}
use Rattle.std.specs.Str.{bytes_eq, chars, IsUtf8}
use Rattle.apl_model.specs.Environment.{is_same_name}
use Rattle.apl_model.specs.Grammar.{arguments_of}
use Rattle.apl_model.specs.declared.tokens.Heading.{Heading}
use Rattle.apl_tree.specs.Prepared.{Answers}
use Rattle.apl_model.proofs.SameNames.{same_tests}

-- ---- One heading more at the end ----

-- the second answer, where there is no first one
abbrev or_else : Option ℕ → Option ℕ → Option ℕ
or_else None y = y
or_else (Some x) y = Some x

by_first : (b : Bool) (x : ℕ) (y z : Option ℕ) → cond b (Some x) (or_else y z) ≡ or_else (cond b (Some x) y) z
by_first true x y z = refl
by_first false x y z = refl

arguments_of-append : (hs : List Heading) (h : Heading) (n : List ℕ) → arguments_of (hs ++ h ∷ []) n ≡ or_else (arguments_of hs n) (cond (is_same_name h.name n) (Some h.arguments) None)
arguments_of-append [] h n = refl
arguments_of-append (k ∷ hs) h n =
    ap (λ o. cond (is_same_name k.name n) (Some k.arguments) o) (arguments_of-append hs h n)
    ∙ by_first (is_same_name k.name n) k.arguments (arguments_of hs n) (cond (is_same_name h.name n) (Some h.arguments) None)

-- ---- One heading more in the map ----

present_by : (b : Bool) (x : Option ℕ) (k : ℕ) → (b ≡ true → is_some x ≡ true) → x ≡ or_else x (cond b (Some k) None)
present_by true None k f = let e = f refl in cc
present_by false None k f = refl
present_by b (Some x) k f = refl

inserted_by : (b : Bool) (x : Option ℕ) (k : ℕ) → (b ≡ true → is_some x ≡ false) → cond b (Some k) x ≡ or_else x (cond b (Some k) None)
inserted_by true None k f = refl
inserted_by false None k f = refl
inserted_by true (Some x) k f = let e = f refl in cc
inserted_by false (Some x) k f = refl

module _ {Y : Type 0} where
  pub answers_none : (m : BTreeMap (String Y) ℕ) → IsEmpty m → Answers m []
  answers_none m e = λ bs u. rw e refl

  module _ (m : BTreeMap (String Y) ℕ) (hs : List Heading) (i : ℕ) (h : Heading) (text : List ℕ) (within : i < length hs) (is : h ≡ get_or hs i h)
      (utf8 : IsUtf8 text) (spells : chars text ≡ h.name) (answers : Answers m (take i hs)) where
    more : (bs : List ℕ) → IsUtf8 bs → arguments_of (take (i + 1) hs) (chars bs) ≡ or_else (get_by_text m bs) (cond (bytes_eq text bs) (Some h.arguments) None)
    more bs v =
        ap (λ ks. arguments_of ks (chars bs)) (take_more hs i h within ∙ ap (λ k. take i hs ++ k ∷ []) (sym is))
        ∙ arguments_of-append (take i hs) h (chars bs)
        ∙ ap (λ o. or_else o (cond (is_same_name h.name (chars bs)) (Some h.arguments) None)) (sym (answers bs v))
        ∙ ap (λ b. or_else (get_by_text m bs) (cond b (Some h.arguments) None)) (same_tests text bs h.name utf8 v spells)

    at_text : {A : Type 0} (f : List ℕ → A) (bs : List ℕ) (x : A) → f text ≡ x → bytes_eq text bs ≡ true → f bs ≡ x
    at_text f bs x e s = ap f (sym ((bytes_decides text bs).0 s)) ∙ e

    -- a name that is there already keeps its answer
    pub answers_present : is_some (get_by_text m text) ≡ true → Answers m (take (i + 1) hs)
    answers_present p = λ bs v.
        present_by (bytes_eq text bs) (get_by_text m bs) h.arguments (at_text (λ ds. is_some (get_by_text m ds)) bs true p) ∙ sym (more bs v)

    -- another one gets the heading's
    pub answers_inserted : (n : BTreeMap (String Y) ℕ) → is_some (get_by_text m text) ≡ false →
        ((bs : List ℕ) → get_by_text n bs ≡ update bytes_eq (get_by_text m) text (Some h.arguments) bs) → Answers n (take (i + 1) hs)
    answers_inserted n p f = λ bs v.
        f bs ∙ inserted_by (bytes_eq text bs) (get_by_text m bs) h.arguments (at_text (λ ds. is_some (get_by_text m ds)) bs false p) ∙ sym (more bs v)
