-- Names are the same just where their characters are, and a test of texts is one of names.
use Rattle.std.proofs.Common.{◌≡◌, ℕ, Bool, true, false, List, refl, sym, ap, ◌∙◌}
use Rattle.std.proofs.lemmas.Str.{encodes-chars}
use Rattle.std.specs.Cmp.Lexicographic.{bytes_decides}
use Rattle.std.specs.Str.{bytes_eq, chars, IsUtf8}
use Rattle.apl_model.specs.Environment.{is_same_name}
use lib.Utf8.{encodes}

-- a name is the same as itself
pub same_self : (name : List ℕ) → is_same_name name name ≡ true
same_self name = (bytes_decides name name).1 refl

-- names that pass the test are the same
pub same_name_is : (a b : List ℕ) → is_same_name a b ≡ true → a ≡ b
same_name_is a b e = (bytes_decides a b).0 e

-- texts are the same where their characters are
pub same_texts : (a b : List ℕ) → IsUtf8 a → IsUtf8 b → chars a ≡ chars b → a ≡ b
same_texts a b u v e = sym (encodes-chars a u) ∙ ap encodes e ∙ encodes-chars b v

-- a test of texts is one of names
pub same_tests : (text bs name : List ℕ) → IsUtf8 text → IsUtf8 bs → chars text ≡ name → is_same_name name (chars bs) ≡ bytes_eq text bs
same_tests text bs name u v e = by (bytes_eq text bs) refl (is_same_name name (chars bs)) refl
  where
    both : true ≡ false → ⊥
    both c = cc

    by : (b : Bool) → bytes_eq text bs ≡ b → (s : Bool) → is_same_name name (chars bs) ≡ s → s ≡ b
    by true f true g = refl
    by false f false g = refl
    by true f false g = absurd (both (sym ((bytes_decides name (chars bs)).1 (sym e ∙ ap chars ((bytes_decides text bs).0 f))) ∙ g))
    by false f true g = absurd (both (sym ((bytes_decides text bs).1 (same_texts text bs u v (e ∙ (bytes_decides name (chars bs)).0 g))) ∙ f))
