-- The pieces that the first tokens of a line come from.
use Rattle.std.proofs.Common.{◌≡◌, ℕ, suc, List, [], ◌∷◌, ◌++◌, take, ℤ, refl, sym, ap, subst, ◌∙◌}
use Rattle.apl_model.specs.Tokens.{Found, number, text, name, glyph, fault, Piece, number_before, tokens_of_pieces, IsSound, AreSound}
use Rattle.apl_model.specs.declared.tokens.Token.{Token}
use Rattle.apl_model.specs.declared.tokens.Word.{Word}
use Rattle.apl_model.specs.declared.tokens.Word.TheVariants as word

abbrev pub IsNumbers : Word → Type 0
IsNumbers (word.Numbers zs) = Unit {0}
IsNumbers (word.Chars zs) = ⊥
IsNumbers (word.Name n) = ⊥
IsNumbers (word.Glyph c) = ⊥

abbrev pub EndsInNumbers : List Token → Type 0
EndsInNumbers [] = ⊥
EndsInNumbers (t ∷ []) = IsNumbers t.word
EndsInNumbers (t ∷ u ∷ ts) = EndsInNumbers (u ∷ ts)

abbrev pub BeginsWithNumbers : List Token → Type 0
BeginsWithNumbers [] = ⊥
BeginsWithNumbers (t ∷ ts) = IsNumbers t.word

-- no numbers meet where these tokens are joined
abbrev pub AreApart : List Token → List Token → Type 0
AreApart ts us = EndsInNumbers ts → BeginsWithNumbers us → ⊥

pub record SplitBehind (ps : List Piece) (before : List Token) : Type 0 where
  pub j : ℕ
  pub same : (qs : List Piece) → AreApart before (tokens_of_pieces qs) → tokens_of_pieces (take j ps ++ qs) ≡ before ++ tokens_of_pieces qs

apart_tail : (t : Token) (ts us : List Token) → AreApart (t ∷ ts) us → AreApart ts us
apart_tail t [] us h e = absurd e
apart_tail t (u ∷ ts) us h e = h e

abbrev number_token : ℕ → ℕ → ℤ → Token
number_token x y z = record { from = x; past = y; word = word.Numbers (z ∷ []) }

by_word : (x y a b : ℕ) (z : ℤ) (w : Word) (ts : List Token) → (IsNumbers w → ⊥) →
    number_before x y z (record { from = a; past = b; word = w } ∷ ts) ≡ number_token x y z ∷ record { from = a; past = b; word = w } ∷ ts
by_word x y a b z (word.Numbers zs) ts h = absurd (h tt)
by_word x y a b z (word.Chars zs) ts h = refl
by_word x y a b z (word.Name n) ts h = refl
by_word x y a b z (word.Glyph c) ts h = refl

before_others : (x y : ℕ) (z : ℤ) (ts : List Token) → (BeginsWithNumbers ts → ⊥) → number_before x y z ts ≡ number_token x y z ∷ ts
before_others x y z [] h = refl
before_others x y z (t ∷ ts) h = by_word x y t.from t.past z t.word ts h

abbrev Splits : List Piece → Type 0
Splits ps = (before after : List Token) → tokens_of_pieces ps ≡ before ++ after → SplitBehind ps before

pub nil_clash : {t : Token} {ts : List Token} → [] ≡ t ∷ ts → ⊥
nil_clash e = cc

head_is : {t u : Token} {ts us : List Token} → t ∷ ts ≡ u ∷ us → t ≡ u
head_is e = cc

pub tail_is : {t u : Token} {ts us : List Token} → t ∷ ts ≡ u ∷ us → ts ≡ us
tail_is e = cc

-- a piece that is no number
by_other : (p : Piece) (ps : List Piece) (v b : Token) (bs after : List Token) → ((qs : List Piece) → tokens_of_pieces (p ∷ qs) ≡ v ∷ tokens_of_pieces qs) →
    tokens_of_pieces (p ∷ ps) ≡ b ∷ (bs ++ after) → Splits ps → SplitBehind (p ∷ ps) (b ∷ bs)
by_other p ps v b bs after f e rec =
    let g : v ∷ tokens_of_pieces ps ≡ b ∷ (bs ++ after) = sym (f ps) ∙ e in
    let r = rec bs after (tail_is g) in
    record {
      j = suc r.j;
      same = λ qs a. f (take r.j ps ++ qs) ∙ ap (λ (t : Token). t ∷ tokens_of_pieces (take r.j ps ++ qs)) (head_is g)
          ∙ ap (λ ts. b ∷ ts) (r.same qs (apart_tail b bs (tokens_of_pieces qs) a));
    }

abbrev number_piece : ℕ → ℕ → ℤ → Piece
number_piece x y z = record { from = x; past = y; found = number z }

-- a number before tokens that begin with another word
alone : (x y : ℕ) (z : ℤ) (ps : List Piece) (b : Token) (bs after : List Token) → number_token x y z ∷ tokens_of_pieces ps ≡ b ∷ (bs ++ after) →
    (BeginsWithNumbers (tokens_of_pieces ps) → ⊥) → Splits ps → SplitBehind (number_piece x y z ∷ ps) (b ∷ bs)
alone x y z ps b bs after g n rec =
    let r = rec bs after (tail_is g) in
    record {
      j = suc r.j;
      same = λ qs a.
          ap (number_before x y z) (r.same qs (apart_tail b bs (tokens_of_pieces qs) a))
          ∙ before_others x y z (bs ++ tokens_of_pieces qs) (apart bs (tail_is g) (tokens_of_pieces qs) a)
          ∙ ap (λ (t : Token). t ∷ (bs ++ tokens_of_pieces qs)) (head_is g);
    }
  where
    numbers : IsNumbers b.word
    numbers = subst (λ (t : Token). IsNumbers t.word) (head_is g) tt

    apart : (cs : List Token) → tokens_of_pieces ps ≡ cs ++ after → (us : List Token) → AreApart (b ∷ cs) us → BeginsWithNumbers (cs ++ us) → ⊥
    apart [] e us a h = a numbers h
    apart (c ∷ cs) e us a h = n (subst BeginsWithNumbers (sym e) h)

-- a number before other numbers
joined : (x y p q : ℕ) (z : ℤ) (zs : List ℤ) (ps : List Piece) (b : Token) (bs after ts : List Token) →
    tokens_of_pieces ps ≡ record { from = p; past = q; word = word.Numbers zs } ∷ ts →
    record { from = x; past = q; word = word.Numbers (z ∷ zs) } ∷ ts ≡ b ∷ (bs ++ after) → Splits ps → SplitBehind (number_piece x y z ∷ ps) (b ∷ bs)
joined x y p q z zs ps b bs after ts e g rec =
    let t : Token = record { from = p; past = q; word = word.Numbers zs } in
    let r = rec (t ∷ bs) after (e ∙ ap (λ us. t ∷ us) (tail_is g)) in
    record {
      j = suc r.j;
      same = λ qs a.
          ap (number_before x y z) (r.same qs (apart bs (tokens_of_pieces qs) a))
          ∙ ap (λ (u : Token). u ∷ (bs ++ tokens_of_pieces qs)) (head_is g);
    }
  where
    numbers : IsNumbers b.word
    numbers = subst (λ (t : Token). IsNumbers t.word) (head_is g) tt

    apart : (cs us : List Token) → AreApart (b ∷ cs) us → AreApart (record { from = p; past = q; word = word.Numbers zs } ∷ cs) us
    apart [] us a h = a numbers
    apart (c ∷ cs) us a h = a h

by_number : (x y : ℕ) (z : ℤ) (ps : List Piece) (b : Token) (bs after : List Token) (ts : List Token) → tokens_of_pieces ps ≡ ts →
    number_before x y z ts ≡ b ∷ (bs ++ after) → Splits ps → SplitBehind (number_piece x y z ∷ ps) (b ∷ bs)
by_number x y z ps b bs after [] e g rec =
    alone x y z ps b bs after (ap (λ us. number_token x y z ∷ us) e ∙ g) (λ h. subst BeginsWithNumbers e h) rec
by_number x y z ps b bs after (t ∷ ts) e g rec = by_first t.from t.past t.word ts e g
  where
    by_first : (p q : ℕ) (w : Word) (ts : List Token) → tokens_of_pieces ps ≡ record { from = p; past = q; word = w } ∷ ts →
        number_before x y z (record { from = p; past = q; word = w } ∷ ts) ≡ b ∷ (bs ++ after) → SplitBehind (number_piece x y z ∷ ps) (b ∷ bs)
    by_first p q (word.Numbers zs) ts e g = joined x y p q z zs ps b bs after ts e g rec
    by_first p q (word.Chars zs) ts e g = alone x y z ps b bs after (ap (λ us. number_token x y z ∷ us) e ∙ g) (λ h. subst BeginsWithNumbers e h) rec
    by_first p q (word.Name n) ts e g = alone x y z ps b bs after (ap (λ us. number_token x y z ∷ us) e ∙ g) (λ h. subst BeginsWithNumbers e h) rec
    by_first p q (word.Glyph c) ts e g = alone x y z ps b bs after (ap (λ us. number_token x y z ∷ us) e ∙ g) (λ h. subst BeginsWithNumbers e h) rec

abbrev text_token : ℕ → ℕ → List ℕ → Token
text_token x y cs = first_of (tokens_of_pieces (record { from = x; past = y; found = text cs } ∷ []))
  where
    first_of : List Token → Token
    first_of [] = record { from = x; past = y; word = word.Chars [] }
    first_of (t ∷ ts) = t

by_found : (x y : ℕ) (f : Found) (ps : List Piece) (b : Token) (bs after : List Token) → IsSound (record { from = x; past = y; found = f }) →
    tokens_of_pieces (record { from = x; past = y; found = f } ∷ ps) ≡ b ∷ (bs ++ after) → Splits ps → SplitBehind (record { from = x; past = y; found = f } ∷ ps) (b ∷ bs)
by_found x y (number z) ps b bs after s e rec = by_number x y z ps b bs after (tokens_of_pieces ps) refl e rec
by_found x y (text cs) ps b bs after s e rec = by_other (record { from = x; past = y; found = text cs }) ps (text_token x y cs) b bs after (λ qs. refl) e rec
by_found x y (name n) ps b bs after s e rec = by_other (record { from = x; past = y; found = name n }) ps (record { from = x; past = y; word = word.Name n }) b bs after (λ qs. refl) e rec
by_found x y (glyph g) ps b bs after s e rec = by_other (record { from = x; past = y; found = glyph g }) ps (record { from = x; past = y; word = word.Glyph g }) b bs after (λ qs. refl) e rec
by_found x y (fault c) ps b bs after s e rec = absurd s

pub split : (ps : List Piece) → AreSound ps → Splits ps
split ps s [] after e = record { j = 0; same = λ qs a. refl }
split [] s (b ∷ bs) after e = absurd (nil_clash e)
split (p ∷ ps) s (b ∷ bs) after e = by_found p.from p.past p.found ps b bs after s.0 e (split ps s.1)
