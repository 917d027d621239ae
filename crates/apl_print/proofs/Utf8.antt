-- Texts as bytes.
use Rattle.std.proofs.Common.{◌≡◌, ℕ, ◌^◌, ◌<◌, Bool, true, ◌&&◌, nat_lt, List, [], ◌∷◌, ◌++◌, zero, suc, replicate, refl, ap, Result, Ok, Err, OnOk, OnErr, sym, ◌∙◌, subst, append_assoc, decimal, encode_utf8_all, arith}
use Rattle.std.proofs.lemmas.Bool.{and_parts, ltb-true}
use Rattle.std.proofs.lemmas.Str.{chars-encodes, encode_ascii, encodes-append, encodes-IsAscii}
use Rattle.std.proofs.lemmas.Fmt.{IsAscii-decimal}
use Rattle.std.specs.List.{AllByRecursion, flat_map}
use Rattle.std.specs.Str.{IsUtf8, chars}
use Rattle.apl_model.specs.Printed.{blank, newline}
use Rattle.apl_print.specs.Lines.{line_of}

-- ---- texts that are their own bytes

pub record IsOwn (bs : List ℕ) : Type 0 where
  pub same : encode_utf8_all bs ≡ bs

-- each is below 128
abbrev pub is_ascii : List ℕ → Bool
is_ascii [] = true
is_ascii (b ∷ bs) = nat_lt b 128 && is_ascii bs

own-cons : (b : ℕ) (bs : List ℕ) → b < 128 → IsOwn bs → IsOwn (b ∷ bs)
own-cons b bs h own = record { same = ap (λ xs. xs ++ encode_utf8_all bs) (encode_ascii b h) ∙ ap (λ xs. b ∷ xs) own.same }

pub own-nil : IsOwn []
own-nil = record { same = refl }

pub own-append : (xs ys : List ℕ) → IsOwn xs → IsOwn ys → IsOwn (xs ++ ys)
own-append xs ys p q = record { same = encodes-append xs ys ∙ ap (λ zs. zs ++ encode_utf8_all ys) p.same ∙ ap (λ zs. xs ++ zs) q.same }

-- a text whose test computes
pub own-test : (bs : List ℕ) → is_ascii bs ≡ true → IsOwn bs
own-test [] h = own-nil
own-test (b ∷ bs) h = let p = and_parts (nat_lt b 128) (is_ascii bs) h in own-cons b bs (ltb-true b 128 p.0) (own-test bs p.1)

-- blanks
pub own-blanks : (n : ℕ) → IsOwn (replicate n 32)
own-blanks zero = own-nil
own-blanks (suc n) = own-cons 32 (replicate n 32) (omega arith) (own-blanks n)

-- digits
pub own-decimal : (n : ℕ) → n < 2 ^ 64 → IsOwn (decimal n)
own-decimal n h = record { same = encodes-IsAscii (decimal n) (IsAscii-decimal n h) }

-- fields on a line
own-fields : (fields : List (List ℕ)) → AllByRecursion IsOwn fields → IsOwn (flat_map (λ f. blank ++ f) fields)
own-fields [] all = own-nil
own-fields (f ∷ fields) (p, all) = own-append (blank ++ f) (flat_map (λ f. blank ++ f) fields) (own-append blank f (own-cons 32 [] (omega arith) own-nil) p) (own-fields fields all)

pub own-line : (f : List ℕ) (fields : List (List ℕ)) → IsOwn f → AllByRecursion IsOwn fields → IsOwn (line_of (f ∷ fields))
own-line f fields p all = own-append (f ++ flat_map (λ f. blank ++ f) fields) newline (own-append f (flat_map (λ f. blank ++ f) fields) p (own-fields fields all)) (own-cons 10 [] (omega arith) own-nil)

-- a text is the bytes of its characters
pub bytes-of-chars : (bs : List ℕ) → IsUtf8 bs → encode_utf8_all (chars bs) ≡ bs
bytes-of-chars bs h = subst (λ xs. encode_utf8_all (chars xs) ≡ xs) h.1.1 (ap encode_utf8_all (chars-encodes h.0 h.1.0))

-- ---- texts that are added

-- a text behind another one
abbrev pub Adds : List ℕ → List ℕ → List ℕ → Type 0
Adds old new text = new ≡ old ++ encode_utf8_all text

pub adds-own : (old new text : List ℕ) → new ≡ old ++ text → IsOwn text → Adds old new text
adds-own old new text e own = e ∙ ap (λ xs. old ++ xs) (sym own.same)

pub adds-then : (old between new a b : List ℕ) → Adds old between a → Adds between new b → Adds old new (a ++ b)
adds-then old between new a b p q =
    q ∙ ap (λ xs. xs ++ encode_utf8_all b) p ∙ append_assoc old (encode_utf8_all a) (encode_utf8_all b) ∙ ap (λ xs. old ++ xs) (sym (encodes-append a b))

-- what holds of an answer holds of it in another form
pub on-ok : {T E : Type 0} (r : Result T E) (P Q : Type 0) → (P → Q) → OnOk r P → OnOk r Q
on-ok (Ok x) P Q so p = so p
on-ok (Err e) P Q so p = tt

-- the same bytes in another form
pub adds-as : (old new a b : List ℕ) → Adds old new a → a ≡ b → Adds old new b
adds-as old new a b p e = p ∙ ap (λ xs. old ++ encode_utf8_all xs) e

-- what holds anyway holds of an error
pub on-err : {T E : Type 0} (r : Result T E) (P : Type 0) → P → OnErr r P
on-err (Ok x) P p = tt
on-err (Err e) P p = p

pub on-err-so : {T E : Type 0} (r : Result T E) (P Q : Type 0) → (P → Q) → OnErr r P → OnErr r Q
on-err-so (Ok x) P Q so p = tt
on-err-so (Err e) P Q so p = so p
