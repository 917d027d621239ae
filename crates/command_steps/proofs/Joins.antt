-- Names joined one after the other.
use Rattle.std.proofs.Common.{◌≡◌, ℕ, zero, suc, ◌+◌, ◌<◌, ◌==◌, Bool, true, false, List, [], ◌∷◌, ◌++◌, take, length, get_or, refl, ap, sym, ◌∙◌, append_assoc, append-nil, encode_utf8_all, if◌then◌else◌}
use Rattle.std.specs.List.{flat_map, join_by}
use Rattle.std.proofs.Common.{arith}
use Rattle.std.proofs.Math.Dec.{eqb-suc-zero}
use Rattle.std.proofs.lemmas.Grind.{flat_map-append}
use Rattle.std.proofs.lemmas.List.{take_more}
use Rattle.std.proofs.lemmas.Str.{encodes-append}
use Rattle.apl_model.specs.Printed.{blank, newline}
use Rattle.command_steps.specs.Obeyed.{line_of_names}

-- names joined by one blank
abbrev pub joined : List (List ℕ) → List ℕ
joined names = join_by (λ n. n) blank names

abbrev pub is_none : List (List ℕ) → Bool
is_none [] = true
is_none (n ∷ ns) = false

-- one more
joined_push : (names : List (List ℕ)) (name : List ℕ) → joined (names ++ name ∷ []) ≡ joined names ++ (if is_none names then name else blank ++ name)
joined_push [] name = append-nil name
joined_push (n ∷ ns) name =
    ap (λ t. n ++ t) (flat_map-append (λ y. blank ++ y) ns (name ∷ []) ∙ ap (λ t. flat_map (λ y. blank ++ y) ns ++ t) (append-nil (blank ++ name)))
    ∙ sym (append_assoc n (flat_map (λ y. blank ++ y) ns) (blank ++ name))

none_taken : (names : List (List ℕ)) (at : ℕ) → at < length names → is_none (take at names) ≡ (at == 0)
none_taken [] at h = absurd (omega arith)
none_taken (n ∷ ns) zero h = refl
none_taken (n ∷ ns) (suc at) h = sym (eqb-suc-zero at)

-- what was written is the first names joined, and one more name was added
pub joined_more : (names : List (List ℕ)) (at : ℕ) (old new : List ℕ) (first : Bool) (name d : List ℕ) → at < length names → name ≡ get_or names at d
    → first ≡ (at == 0) → old ≡ encode_utf8_all (joined (take at names)) → new ≡ old ++ encode_utf8_all (if first then name else blank ++ name)
    → new ≡ encode_utf8_all (joined (take (at + 1) names))
joined_more names at old new first name d inside is begins e f =
    f ∙ ap (λ t. t ++ encode_utf8_all (if first then name else blank ++ name)) e
    ∙ sym (encodes-append (joined (take at names)) (if first then name else blank ++ name))
    ∙ ap (λ b. encode_utf8_all (joined (take at names) ++ (if b then name else blank ++ name))) (begins ∙ sym (none_taken names at inside))
    ∙ ap encode_utf8_all (sym (joined_push (take at names) name))
    ∙ ap (λ ns. encode_utf8_all (joined ns)) (sym (take_more names at d inside ∙ ap (λ x. take at names ++ x ∷ []) (sym is)))

-- the newline behind them
pub joined_line : (names : List (List ℕ)) (old new : List ℕ) → old ≡ encode_utf8_all (joined names) → new ≡ old ++ encode_utf8_all newline
    → new ≡ encode_utf8_all (line_of_names names)
joined_line names old new e f = f ∙ ap (λ t. t ++ encode_utf8_all newline) e ∙ sym (encodes-append (joined names) newline)
