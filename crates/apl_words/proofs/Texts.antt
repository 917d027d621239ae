-- Texts with numbers in them, as bytes.
use Rattle.std.proofs.Common.{◌≡◌, ℕ, suc, ◌^◌, ◌<◌, List, ◌++◌, refl, ap, sym, ◌∙◌, append_assoc, decimal, encode_utf8_all}
use Rattle.std.proofs.lemmas.Str.{encodes-append, encodes-IsAscii}
use Rattle.std.proofs.lemmas.Fmt.{IsAscii-decimal}
use Rattle.apl_words.specs.Workload.{first_lines, last_lines, line_by, lines_after, next_seed, workload_text}

-- digits are their own bytes
own_digits : (n : ℕ) → n < 2 ^ 64 → encode_utf8_all (decimal n) ≡ decimal n
own_digits n h = encodes-IsAscii (decimal n) (IsAscii-decimal n h)

-- a number between two texts
around : (before after a b : List ℕ) (n : ℕ) → n < 2 ^ 64 → before ≡ encode_utf8_all a → after ≡ encode_utf8_all b
    → before ++ decimal n ++ after ≡ encode_utf8_all (a ++ decimal n ++ b)
around before after a b n h first last =
    ap (λ t. t ++ decimal n ++ after) first
    ∙ ap (λ t. encode_utf8_all a ++ decimal n ++ t) last
    ∙ ap (λ t. encode_utf8_all a ++ t ++ encode_utf8_all b) (sym (own_digits n h))
    ∙ ap (λ t. t ++ encode_utf8_all b) (sym (encodes-append a (decimal n)))
    ∙ sym (encodes-append (a ++ decimal n) b)

-- such a text is added
pub adds : (old new before after a b text : List ℕ) (n : ℕ) → n < 2 ^ 64 → before ≡ encode_utf8_all a → after ≡ encode_utf8_all b
    → text ≡ a ++ decimal n ++ b → new ≡ old ++ before ++ decimal n ++ after → new ≡ old ++ encode_utf8_all text
adds old new before after a b text n h first last is e =
    e ∙ ap (λ t. t ++ after) (append_assoc old before (decimal n)) ∙ append_assoc old (before ++ decimal n) after
    ∙ ap (λ t. old ++ t) (around before after a b n h first last) ∙ ap (λ t. old ++ encode_utf8_all t) (sym is)

-- one text is added after another
pub adds_then : (old mid new first second text : List ℕ) → text ≡ first ++ second → mid ≡ old ++ encode_utf8_all first
    → new ≡ mid ++ encode_utf8_all second → new ≡ old ++ encode_utf8_all text
adds_then old mid new first second text is e f =
    f ∙ ap (λ t. t ++ encode_utf8_all second) e ∙ append_assoc old (encode_utf8_all first) (encode_utf8_all second)
    ∙ ap (λ t. old ++ t) (sym (encodes-append first second)) ∙ ap (λ t. old ++ encode_utf8_all t) (sym is)

-- a text without a number is added
pub adds_plain : (old new bytes a text : List ℕ) → bytes ≡ encode_utf8_all a → text ≡ a → new ≡ old ++ bytes → new ≡ old ++ encode_utf8_all text
adds_plain old new bytes a text first is e = e ∙ ap (λ t. old ++ t) first ∙ ap (λ t. old ++ encode_utf8_all t) (sym is)

-- a number between two texts is added after another text
pub adds_more : (old mid new before after a b first text : List ℕ) (n : ℕ) → n < 2 ^ 64 → before ≡ encode_utf8_all a → after ≡ encode_utf8_all b
    → text ≡ first ++ (a ++ decimal n ++ b) → mid ≡ old ++ encode_utf8_all first → new ≡ mid ++ before ++ decimal n ++ after
    → new ≡ old ++ encode_utf8_all text
adds_more old mid new before after a b first text n h begin last is e f =
    adds_then old mid new first (a ++ decimal n ++ b) text is e (adds mid new before after a b (a ++ decimal n ++ b) n h begin last refl f)

-- so many lines are still to be written, from a seed on
pub record Written (bytes : List ℕ) (k left seed : ℕ) : Type 0 where
  pub whole : bytes ++ encode_utf8_all (lines_after left seed ++ last_lines) ≡ encode_utf8_all (workload_text k)

-- none is written yet
pub written_none : (bytes : List ℕ) (k : ℕ) → bytes ≡ encode_utf8_all first_lines → Written bytes k 5000 k
written_none bytes k e = record {
  whole = ap (λ t. t ++ encode_utf8_all (lines_after 5000 k ++ last_lines)) e
      ∙ sym (encodes-append first_lines (lines_after 5000 k ++ last_lines))
      ∙ ap encode_utf8_all (sym (append_assoc first_lines (lines_after 5000 k) last_lines));
}

-- one more
pub written_more : (bytes more : List ℕ) (k left seed : ℕ) → Written bytes k (suc left) seed → more ≡ bytes ++ encode_utf8_all (line_by (next_seed seed))
    → Written more k left (next_seed seed)
written_more bytes more k left seed w e =
    let line : List ℕ = line_by (next_seed seed) in
    let rest : List ℕ = lines_after left (next_seed seed) ++ last_lines in
    record {
      whole = ap (λ t. t ++ encode_utf8_all rest) e ∙ append_assoc bytes (encode_utf8_all line) (encode_utf8_all rest)
          ∙ ap (λ t. bytes ++ t) (sym (encodes-append line rest))
          ∙ ap (λ t. bytes ++ encode_utf8_all t) (sym (append_assoc line (lines_after left (next_seed seed)) last_lines)) ∙ w.whole;
    }

-- all of them
pub written_all : (bytes new : List ℕ) (k seed : ℕ) → Written bytes k 0 seed → new ≡ bytes ++ encode_utf8_all last_lines → new ≡ encode_utf8_all (workload_text k)
written_all bytes new k seed w e = e ∙ w.whole
