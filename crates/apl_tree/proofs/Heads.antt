-- The look-up of a name among headings, one heading after the other.
use Rattle.std.proofs.Common.{◌≡◌, ℕ, ◌+◌, ◌<◌, true, false, List, ◌∷◌, length, get_or, drop, Some, sym, ap, ◌∙◌, cond}
use Rattle.std.proofs.lemmas.List.{at_drop_more}
use Rattle.apl_base.proofs.Booleans.{by_false}
use Rattle.apl_model.specs.Environment.{is_same_name}
use Rattle.apl_model.specs.Grammar.{arguments_of}
use Rattle.apl_model.specs.declared.tokens.Heading.{Heading}
use Rattle.std.specs.Cmp.Lexicographic.{bytes_decides}

same_of : (a b : List ℕ) → a ≡ b → is_same_name a b ≡ true
same_of a b e = (bytes_decides a b).1 e

other_of : (a b : List ℕ) → (a ≡ b → ⊥) → is_same_name a b ≡ false
other_of a b n = by_false (is_same_name a b) (a ≡ b) (bytes_decides a b).0 n

-- the heading at a place that has the name
pub heads_here : (hs : List Heading) (i : ℕ) (h : Heading) (n : List ℕ) → i < length hs → h ≡ get_or hs i h → h.name ≡ n →
    arguments_of (drop i hs) n ≡ Some h.arguments
heads_here hs i h n l e s =
    at_drop_more (λ ks. arguments_of ks n) hs i h l
    ∙ ap (λ (k : Heading). arguments_of (k ∷ drop (i + 1) hs) n) (sym e)
    ∙ ap (λ b. cond b (Some h.arguments) (arguments_of (drop (i + 1) hs) n)) (same_of h.name n s)

-- and one that has another name
pub heads_on : (hs : List Heading) (i : ℕ) (h : Heading) (n : List ℕ) → i < length hs → h ≡ get_or hs i h → (h.name ≡ n → ⊥) →
    arguments_of (drop i hs) n ≡ arguments_of (drop (i + 1) hs) n
heads_on hs i h n l e s =
    at_drop_more (λ ks. arguments_of ks n) hs i h l
    ∙ ap (λ (k : Heading). arguments_of (k ∷ drop (i + 1) hs) n) (sym e)
    ∙ ap (λ b. cond b (Some h.arguments) (arguments_of (drop (i + 1) hs) n)) (other_of h.name n s)
