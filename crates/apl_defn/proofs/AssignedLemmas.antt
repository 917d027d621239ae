-- Heading names directly before ←, from one place of a line to the next.
use Rattle.std.proofs.Common.{◌≡◌, ℕ, ◌+◌, ◌-◌, ◌<◌, List, ◌∷◌, ◌++◌, length, take, drop, Option, ◌⊎◌, inl, inr, sym, ap, subst, ◌∙◌, arith, length-append, length-drop}
use Rattle.std.proofs.lemmas.Bool.{cases_lt}
use Rattle.std.proofs.lemmas.List.{take-append-drop, take_all}
use Rattle.std.proofs.Math.Seq.{drop-append_seam}
use Rattle.apl_base.specs.declared.faults.Refusal.{Refusal}
use Rattle.apl_model.specs.declared.tokens.Heading.{Heading}
use Rattle.apl_model.specs.declared.tokens.Line.{Line}
use Rattle.apl_model.specs.declared.tokens.Token.{Token}
use Rattle.apl_model.specs.Refusal.{IsFirstIfAny}
use Rattle.apl_defn.proofs.EarlierLemmas.{earlier_first, first_like}
use Rattle.apl_defn.specs.Earliest.{earlier}
use Rattle.apl_defn.specs.NameRules.{IsAssigned}
use Rattle.apl_defn.specs.Occurrences.{IsAssignedFirst}

-- one that stands at a place below k
pub record IsAssignedBelow (hs : List Heading) (n : ℕ) (ts : List Token) (k : ℕ) (r : Refusal) : Type 0 where
  pub at : ℕ
  pub below : at < k
  pub here : IsAssignedFirst hs n (drop at ts) r

-- the first one so far
pub record IsFirstAssigned (hs : List Heading) (n : ℕ) (ts : List Token) (k : ℕ) (a : Option Refusal) : Type 0 where
  pub first : IsFirstIfAny (IsAssignedBelow hs n ts k) a

pub assigned_more : (hs : List Heading) (n : ℕ) (ts : List Token) (k : ℕ) (a b : Option Refusal) → IsFirstAssigned hs n ts k a →
    IsFirstIfAny (IsAssignedFirst hs n (drop k ts)) b → IsFirstAssigned hs n ts (k + 1) (earlier a b)
assigned_more hs n ts k a b h g = record {
  first = first_like (λ r. IsAssignedBelow hs n ts k r ⊎ IsAssignedFirst hs n (drop k ts) r) (IsAssignedBelow hs n ts (k + 1)) (earlier a b) there back
      (earlier_first (IsAssignedBelow hs n ts k) (IsAssignedFirst hs n (drop k ts)) a b h.first g);
}
  where
    there : (r : Refusal) → IsAssignedBelow hs n ts k r ⊎ IsAssignedFirst hs n (drop k ts) r → IsAssignedBelow hs n ts (k + 1) r
    there r (inl x) = record { at = x.at; below = (let l = x.below in omega arith); here = x.here }
    there r (inr x) = record { at = k; below = omega arith; here = x }

    back : (r : Refusal) → IsAssignedBelow hs n ts (k + 1) r → IsAssignedBelow hs n ts k r ⊎ IsAssignedFirst hs n (drop k ts) r
    back r x = elim (cases_lt x.at k) [
      | inl l ↦ inl (record { at = x.at; below = l; here = x.here })
      | inr l ↦ inr (let b = x.below in let e : x.at ≡ k = omega arith in subst (λ v. IsAssignedFirst hs n (drop v ts) r) e x.here)
    ]

pub assigned_all : (hs : List Heading) (l : Line) (k : ℕ) (a : Option Refusal) → k ≡ length l.tokens → IsFirstAssigned hs l.number l.tokens k a → IsFirstIfAny (IsAssigned hs l) a
assigned_all hs l k a e h = first_like (IsAssignedBelow hs l.number l.tokens k) (IsAssigned hs l) a there back h.first
  where
    there : (r : Refusal) → IsAssignedBelow hs l.number l.tokens k r → IsAssigned hs l r
    there r x = let y = x.here in record {
      before = take x.at l.tokens;
      after = y.after;
      name_token = y.name_token;
      arrow = y.arrow;
      name = y.name;
      split = sym (take-append-drop x.at l.tokens) ∙ ap (λ us. take x.at l.tokens ++ us) y.split;
      named = y.named;
      assigns = y.assigns;
      heads = y.heads;
      is = y.is;
    }

    within : (before : List Token) (t : Token) (after : List Token) → l.tokens ≡ before ++ (t ∷ after) → length before < k
    within before t after f = omega (arith, e, ap length f, length-append before (t ∷ after))

    back : (r : Refusal) → IsAssigned hs l r → IsAssignedBelow hs l.number l.tokens k r
    back r x = record {
      at = length x.before;
      below = within x.before x.name_token (x.arrow ∷ x.after) x.split;
      here = record {
        after = x.after;
        name_token = x.name_token;
        arrow = x.arrow;
        name = x.name;
        split = ap (drop (length x.before)) x.split ∙ drop-append_seam x.before (x.name_token ∷ x.arrow ∷ x.after);
        named = x.named;
        assigns = x.assigns;
        heads = x.heads;
        is = x.is;
      };
    }

-- what is left of a list from a place on, as a slice has it
pub left_from : (ts : List Token) (k : ℕ) → take (length ts - k) (drop k ts) ≡ drop k ts
left_from ts k = take_all (length ts - k) (drop k ts) (omega (arith, length-drop k ts))
