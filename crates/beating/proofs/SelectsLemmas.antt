-- One selection after another.
use Rattle.std.proofs.Common.{◌≡◌, ℕ, List, refl, sym, ◌∙◌, subst}
use Rattle.apl_base.specs.Array.{IsIndex}
use Rattle.array_desc.specs.Desc.{DescView, Selects, number}

-- a descriptor is the selection of itself that leaves out nothing
pub selects_itself : (d : DescView) → Selects d d d.shape (λ i. i)
selects_itself d = record { shape = refl; index = λ i q. q; number = λ i q. refl }

-- a selection of a selection
pub selects_then : (a b c : DescView) (k l : List ℕ) (f g : List ℕ → List ℕ) → Selects a b k f → Selects b c l g → Selects a c l (λ i. f (g i))
selects_then a b c k l f g s t =
    let at = λ (i : List ℕ) (q : IsIndex l i). subst (λ (ns : List ℕ). IsIndex ns (g i)) s.shape (t.index i q) in
    record {
      shape = t.shape;
      index = λ i q. s.index (g i) (at i q);
      number = λ i q. t.number i q ∙ s.number (g i) (at i q);
    }

-- the same selection, said otherwise
pub selects_same : (a b : DescView) (k l : List ℕ) (f g : List ℕ → List ℕ) → Selects a b k f → k ≡ l → ((i : List ℕ) → IsIndex l i → f i ≡ g i) → Selects a b l g
selects_same a b k l f g s e h =
    let at = λ (i : List ℕ) (q : IsIndex l i). subst (λ (ns : List ℕ). IsIndex ns i) (sym e) q in
    record {
      shape = s.shape ∙ e;
      index = λ i q. subst (IsIndex a.shape) (h i q) (s.index i (at i q));
      number = λ i q. s.number i (at i q) ∙ number_of i (h i q);
    }
  where
    number_of : (i : List ℕ) → f i ≡ g i → number a (f i) ≡ number a (g i)
    number_of i e = subst (λ (j : List ℕ). number a (f i) ≡ number a j) e refl
