-- Two descriptors of which one has the same number everywhere.
use Rattle.std.proofs.Common.{◌≡◌, ℕ, Bool, false, IsTrue, ◌↔◌, inl, inr, ℤ, pos, negsuc, ◌+ℤ◌, ◌-ℤ◌, ◌*ℤ◌, List, [], ◌∷◌, FitsSigned, to_z, of_z, refl, sym, ap, subst, ◌∙◌, arith}
use Rattle.std.proofs.lemmas.Int.{ints, to_z-of_z}
use mir.Syntax.{w128}
use Rattle.apl_base.specs.Array.{IsIndex}
use Rattle.apl_base.specs.Number.{IsNumber}
use Rattle.array_desc.specs.Desc.{DescView, IsDesc, dot, number}
use Rattle.beating.specs.Folds.{AllRest, CanCombine, Combines}

-- with strides of 0 there is nothing to add to the base
dot_at_rest : (ss : List ℤ) (is : List ℕ) → AllRest ss → dot ss is ≡ pos 0
dot_at_rest [] is h = refl
dot_at_rest (s ∷ ss) [] h = refl
dot_at_rest (s ∷ ss) (i ∷ is) h = let e = dot_at_rest ss is h.1 in let f = ap (λ (x : ℤ). x *ℤ pos i) h.0 in omega (arith, ints, e, f)

pub number_at_rest : (d : DescView) (i : List ℕ) → AllRest d.strides → number d i ≡ d.base
number_at_rest d i h = let e = dot_at_rest d.strides i h in omega (arith, ints, e)

-- the base of a descriptor, as its bits give it back
pub base_is : (d : DescView) (base : ℤ) (ss : List ℤ) (ns : List ℕ) → FitsSigned w128 base → record { base = base; strides = ss; shape = ns } ≡ d → to_z w128 (of_z w128 base) ≡ d.base
base_is d base ss ns f same = to_z-of_z w128 base f ∙ ap (λ (x : DescView). x.base) same

-- where the one is not found constant, the other is
pub right_rests : (op : ℤ → ℤ → ℤ) (l r : DescView) (found : Bool) → CanCombine op l r → (IsTrue found ↔ AllRest l.strides) → found ≡ false → AllRest r.strides
right_rests op l r found h told e = elim h.constant [ inl rests ↦ absurd (let t = told.1 rests in cc) | inr rests ↦ rests ]

-- an index of the one is one of the other
index_of_right : (op : ℤ → ℤ → ℤ) (l r : DescView) → CanCombine op l r → (i : List ℕ) → IsIndex l.shape i → IsIndex r.shape i
index_of_right op l r h i q = let Q : List ℕ → Type 0 = λ ns. IsIndex ns i in subst Q h.shape q

index_of_left : (op : ℤ → ℤ → ℤ) (l r : DescView) → CanCombine op l r → (i : List ℕ) → IsIndex r.shape i → IsIndex l.shape i
index_of_left op l r h i q = let Q : List ℕ → Type 0 = λ ns. IsIndex ns i in subst Q (sym h.shape) q

-- ---- an operation whose sides may change places

module _ (op : ℤ → ℤ → ℤ) (turned : (x y : ℤ) → op x y ≡ op y x) (l r : DescView) (x : ℤ) where
  -- the left one is x everywhere
  by_left : AllRest l.strides → x ≡ l.base → (i : List ℕ) → op (number r i) x ≡ op (number l i) (number r i)
  by_left rests e i = turned (number r i) x ∙ ap (λ (y : ℤ). op y (number r i)) (e ∙ sym (number_at_rest l i rests))

  pub left_numbers : CanCombine op l r → AllRest l.strides → x ≡ l.base → (i : List ℕ) → IsIndex r.shape i → IsNumber (op (number r i) x)
  left_numbers h rests e i q = subst IsNumber (sym (by_left rests e i)) (h.numbers i q)

  pub left_combines : (new : DescView) → CanCombine op l r → AllRest l.strides → x ≡ l.base → IsDesc new → new.shape ≡ r.shape → ((i : List ℕ) → IsIndex r.shape i → number new i ≡ op (number r i) x) → Combines op l r new
  left_combines new h rests e lawful shape numbers =
      record { lawful = lawful; shape = shape; numbers = λ i q. numbers i q ∙ by_left rests e i }

  -- the right one is
  by_right : AllRest r.strides → x ≡ r.base → (i : List ℕ) → op (number l i) x ≡ op (number l i) (number r i)
  by_right rests e i = ap (op (number l i)) (e ∙ sym (number_at_rest r i rests))

  pub right_numbers : CanCombine op l r → AllRest r.strides → x ≡ r.base → (i : List ℕ) → IsIndex l.shape i → IsNumber (op (number l i) x)
  right_numbers h rests e i q = subst IsNumber (sym (by_right rests e i)) (h.numbers i (index_of_right op l r h i q))

  pub right_combines : (new : DescView) → CanCombine op l r → AllRest r.strides → x ≡ r.base → IsDesc new → new.shape ≡ l.shape → ((i : List ℕ) → IsIndex l.shape i → number new i ≡ op (number l i) x) → Combines op l r new
  right_combines new h rests e lawful shape numbers =
      record { lawful = lawful; shape = shape ∙ h.shape; numbers = λ i q. numbers i (index_of_left op l r h i q) ∙ by_right rests e i }

pub sum_turned : (x y : ℤ) → x +ℤ y ≡ y +ℤ x
sum_turned x y = omega (arith, ints)

-- ---- the difference, as a sum

pub negative : (z : ℤ) → IsNumber z → IsNumber (z *ℤ negsuc 0)
negative z h = record { least = omega (arith, ints, h.least, h.most); most = omega (arith, ints, h.least, h.most) }

difference_is : (x y z : ℤ) → z ≡ y *ℤ negsuc 0 → x +ℤ z ≡ x -ℤ y
difference_is x y z e = omega (arith, ints, e)

-- the left one and the negative of the right one
pub negative_can : (l r n : DescView) → CanCombine ◌-ℤ◌ l r → IsDesc n → n.shape ≡ r.shape → (AllRest r.strides → AllRest n.strides) → ((i : List ℕ) → IsIndex r.shape i → number n i ≡ number r i *ℤ negsuc 0) → CanCombine ◌+ℤ◌ l n
negative_can l r n h lawful shape rests numbers =
    let Q : List ℕ → List ℕ → Type 0 = λ i ns. IsIndex ns i in
    record {
      left_lawful = h.left_lawful;
      right_lawful = lawful;
      shape = h.shape ∙ sym shape;
      constant = elim h.constant [ inl x ↦ inl x | inr x ↦ inr (rests x) ];
      numbers = λ i q.
          let p = subst (Q i) shape q in
          subst IsNumber (sym (difference_is (number l i) (number r i) (number n i) (numbers i p))) (h.numbers i p);
    }

pub negative_combines : (l r n new : DescView) → n.shape ≡ r.shape → ((i : List ℕ) → IsIndex r.shape i → number n i ≡ number r i *ℤ negsuc 0) → Combines ◌+ℤ◌ l n new → Combines ◌-ℤ◌ l r new
negative_combines l r n new shape numbers h =
    let Q : List ℕ → List ℕ → Type 0 = λ i ns. IsIndex ns i in
    record {
      lawful = h.lawful;
      shape = h.shape ∙ shape;
      numbers = λ i q. h.numbers i (subst (Q i) (sym shape) q) ∙ difference_is (number l i) (number r i) (number n i) (numbers i q);
    }
