-- A column whose first cells have become the values, and the others are as they were.
use Rattle.std.proofs.Common.{◌≡◌, ℕ, ◌+◌, ◌<◌, ◌≤◌, ℤ, pos, List, [], ◌∷◌, length, All, Option, Some, None, IfSome, refl, sym, ap, ◌∙◌, subst, arith, inl, inr}
use Rattle.std.specs.Prelude.{IsSome, slice_set}
use Rattle.std.proofs.Math.ListN.{length-set}
use Rattle.std.proofs.lemmas.Bool.{cases_lt}
use Rattle.std.proofs.lemmas.List.{get_or-set_same, get_or-set_other, get_or_default}
use Rattle.apl_base.specs.declared.cells.Kind.{Kind}
use Rattle.apl_base.specs.declared.cells.Elem.{Elem}
use Rattle.apl_base.specs.Number.{IsNumber}
use Rattle.apl_base.specs.Elements.{element}
use Rattle.apl_base.specs.Scalar.{number}
use Rattle.scalar_table.specs.Row.{Row, scalar, IsNumberElement}
use Rattle.scalar_table.specs.Columns.{cell_in, element_in, IsColumn}

-- after k places
pub record Filled (value : ℕ → Option Elem) (old now : List ℤ) (k : ℕ) : Type 0 where
  pub many : length now ≡ length old
  pub values : (j : ℕ) → j < k → value j ≡ Some (number (cell_in now j))
  pub numbers : (j : ℕ) → j < k → IsNumber (cell_in now j)
  pub rest : (j : ℕ) → k ≤ j → cell_in now j ≡ cell_in old j

pub filled_none : (value : ℕ → Option Elem) (old : List ℤ) → Filled value old old 0
filled_none value old = record {
  many = refl;
  values = λ j h. absurd (omega (arith, h));
  numbers = λ j h. absurd (omega (arith, h));
  rest = λ j h. refl;
}

-- a place before k+1 is one before k, or is k
upto : (P : ℕ → Type 0) (k : ℕ) → ((j : ℕ) → j < k → P j) → P k → (j : ℕ) → j < k + 1 → P j
upto P k before here j h = elim (cases_lt j k) [
  | inl less ↦ before j less
  | inr most ↦ subst P (let e : k ≡ j = omega (arith, h, most) in e) here
]

other : (now : List ℤ) (k j : ℕ) (c : ℤ) → (j ≡ k → ⊥) → cell_in (slice_set now k c) j ≡ cell_in now j
other now k j c differs = get_or-set_other now k j c (pos 0) differs

pub filled_more : (value : ℕ → Option Elem) (old now : List ℤ) (k : ℕ) (v : Elem) → Filled value old now k → k < length now → value k ≡ Some v → IsNumberElement v → Filled value old (slice_set now k v.cell) (k + 1)
filled_more value old now k v filled below has number_of =
    let same : cell_in (slice_set now k v.cell) k ≡ v.cell = get_or-set_same now k v.cell (pos 0) below in
    let is : v ≡ number v.cell = ap (λ (w : Kind). let x : Elem = record { kind = w; cell = v.cell } in x) number_of.kind in
    let apart : (j : ℕ) → j < k → cell_in now j ≡ cell_in (slice_set now k v.cell) j = λ j h. sym (other now k j v.cell (λ e. omega (arith, e, h))) in
    record {
      many = length-set now k v.cell ∙ filled.many;
      values = upto (λ j. value j ≡ Some (number (cell_in (slice_set now k v.cell) j))) k
          (λ j h. filled.values j h ∙ ap (λ (z : ℤ). Some (number z)) (apart j h))
          (has ∙ ap (λ (x : Elem). Some x) is ∙ ap (λ (z : ℤ). Some (number z)) (sym same));
      numbers = upto (λ j. IsNumber (cell_in (slice_set now k v.cell) j)) k
          (λ j h. subst IsNumber (apart j h) (filled.numbers j h))
          (subst IsNumber (sym same) number_of.cell);
      rest = λ j h. other now k j v.cell (λ e. omega (arith, e, h)) ∙ filled.rest j (omega (arith, h));
    }

pub filled_all : (value : ℕ → Option Elem) (old now : List ℤ) (k : ℕ) → Filled value old now k → length old ≤ k → IsColumn value now None
filled_all value old now k filled all = λ j h. filled.values j (omega (arith, h, all, filled.many))

pub filled_numbers : (value : ℕ → Option Elem) (old now : List ℤ) (k : ℕ) → Filled value old now k → length old ≤ k → All IsNumber now
filled_numbers value old now k filled all = λ j d h. subst IsNumber (get_or_default now j (pos 0) d h) (filled.numbers j (omega (arith, h, all, filled.many)))

some_is : (o : Option Elem) (v : Elem) → o ≡ Some v → IsSome o
some_is o v e = subst IsSome (sym e) refl

pub filled_without : (value : ℕ → Option Elem) (old now : List ℤ) (k : ℕ) → Filled value old now k → k < length now → value k ≡ None → IsColumn value now (Some k)
filled_without value old now k filled below none = record {
  within = below;
  without = none;
  before = λ j h. some_is (value j) (number (cell_in now j)) (filled.values j h);
}

-- ---- a turn of the loop over one column, and over two

has_number : (r : Option Elem) (v : Elem) → r ≡ Some v → IfSome r IsNumberElement → IsNumberElement v
has_number None v e h = absurd (cc)
has_number (Some w) v e h = subst IsNumberElement (some_same w v e) h
  where
    some_same : (a b : Elem) → Some a ≡ Some b → a ≡ b
    some_same a b e = cc

-- one value more
turn : (value : ℕ → Option Elem) (old now : List ℤ) (k : ℕ) (r : Option Elem) (v : Elem) (c : ℤ) → Filled value old now k → k < length old → r ≡ value k → r ≡ Some v → IfSome r IsNumberElement → c ≡ v.cell → Filled value old (slice_set now k c) (k + 1)
turn value old now k r v c filled below is has lawful cell =
    subst (λ (z : ℤ). Filled value old (slice_set now k z) (k + 1)) (sym cell)
    (filled_more value old now k v filled (omega (arith, below, filled.many)) (sym is ∙ has) (has_number r v has lawful))

-- what was read is the value at the place: over one column
pub read_one : (f : Row) (kind : Kind) (old now : List ℤ) (k : ℕ) (z : ℤ) (xs : List Elem) (r : Option Elem) → Filled (λ j. scalar f (element_in kind old j ∷ [])) old now k → z ≡ cell_in now k → xs ≡ element kind z ∷ [] → r ≡ scalar f xs → r ≡ scalar f (element_in kind old k ∷ [])
read_one f kind old now k z xs r filled read one e =
    e ∙ ap (scalar f) one ∙ ap (λ (y : ℤ). scalar f (element kind y ∷ [])) (read ∙ filled.rest k (omega arith))

pub turn_one : (f : Row) (kind : Kind) (old now : List ℤ) (k : ℕ) (z : ℤ) (xs : List Elem) (r : Option Elem) (v : Elem) (c : ℤ) → Filled (λ j. scalar f (element_in kind old j ∷ [])) old now k → k < length old → z ≡ cell_in now k → xs ≡ element kind z ∷ [] → r ≡ scalar f xs → r ≡ Some v → IfSome r IsNumberElement → c ≡ v.cell → Filled (λ j. scalar f (element_in kind old j ∷ [])) old (slice_set now k c) (k + 1)
turn_one f kind old now k z xs r v c filled below read one e has lawful cell =
    turn (λ j. scalar f (element_in kind old j ∷ [])) old now k r v c filled below (read_one f kind old now k z xs r filled read one e) has lawful cell

-- and over two, of which the right one is filled
pub read_two : (f : Row) (other kind : Kind) (left old now : List ℤ) (k : ℕ) (a z : ℤ) (xs : List Elem) (r : Option Elem) → Filled (λ j. scalar f (element_in other left j ∷ element_in kind old j ∷ [])) old now k → a ≡ cell_in left k → z ≡ cell_in now k → xs ≡ element other a ∷ element kind z ∷ [] → r ≡ scalar f xs → r ≡ scalar f (element_in other left k ∷ element_in kind old k ∷ [])
read_two f other kind left old now k a z xs r filled first read two e =
    e ∙ ap (scalar f) two ∙ ap (λ (y : ℤ). scalar f (element other y ∷ element kind z ∷ [])) first
    ∙ ap (λ (y : ℤ). scalar f (element_in other left k ∷ element kind y ∷ [])) (read ∙ filled.rest k (omega arith))

pub turn_two : (f : Row) (other kind : Kind) (left old now : List ℤ) (k : ℕ) (a z : ℤ) (xs : List Elem) (r : Option Elem) (v : Elem) (c : ℤ) → Filled (λ j. scalar f (element_in other left j ∷ element_in kind old j ∷ [])) old now k → k < length old → a ≡ cell_in left k → z ≡ cell_in now k → xs ≡ element other a ∷ element kind z ∷ [] → r ≡ scalar f xs → r ≡ Some v → IfSome r IsNumberElement → c ≡ v.cell → Filled (λ j. scalar f (element_in other left j ∷ element_in kind old j ∷ [])) old (slice_set now k c) (k + 1)
turn_two f other kind left old now k a z xs r v c filled below first read two e has lawful cell =
    turn (λ j. scalar f (element_in other left j ∷ element_in kind old j ∷ [])) old now k r v c filled below (read_two f other kind left old now k a z xs r filled first read two e) has lawful cell
