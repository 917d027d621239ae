-- Lines of elements of a kind, and arrays that read them.
use Rattle.std.proofs.Common.{◌≡◌, ℕ, zero, suc, ◌+◌, ◌*◌, ◌<◌, ◌≤◌, ℤ, pos, List, [], ◌∷◌, refl, sym, ap, ◌∙◌, subst, arith}
use Rattle.std.specs.Prelude.{◌+ℤ◌, ◌*ℤ◌}
use Rattle.apl_base.specs.declared.cells.Kind.{Kind}
use Rattle.apl_base.specs.declared.cells.Kind.TheVariants.{Num, Char}
use Rattle.apl_base.specs.Array.{IsIndex}
use Rattle.apl_base.specs.Number.{IsCharacter, IsNumber}
use Rattle.apl_base.proofs.Numbers.{IsNumber-small}
use Rattle.array_desc.specs.Desc.{DescView, number, Selects}
use Rattle.drag_along.specs.Lawful.{AreOfKind}
use Rattle.product_tests.specs.Lines.{FirstOf}

-- the letters B, E and H
letter : (j : ℕ) → j < 3 → IsCharacter (pos 66 +ℤ (pos 3 *ℤ pos j))
letter zero b = refl
letter (suc zero) b = refl
letter (suc (suc zero)) b = refl
letter (suc (suc (suc j))) b = absurd (omega (arith, b))

-- a line of numbers that are few and small
pub small_numbers : (kind : Kind) (first : ℤ) → FirstOf kind first → (j : ℕ) → j < 3 → IsNumber (first +ℤ (pos 3 *ℤ pos j))
small_numbers Num first is j b = subst (λ (z : ℤ). IsNumber (z +ℤ (pos 3 *ℤ pos j))) (sym is) (IsNumber-small (2 + 3 * j) (omega (arith, b)))
small_numbers Char first is j b = subst (λ (z : ℤ). IsNumber (z +ℤ (pos 3 *ℤ pos j))) (sym is) (IsNumber-small (66 + 3 * j) (omega (arith, b)))

at_letter : (d : DescView) (n : ℕ) (first : ℤ) → first ≡ pos 66 → n ≤ 3 → ((j : ℕ) → j < n → number d (j ∷ []) ≡ first +ℤ (pos 3 *ℤ pos j)) → (i : List ℕ) → IsIndex (n ∷ []) i → IsCharacter (number d i)
at_letter d n first is few numbers [] index = absurd index
at_letter d n first is few numbers (j ∷ []) index =
    let below : j < 3 = omega (arith, index.0, few) in
    subst IsCharacter (sym (numbers j index.0 ∙ ap (λ (z : ℤ). z +ℤ (pos 3 *ℤ pos j)) is)) (letter j below)
at_letter d n first is few numbers (j ∷ k ∷ i) index = absurd index.1

pub line_of_kind : (d : DescView) (n : ℕ) (kind : Kind) (first : ℤ) → FirstOf kind first → n ≤ 3 → d.shape ≡ n ∷ [] → ((j : ℕ) → j < n → number d (j ∷ []) ≡ first +ℤ (pos 3 *ℤ pos j)) → AreOfKind d kind
line_of_kind d n Num first is few shape numbers = tt
line_of_kind d n Char first is few shape numbers = λ i index. at_letter d n first is few numbers i (subst (λ (ns : List ℕ). IsIndex ns i) shape index)

-- the first of them alone
pub one_of_kind : (d : DescView) (kind : Kind) (first : ℤ) → FirstOf kind first → d.shape ≡ [] → number d [] ≡ first → AreOfKind d kind
one_of_kind d Num first is shape at = tt
one_of_kind d Char first is shape at = λ i index. by i (subst (λ (ns : List ℕ). IsIndex ns i) shape index)
  where
    by : (i : List ℕ) → IsIndex [] i → IsCharacter (number d i)
    by [] index = subst IsCharacter (sym (at ∙ is)) refl
    by (j ∷ i) index = absurd index

-- what is selected from elements of a kind is of the kind
pub selected_of_kind : (old new : DescView) (kind : Kind) (lengths : List ℕ) (read : List ℕ → List ℕ) → Selects old new lengths read → AreOfKind old kind → AreOfKind new kind
selected_of_kind old new Num lengths read s all = tt
selected_of_kind old new Char lengths read s all = λ i index.
    let there : IsIndex lengths i = subst (λ (ns : List ℕ). IsIndex ns i) s.shape index in
    subst IsCharacter (sym (s.number i there)) (all (read i) (s.index i there))

pub first_number : (kind : Kind) (first : ℤ) → FirstOf kind first → IsNumber first
first_number Num first is = subst IsNumber (sym is) (IsNumber-small 2 (omega arith))
first_number Char first is = subst IsNumber (sym is) (IsNumber-small 66 (omega arith))
