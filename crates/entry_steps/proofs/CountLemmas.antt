-- How many entries each instruction needs and leaves.
use Rattle.std.proofs.Common.{◌≡◌, ℕ, zero, suc, ◌+◌, ◌≤◌, Bool, true, false, List, [], ◌∷◌, length, refl, sym, ap, subst, ◌∙◌, arith}
use Rattle.std.specs.Prelude.{Option, Some, None}
use Rattle.std.specs.Option.{option_map}
use Rattle.drag_along.specs.Meaning.{Meaning}
use Rattle.apl_base.specs.declared.rows.Dya.{Dya}
use Rattle.apl_model.specs.declared.functions.Axis.{Axis}
use Rattle.apl_model.specs.declared.functions.DyaFn.{DyaFn}
use Rattle.apl_model.specs.declared.functions.MonFn.{MonFn}
use Rattle.apl_model.specs.declared.trees.Literal.{Literal}
use Rattle.apl_compile.specs.declared.codes.Op.TheVariants as op
use Rattle.apl_compile.specs.Lawful.{Operands, just, result_or_none, ended, less}
use Rattle.indexing_steps.specs.Operands.{positions_in}
use Rattle.indexing_steps.proofs.MaskLemmas.{count-yes, count-no}
use Rattle.entry_steps.specs.Changing.{IsAsMany}
use Rattle.entry_steps.proofs.EntryLemmas.{Counts}

-- from n entries an instruction leads to these, where so many more or fewer are left
leads_on : (takes gives n : ℕ) (m : ℕ) (next : Operands) (mine : List Meaning) → length mine ≡ n → takes ≤ n → m + takes ≡ n + gives
    → Some (just m) ≡ Some next → (takes ≤ length mine) × ((left : List Meaning) → length left + takes ≡ length mine + gives → IsAsMany next left)
leads_on takes gives n m next mine many few sum e =
    let same : just m ≡ next = cc in (
      omega (arith, many, few),
      λ left lengths.
          let counted : IsAsMany (just m) left = omega (arith, many, few, sum, lengths) in
          subst (λ (o : Operands). IsAsMany o left) same counted,
    )

pub counts_literal : (l : Literal) → Counts (op.Lit l) 0 1
counts_literal l (just n) next mine many e = leads_on 0 1 n (suc n) next mine many (omega arith) (omega arith) e
counts_literal l result_or_none next mine many e = absurd cc
counts_literal l ended next mine many e = absurd cc

pub counts_name : (name : List ℕ) → Counts (op.Name name) 0 1
counts_name name (just n) next mine many e = leads_on 0 1 n (suc n) next mine many (omega arith) (omega arith) e
counts_name name result_or_none next mine many e = absurd cc
counts_name name ended next mine many e = absurd cc

pub counts_monadic : (f : MonFn) → Counts (op.Mon f) 1 1
counts_monadic f (just zero) next mine many e = absurd cc
counts_monadic f (just (suc n)) next mine many e = leads_on 1 1 (suc n) (suc n) next mine many (omega arith) (omega arith) e
counts_monadic f result_or_none next mine many e = absurd cc
counts_monadic f ended next mine many e = absurd cc

pub counts_dyadic : (f : DyaFn) → Counts (op.Dya f) 2 1
counts_dyadic f (just zero) next mine many e = absurd cc
counts_dyadic f (just (suc zero)) next mine many e = absurd cc
counts_dyadic f (just (suc (suc n))) next mine many e = leads_on 2 1 (suc (suc n)) (suc n) next mine many (omega arith) (omega arith) e
counts_dyadic f result_or_none next mine many e = absurd cc
counts_dyadic f ended next mine many e = absurd cc

pub counts_reduction : (f : Dya) (axis : Axis) → Counts (op.Red f axis) 1 1
counts_reduction f axis (just zero) next mine many e = absurd cc
counts_reduction f axis (just (suc n)) next mine many e = leads_on 1 1 (suc n) (suc n) next mine many (omega arith) (omega arith) e
counts_reduction f axis result_or_none next mine many e = absurd cc
counts_reduction f axis ended next mine many e = absurd cc

pub counts_outer : (f : Dya) → Counts (op.Outer f) 2 1
counts_outer f (just zero) next mine many e = absurd cc
counts_outer f (just (suc zero)) next mine many e = absurd cc
counts_outer f (just (suc (suc n))) next mine many e = leads_on 2 1 (suc (suc n)) (suc n) next mine many (omega arith) (omega arith) e
counts_outer f result_or_none next mine many e = absurd cc
counts_outer f ended next mine many e = absurd cc

pub counts_inner : (f g : Dya) → Counts (op.Inner f g) 2 1
counts_inner f g (just zero) next mine many e = absurd cc
counts_inner f g (just (suc zero)) next mine many e = absurd cc
counts_inner f g (just (suc (suc n))) next mine many e = leads_on 2 1 (suc (suc n)) (suc n) next mine many (omega arith) (omega arith) e
counts_inner f g result_or_none next mine many e = absurd cc
counts_inner f g ended next mine many e = absurd cc

-- what the positions that a mask says are there leave
left_by : (mask : List Bool) (n k : ℕ) → less mask n ≡ Some k → k + positions_in mask ≡ n
left_by [] n k e =
    let same : n ≡ k = cc in
    omega (arith, same)
left_by (false ∷ mask) n k e = omega (arith, left_by mask n k e, count-no mask)
left_by (true ∷ mask) zero k e = absurd cc
left_by (true ∷ mask) (suc n) k e = omega (arith, left_by mask n k e, count-yes mask)

-- the array stands above its positions
pub counts_index : (mask : List Bool) → Counts (op.Index mask) (1 + positions_in mask) 1
counts_index mask (just zero) next mine many e = absurd cc
counts_index mask (just (suc n)) next mine many e = by (less mask n) refl
  where
    by : (o : Option ℕ) → less mask n ≡ o → (1 + positions_in mask ≤ length mine) × ((left : List Meaning) → length left + (1 + positions_in mask) ≡ length mine + 1 → IsAsMany next left)
    by (Some k) is =
        let left : k + positions_in mask ≡ n = left_by mask n k is in
        let there : Some (just (suc k)) ≡ Some next = sym (ap (option_map (λ (m : ℕ). just (suc m))) is) ∙ e in
        leads_on (1 + positions_in mask) 1 (suc n) (suc k) next mine many (omega (arith, left)) (omega (arith, left)) there
    by None is =
        let there : None ≡ Some next = sym (ap (option_map (λ (m : ℕ). just (suc m))) is) ∙ e in
        absurd cc
counts_index mask result_or_none next mine many e = absurd cc
counts_index mask ended next mine many e = absurd cc

pub counts_assign : (name : List ℕ) → Counts (op.Asg name) 1 1
counts_assign name (just zero) next mine many e = absurd cc
counts_assign name (just (suc n)) next mine many e = leads_on 1 1 (suc n) (suc n) next mine many (omega arith) (omega arith) e
counts_assign name result_or_none next mine many e = absurd cc
counts_assign name ended next mine many e = absurd cc

pub counts_show : Counts op.Show 1 1
counts_show (just zero) next mine many e = absurd cc
counts_show (just (suc n)) next mine many e = leads_on 1 1 (suc n) (suc n) next mine many (omega arith) (omega arith) e
counts_show result_or_none next mine many e = absurd cc
counts_show ended next mine many e = absurd cc
