-- The end of a statement.
use Rattle.std.proofs.Common.{◌≡◌, inl, inr, ℕ, ◌+◌, ◌-◌, ◌<◌, List, [], ◌∷◌, ◌++◌, length, refl, sym, ap, ◌∙◌, arith, append-nil, length-append}
use Rattle.std.specs.Prelude.{Some, slice_get}
use Rattle.std.proofs.lemmas.Option.{slice_get_cases}
use Rattle.drag_along.specs.Segments.{SegmentView}
use Rattle.drag_along.specs.Meaning.{Meaning}
use Rattle.machine_state.specs.declared.machines.Machine.{Machine}
use Rattle.machine_state.specs.Steps.{Keeps}
use Rattle.entry_steps.proofs.EntryLemmas.{split}

-- the newest entry
pub last_there : (stack : List SegmentView) → 0 < length stack → (s : SegmentView) × (slice_get stack (length stack - 1) ≡ Some s)
last_there stack some =
    elim ((slice_get_cases stack (length stack - 1)).1) [
      | inl x ↦ (x.0, x.2)
      | inr y ↦ let no : ⊥ = omega (arith, y.0, some) in absurd no
    ]

pub none_of_length : (xs : List Meaning) → length xs ≡ 0 → xs ≡ []
none_of_length [] e = refl
none_of_length (x ∷ xs) e = absurd cc

-- where one entry above these went, these are left
pub left_below : (older younger rest : List Meaning) (last : Meaning) (base : ℕ) → older ++ younger ≡ rest ++ last ∷ [] → length older ≡ base → length (older ++ younger) ≡ base + 1 → rest ≡ older
left_below older younger rest last base e low high =
    let number : length younger ≡ 1 = omega (arith, low, high, length-append older younger) in
    let s = split rest (last ∷ []) older younger (sym e) (omega (arith, number)) in
    let none_left : length s.front ≡ 0 = omega (arith, number, ap length s.mine_is, length-append s.front (last ∷ [])) in
    s.older_is ∙ ap (λ (xs : List Meaning). older ++ xs) (none_of_length s.front none_left) ∙ append-nil older

-- where none went
pub none_above : (older younger : List Meaning) (base : ℕ) → length older ≡ base → length (older ++ younger) ≡ base → older ++ younger ≡ older
none_above older younger base low high =
    let none_left : length younger ≡ 0 = omega (arith, low, high, length-append older younger) in
    ap (λ (xs : List Meaning). older ++ xs) (none_of_length younger none_left) ∙ append-nil older

pub keeps_then : (a b c : Machine) → Keeps a b → Keeps b c → Keeps a c
keeps_then a b c first second = record {
  lawful = λ hand l. second.lawful hand (first.lawful hand l);
  variables = λ hand l. second.variables hand (first.lawful hand l) ∙ first.variables hand l;
  limit = second.limit ∙ first.limit;
}
