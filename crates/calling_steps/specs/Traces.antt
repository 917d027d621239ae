-- What the end of a statement leaves in the trace.
use Rattle.std.specs.Prelude.{◌≡◌, ◌⊎◌, ℕ, ◌+◌, List, [], ◌∷◌, ◌++◌, Option, encode_utf8_all}
use Rattle.apl_print.specs.declared.costs.Cost.{Cost}
use Rattle.apl_print.specs.Bytes.{GainsPrefix}
use Rattle.apl_print.specs.Lines.{cost_line}
use Rattle.machine_state.specs.declared.machines.Machine.{Machine}

-- the elements fetched and made and the functions applied, as counted
abbrev pub operations : Machine → ℕ
operations m = m.store.counts.fetched + m.store.counts.made + m.store.counts.applied

-- the bytes of the line of an entry
abbrev pub line_bytes : Cost → List ℕ
line_bytes cost = encode_utf8_all (cost_line cost)

-- the entry came behind the others, and of its line this went out
pub record TracesEnd (Out : Option (List ℕ) → Option (List ℕ) → List ℕ → Type 0) (old new : Machine) (before after : Option (List ℕ)) (cost : Cost) : Type 0 where
  pub entered : new.costs.items ≡ old.costs.items ++ cost ∷ []
  pub line : Out before after (line_bytes cost)

-- the trace is as it was
pub record IsSameTrace (old new : Machine) (before after : Option (List ℕ)) : Type 0 where
  pub entered : new.costs.items ≡ old.costs.items
  pub line : after ≡ before

-- the end was not told whole: nothing was entered, or a front of the entry's line went out
abbrev pub IsNotTold : Machine → Machine → Option (List ℕ) → Option (List ℕ) → Cost → Type 0
IsNotTold old new before after cost = IsSameTrace old new before after ⊎ TracesEnd GainsPrefix old new before after cost
