-- Where a line stops, told of another kind of lines.
use Rattle.std.proofs.Common.{ℕ}
use Rattle.apl_defn.specs.declared.line_faults.LineFault.{LineFault}
use Rattle.apl_defn.specs.declared.line_faults.LineFault.TheVariants as fault

-- a fact of the column, where the fault is a stop
abbrev pub AtStop : LineFault → (ℕ → Type 0) → Type 0
AtStop (fault.Stopped column) P = P column
AtStop fault.NoMemory P = Unit {0}

-- what holds of the column of one kind tells what holds of the other
pub stopped_so : (P Q : ℕ → Type 0) (f : LineFault) → ((column : ℕ) → P column → Q column) → AtStop f P → AtStop f Q
stopped_so P Q (fault.Stopped column) g h = g column h
stopped_so P Q fault.NoMemory g h = tt
