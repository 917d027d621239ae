-- The two orders in which the indices of a shape are walked. `ns` are the lengths.
use Rattle.std.specs.Prelude.{ℕ, ◌-◌, Bool, List, map, length, if◌then◌else◌}
use Rattle.apl_base.specs.Array.{index_at}
use Rattle.apl_base.specs.Elements.{indices}
use Rattle.apl_base.specs.Selection.{reverse_index}

-- an index with its number on the last axis counted from that axis's end
abbrev pub from_the_end : List ℕ → List ℕ → List ℕ
from_the_end ns is = reverse_index ns (length ns - 1) is

-- the row-major order, but the last axis runs from its end to its start
abbrev pub indices_back : List ℕ → List (List ℕ)
indices_back ns = map (from_the_end ns) (indices ns)

-- the walk in either direction of the last axis
abbrev pub walk : Bool → List ℕ → List (List ℕ)
walk back ns = if back then indices_back ns else indices ns

-- the item number p of a walk, counted from 0
abbrev pub item : Bool → List ℕ → ℕ → List ℕ
item back ns p = if back then from_the_end ns (index_at ns p) else index_at ns p
