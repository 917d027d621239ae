-- What the owners that came say of the live cells.
use Rattle.std.specs.Prelude.{ℕ, ◌≤◌, List, map, sum}
use Rattle.array_store.specs.Stores.{StoreView, IsStore, empty_store}
use Rattle.array_store.specs.Came.{Came, Renews}

-- in a store that was empty no more cells are live than those of the owners that came, each once
abbrev pub LiveIsWhatCame : Type 0
LiveIsWhatCame =
    (limit : ℕ) (new : StoreView) (came : List Came) → IsStore new → Renews (empty_store limit) new came
    → new.live ≤ sum (map (λ c. c.cells) came)
