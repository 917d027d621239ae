-- Counting leaves the live cells and the limit, and so the room, as it was.
use Rattle.std.proofs.Common.{ℕ, ap, arith}
use Rattle.array_store.specs.Stores.{StoreView, HasRoom}
use Rattle.array_store.specs.Counting.{OnlyCounted}

-- room after is room before
pub counted_room : (old now : StoreView) (n : ℕ) → OnlyCounted old now → HasRoom now n → HasRoom old n
counted_room old now n only room = omega (arith, room, ap (λ (s : StoreView). s.live) only, ap (λ (s : StoreView). s.limit) only)

-- and room before is room after
pub room_counted : (old now : StoreView) (n : ℕ) → OnlyCounted old now → HasRoom old n → HasRoom now n
room_counted old now n only room = omega (arith, room, ap (λ (s : StoreView). s.live) only, ap (λ (s : StoreView). s.limit) only)
