use Rattle.std.proofs.Common.{◌≡◌, false, take}
use Rattle.std.specs.List.{list_any}
use Rattle.array_store.specs.Stores.{StoreView}
use Rattle.apl_model.specs.Subscript.{is_text_position}
use Rattle.made_picks.specs.Picks.{positions_of}
use Rattle.made_picks.proofs.positions.any_text.Given as goal

-- none so far has characters
abbrev pub invariant-loop-position : goal.invariant-loop-position
invariant-loop-position l = (s : StoreView) → list_any is_text_position (positions_of s (take l.position-index l.positions)) ≡ false
