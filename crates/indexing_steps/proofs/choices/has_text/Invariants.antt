use Rattle.std.proofs.Common.{◌≡◌, false, take}
use Rattle.std.specs.List.{list_any}
use Rattle.array_store.specs.Stores.{StoreView}
use Rattle.apl_model.specs.Subscript.{is_text_position}
use Rattle.indexing_steps.specs.Operands.{arrays_of}
use Rattle.indexing_steps.proofs.choices.has_text.Given as goal

abbrev pub invariant-loop-position : goal.invariant-loop-position
invariant-loop-position l = (store : StoreView) → list_any is_text_position (arrays_of store (take l.position-index l.positions)) ≡ false
