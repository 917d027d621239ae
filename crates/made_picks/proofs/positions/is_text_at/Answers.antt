use Rattle.std.proofs.Common.{◌∙◌, Option, sym, ap}
use Rattle.drag_along.specs.declared.leaves.Leaf.{Leaf}
use Rattle.apl_model.specs.Subscript.{is_text_position}
use Rattle.made_picks.proofs.PositionLemmas.{position_of}
use Rattle.made_picks.proofs.positions.is_text_at.Goals as goal

pub returns-in-Some : goal.returns-in-Some
returns-in-Some c = λ s. c.is_text.ensures s ∙ sym (ap (λ (p : Option Leaf). is_text_position (position_of s p)) c.in-Some.is)
