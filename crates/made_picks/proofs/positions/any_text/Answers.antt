use Rattle.std.proofs.Common.{◌∙◌, List, Option, refl, sym, ap}
use Rattle.std.specs.List.{list_any}
use Rattle.std.proofs.lemmas.List.{take_all}
use Rattle.drag_along.specs.declared.leaves.Leaf.{Leaf}
use Rattle.apl_model.specs.Subscript.{is_text_position}
use Rattle.made_picks.specs.Picks.{positions_of}
use Rattle.made_picks.proofs.PositionLemmas.{text_at, text_more}
use Rattle.made_picks.proofs.positions.any_text.Goals as goal

pub loop-position-init : goal.loop-position-init
loop-position-init c = λ s. refl

pub returns-then-is_text_at : goal.returns-then-is_text_at
returns-then-is_text_at c = λ s. sym (text_at is_text_position s c.args.positions.now c.loop-position.position-index c.position-item.result c.loop-position-test.true c.position-item.is (sym (c.is_text_at.ensures s) ∙ c.if-is_text_at.true))

pub loop-position-preserved : goal.loop-position-preserved
loop-position-preserved c = λ s. text_more is_text_position s c.args.positions.now c.loop-position.position-index c.position-item.result c.loop-position-test.true c.position-item.is (sym (c.is_text_at.ensures s) ∙ c.if-is_text_at.false) (c.loop-position.invariant s)

pub returns : goal.returns
returns c = λ s. sym (c.loop-position.invariant s) ∙ ap (λ (ps : List (Option Leaf)). list_any is_text_position (positions_of s ps)) (take_all c.loop-position.position-index c.args.positions.now c.loop-position-test.false)
