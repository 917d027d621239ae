-- One more thing that is open, and one more position.
use Rattle.std.proofs.Common.{◌≡◌, List, [], ◌∷◌, ◌++◌, Option, refl, ap}
use Rattle.apl_model.proofs.Bridge.{slot_with, positions_with}
use Rattle.apl_model.proofs.Machine as machine
use Rattle.apl_model.specs.Tree.{position}
use Rattle.apl_model.specs.declared.trees.Expr.{Expr}
use Rattle.apl_tree.specs.Mirror.{open_on, all_on}
use Rattle.apl_tree.specs.declared.opens.Open.{Open}

pub all_on-append : (o : machine.Stack) (ws : List Open) (w : Open) → all_on o (ws ++ w ∷ []) ≡ open_on w (all_on o ws)
all_on-append o [] w = refl
all_on-append o (v ∷ ws) w = all_on-append (open_on v o) ws w

pub then_position-with : (qs : List (Option Expr)) (q : Option Expr) → positions_with (qs ++ q ∷ []) ≡ machine.then_position (positions_with qs) (slot_with q)
then_position-with [] q = refl
then_position-with (r ∷ qs) q = ap (position (slot_with r)) (then_position-with qs q)

pub ruleset opened = (all_on-append, then_position-with)
