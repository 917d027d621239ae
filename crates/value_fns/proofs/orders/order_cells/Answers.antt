use Rattle.std.proofs.Common.{◌≡◌, ◌∙◌, ℤ, Bool, true, false, List, pos, map, length, sym, ap, subst}
use Rattle.apl_base.specs.Selection.{upward}
use Rattle.apl_model.specs.Made.{counted_from, in_order}
use Rattle.value_fns.specs.Placed.{Placed, IsIndex}
use Rattle.value_fns.proofs.Ordered.{rising_order, falling_order}
use Rattle.value_fns.proofs.orders.order_cells.Goals as goal
use Rattle.value_fns.proofs.orders.order_cells.Goals.{then-down, else-down}

-- the order by which way it goes
by_way : (o : ℤ) (down : Bool) (t : Bool) (cells after : List ℤ) → down ≡ t → after ≡ map (counted_from o) (in_order t cells (upward 0 (length cells))) → after ≡ map (counted_from o) (in_order down cells (upward 0 (length cells)))
by_way o down t cells after way e = e ∙ ap (λ (d : Bool). map (counted_from o) (in_order d cells (upward 0 (length cells)))) (sym way)

pub returns : goal.returns
returns c =
    let o = pos c.args.origin in
    let after : c.put_places.new.cells ≡ map (λ (x : Placed). counted_from o x.1) c.in_ok-index.index.items = c.put_places.ensures ∙ ap (map (λ (x : Placed). counted_from o x.1)) c.as_slice.ensures.value in
    elim c.if-down.branch [
      | then-down w ↦ by_way o c.args.down true c.args.cells.now c.put_places.new.cells w.if-down.true (falling_order o c.args.cells.now c.if-down.cells c.put_places.new.cells c.in_ok-index.index.items (w.cells-is ∙ w.negate.ensures) c.in_ok-index.ensures.index after)
      | else-down w ↦
          by_way o c.args.down false c.args.cells.now c.put_places.new.cells w.if-down.false
          (rising_order o c.args.cells.now c.put_places.new.cells c.in_ok-index.index.items (subst (λ (xs : List ℤ). IsIndex xs c.in_ok-index.index.items) w.cells-is c.in_ok-index.ensures.index) after)
    ]
