use mir.Syntax.{w128}
use Rattle.std.proofs.Common.{◌≡◌, ◌∙◌, ◌<◌, ◌++◌, ◌∷◌, [], ℕ, ℤ, List, pos, ◌+ℤ◌, ◌*ℤ◌, refl, sym, ap, subst, arith}
use Rattle.std.proofs.lemmas.Int.{to_z-of_z}
use Rattle.apl_base.specs.Number.{IsNumber}
use Rattle.apl_base.proofs.Upward.{map-upward-same}
use Rattle.made_picks.specs.Picks.{IsReadable, cell_by}
use Rattle.made_picks.proofs.WalkLemmas.{line_first, line_scaled, line_number, one_cell}
use Rattle.made_picks.proofs.walks.pick_line.Goals as goal

pub number_on-first-requires-clause-number : goal.number_on-first-requires-clause-number
number_on-first-requires-clause-number c =
    let at = to_z-of_z w128 c.args.at c.ranges.at in
    let stride = to_z-of_z w128 c.args.stride c.ranges.stride in
    let from = to_z-of_z w128 c.args.from c.ranges.from in
    let some : 0 < c.args.count = omega (arith, c.if-count-eq0.false) in
    rw (at, stride, from) (line_first IsNumber c.args.at c.args.stride c.args.from c.args.step (c.requires.reached 0 some).number)

pub read_number-requires : goal.read_number-requires
read_number-requires c =
    let at = to_z-of_z w128 c.args.at c.ranges.at in
    let stride = to_z-of_z w128 c.args.stride c.ranges.stride in
    let from = to_z-of_z w128 c.args.from c.ranges.from in
    let first = to_z-of_z w128 c.number_on-first.result (record { sfits = c.number_on-first.type_inv }) in
    let is = rw (at, stride, from) at c.number_on-first.ensures in
    let some : 0 < c.args.count = omega (arith, c.if-count-eq0.false) in
    rw first (subst (IsReadable c.args.store.now c.args.leaf.now) (sym is) (line_first (IsReadable c.args.store.now c.args.leaf.now) c.args.at c.args.stride c.args.from c.args.step (c.requires.reached 0 some)))

pub returns-then-count-eq1-clause-cells : goal.returns-then-count-eq1-clause-cells
returns-then-count-eq1-clause-cells c =
    let at = to_z-of_z w128 c.args.at c.ranges.at in
    let stride = to_z-of_z w128 c.args.stride c.ranges.stride in
    let from = to_z-of_z w128 c.args.from c.ranges.from in
    let first = to_z-of_z w128 c.number_on-first.result (record { sfits = c.number_on-first.type_inv }) in
    let read = to_z-of_z w128 c.read_number.result (record { sfits = c.read_number.type_inv }) in
    let is = rw (at, stride, from) at c.number_on-first.ensures in
    let value = rw first at c.read_number.ensures.value in
    let pushed = rw read at c.push_cell.ensures.cells in
    let f : ℕ → ℤ = λ j. cell_by c.args.store.now c.args.leaf.now (c.args.at +ℤ (c.args.stride *ℤ (c.args.from +ℤ (c.args.step *ℤ pos j)))) in
    let here : c.read_number.result ≡ f 0 =
    value ∙ ap (cell_by c.args.store.now c.args.leaf.now) is ∙ line_first (λ (z : ℤ). cell_by c.args.store.now c.args.leaf.now z ≡ f 0) c.args.at c.args.stride c.args.from c.args.step refl in
    pushed ∙ ap (λ (x : ℤ). c.args.cells.now.items ++ x ∷ []) here ∙ ap (λ (xs : List ℤ). c.args.cells.now.items ++ xs) (sym (one_cell f c.args.count c.if-count-eq1.true))

pub scaled-requires : goal.scaled-requires
scaled-requires c =
    let stride = to_z-of_z w128 c.args.stride c.ranges.stride in
    let step = to_z-of_z w128 c.args.step c.ranges.step in
    let some : 0 < c.args.count = omega (arith, c.if-count-eq0.false) in
    let two : 1 < c.args.count = omega (arith, c.if-count-eq0.false, c.if-count-eq1.false) in
    rw (stride, step) (line_scaled c.args.at c.args.stride c.args.from c.args.step (c.requires.reached 0 some).number (c.requires.reached 1 two).number)

pub read_run-requires-clause-each : goal.read_run-requires-clause-each
read_run-requires-clause-each c =
    let at = to_z-of_z w128 c.args.at c.ranges.at in
    let stride = to_z-of_z w128 c.args.stride c.ranges.stride in
    let from = to_z-of_z w128 c.args.from c.ranges.from in
    let step = to_z-of_z w128 c.args.step c.ranges.step in
    let first = to_z-of_z w128 c.number_on-first.result (record { sfits = c.number_on-first.type_inv }) in
    let scale = to_z-of_z w128 c.scaled.result (record { sfits = c.scaled.type_inv }) in
    let is = rw (at, stride, from) at c.number_on-first.ensures in
    let times = rw (stride, step) at c.scaled.ensures in
    rw (first, scale) (λ j below. subst (IsReadable c.args.store.now c.args.leaf.now) (sym (line_number c.args.at c.args.stride c.args.from c.args.step c.number_on-first.result c.scaled.result j is times)) (c.requires.reached j below))

pub returns-clause-cells : goal.returns-clause-cells
returns-clause-cells c =
    let at = to_z-of_z w128 c.args.at c.ranges.at in
    let stride = to_z-of_z w128 c.args.stride c.ranges.stride in
    let from = to_z-of_z w128 c.args.from c.ranges.from in
    let step = to_z-of_z w128 c.args.step c.ranges.step in
    let first = to_z-of_z w128 c.number_on-first.result (record { sfits = c.number_on-first.type_inv }) in
    let scale = to_z-of_z w128 c.scaled.result (record { sfits = c.scaled.type_inv }) in
    let is = rw (at, stride, from) at c.number_on-first.ensures in
    let times = rw (stride, step) at c.scaled.ensures in
    let read = rw (first, scale) at c.read_run.ensures.cells in
    read ∙ ap (λ (xs : List ℤ). c.args.cells.now.items ++ xs)
    (map-upward-same (λ j. cell_by c.args.store.now c.args.leaf.now (c.number_on-first.result +ℤ (c.scaled.result *ℤ pos j))) (λ j. cell_by c.args.store.now c.args.leaf.now (c.args.at +ℤ (c.args.stride *ℤ (c.args.from +ℤ (c.args.step *ℤ pos j))))) 0 c.args.count
    (λ j low high. ap (cell_by c.args.store.now c.args.leaf.now) (line_number c.args.at c.args.stride c.args.from c.args.step c.number_on-first.result c.scaled.result j is times)))
