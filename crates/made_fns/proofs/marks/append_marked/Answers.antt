use Rattle.std.proofs.Common.{◌≡◌, length, get_or, vec_len, refl, arith, rules, pos, to_z-of_z, FitsSigned}
use Rattle.std.specs.Int.{w128}
use Rattle.made_fns.proofs.MarkLemmas.{marked_step, marked_room, marked_all}
use Rattle.made_fns.proofs.marks.append_marked.Goals as goal

pub append_at-requires : goal.append_at-requires
append_at-requires c =
    let now : length c.loop-i.cells.items ≡ vec_len c.loop-i.cells = search rules in
    let old : length c.args.cells.now.items ≡ vec_len c.args.cells.now = search rules in
    omega (arith, now, old, marked_room c.args.bits.now c.args.items.now c.loop-i.i _ c.args.cells.now.items c.loop-i.cells.items c.loop-i-test.true c.requires.same refl c.loop-i.invariant.0, c.requires.room, c.loop-i.invariant.1)

pub loop-i-preserved : goal.loop-i-preserved
loop-i-preserved c =
    let fits : FitsSigned w128 (get_or c.args.items.now c.loop-i.i (pos 0)) = search rules in (
      marked_step c.args.bits.now c.args.items.now c.loop-i.i _ _ c.args.cells.now.items c.loop-i.cells.items _ c.loop-i-test.true c.requires.same refl (to_z-of_z {w = w128} {z = get_or c.args.items.now c.loop-i.i (pos 0)} fits) c.loop-i.invariant.0 c.append_at.ensures.items,
      omega (arith, c.loop-i.invariant.1, c.append_at.ensures.capacity),
    )

pub returns-clause-items : goal.returns-clause-items
returns-clause-items c =
    marked_all c.args.bits.now c.args.items.now c.loop-i.i c.args.cells.now.items c.loop-i.cells.items (omega arith) c.requires.same c.loop-i.invariant.0
