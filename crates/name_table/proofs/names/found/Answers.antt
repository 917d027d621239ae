use Rattle.std.proofs.Common.{◌-◌, ap, sym, ◌∙◌, arith}
use Rattle.apl_model.specs.Environment.{Bindings, bound_in}
use Rattle.drag_along.specs.declared.leaves.Leaf.{Leaf}
use Rattle.name_table.proofs.PlaceLemmas.{search-found, innermost-found, innermost-frame}
use Rattle.name_table.proofs.names.found.Goals as goal

pub returns-in-Some : goal.returns-in-Some
returns-in-Some c = λ globals.
    let frames = c.args.frames.now in
    let name = c.args.name.now in
    let frame = c.index-frames-level.result in
    let at = c.loop-level.level - 1 in
    let its = search-found frames name at c.loop-level.level frame (omega (arith, c.loop-level-test.true)) (omega (arith, c.loop-level-test.true, c.loop-level.auto.level)) c.index-frames-level.is c.in-Some.ensures.none c.loop-level.invariant in
    c.in-Some.ensures.bound
    ∙ ap (λ (f : Bindings Leaf). bound_in f name) (c.index-frames-level.is ∙ innermost-frame frames name at its frame)
    ∙ sym (innermost-found frames name at its globals)
