use Rattle.std.proofs.Common.{◌≡◌, ◌+◌, ◌-◌, ◌++◌, ◌∙◌, ℤ, List, length, vec_len, refl, ap, sym, subst, arith, rules}
use Rattle.array_store.specs.Counting.{OnlyFetched}
use Rattle.e_machine.specs.Forced.{cells_from}
use Rattle.made_fns.specs.Answers.{elements_in}
use Rattle.made_fns.proofs.MarkLemmas.{marked_block, room_block, long_from, marked_done}
use Rattle.made_fns.proofs.ScanLemmas.{block_many, block_behind, cells_all, fetched_more}
use Rattle.made_fns.proofs.marks.keep_marked.Goals as goal

pub append_marked-requires-clause-room : goal.append_marked-requires-clause-room
append_marked-requires-clause-room c =
    let s = c.args.store.now in
    let a = c.args.a.now in
    let done = c.loop-done.done in
    let next = c.loop-done.done + c.min-more.result in
    let many = block_many c.min-more.result c.elements-count.result done 64 c.loop-done.marks (search rules) c.min-more.ensures in
    let bits = block_behind s c.loop-done.store a done c.min-more.result _ _ c.loop-done.invariant.1.only many c.read_block.ensures.cells in
    let all = cells_all s a next (omega (arith, c.min-more.ensures, c.loop-done.invariant.3, c.elements-count.ensures.value)) in
    let now : length c.loop-done.cells.items ≡ vec_len c.loop-done.cells = search rules in
    let room = room_block (cells_from s a 0 done) (cells_from s c.args.b.now 0 done) c.read_block.new.into (cells_from s a next (elements_in a - next)) _ c.loop-done.cells.items
    (all ∙ ap (λ (xs : List ℤ). xs ++ cells_from s a next (elements_in a - next)) bits) (long_from s a done ∙ sym (long_from s c.args.b.now done)) c.loop-done.invariant.0 in
    omega (arith, now, room, c.requires.room, c.loop-done.invariant.4)

pub loop-done-preserved : goal.loop-done-preserved
loop-done-preserved c =
    let s = c.args.store.now in
    let a = c.args.a.now in
    let b = c.args.b.now in
    let done = c.loop-done.done in
    let more = c.min-more.result in
    let many_a = block_many more c.elements-count.result done 64 c.loop-done.marks (search rules) c.min-more.ensures in
    let many_b = block_many more c.elements-count.result done 64 c.loop-done.block (search rules) c.min-more.ensures in
    let one = fetched_more s c.loop-done.store c.read_block.new.store a (done + done) more _ c.loop-done.invariant.2 many_a c.loop-done.invariant.1 c.read_block.ensures.counted in
    let two = fetched_more s c.read_block.new.store c.read_block-in-loop-done.new.store b (done + done + more) more _ c.read_block.ensures.store many_b one c.read_block-in-loop-done.ensures.counted in
    let bits = block_behind s c.loop-done.store a done more _ _ c.loop-done.invariant.1.only many_a c.read_block.ensures.cells in
    let part = block_behind s c.read_block.new.store b done more _ _ one.only many_b c.read_block-in-loop-done.ensures.cells in
    let all : done + done + more + more ≡ done + more + (done + more) = omega arith in (
      marked_block (cells_from s a 0 done) (cells_from s b 0 done) c.read_block.new.into c.read_block-in-loop-done.new.into _ _ c.loop-done.cells.items c.append_marked.new.cells.items _
          bits part (long_from s a done ∙ sym (long_from s b done)) (search rules) c.loop-done.invariant.0 refl c.append_marked.ensures.items,
      subst (OnlyFetched s c.read_block-in-loop-done.new.store) all two,
      c.read_block-in-loop-done.ensures.store,
      omega (arith, c.min-more.ensures, c.loop-done.invariant.3),
      omega (arith, c.loop-done.invariant.4, c.append_marked.ensures.capacity),
    )

pub returns-clause-cells : goal.returns-clause-cells
returns-clause-cells c =
    marked_done c.args.store.now c.args.a.now c.args.b.now c.loop-done.done c.loop-done.cells.items c.requires.same (omega (arith, c.loop-done-test.false, c.loop-done.invariant.3, c.elements-count.ensures.value)) c.loop-done.invariant.0
