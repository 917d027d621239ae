use Rattle.std.proofs.Common.{◌≡◌, ℤ, List, length, drop, ap, ◌∙◌, arith}
use Rattle.apl_base.specs.declared.cells.Kind.{Kind}
use Rattle.apl_base.specs.Array.{size_of}
use Rattle.leaf_names.specs.Variables.{array_of}
use Rattle.product_fns.specs.Folding.{reduced_kind, rows_along, AreAllResults, HasUndefined}
use Rattle.product_fns.proofs.AnswerLemmas.{along_answered, along_undefined}
use Rattle.product_fns.proofs.GroupLemmas.{front}
use Rattle.product_fns.proofs.reductions.reduce_into.Goals as goal

pub returns-in-Ok-make_leaf-clause-answer : goal.returns-in-Ok-make_leaf-clause-answer
returns-in-Ok-make_leaf-clause-answer c =
    let results : List ℤ = c.fill_results.new.results in
    let many : length c.as_mut_slice.result.now ≡ size_of c.args.left.now = omega (arith, c.as_mut_slice.ensures.len, c.in-Ok.ensures.len, c.size.ensures.value) in
    let whole : c.resize.new.self.len ≡ length results = omega (arith, c.as_mut_slice.ensures.len, c.fill_results.auto.results) in
    let all : AreAllResults (rows_along c.args.f c.args.axis (array_of c.args.store.now c.args.b.now)) results = rw c.in-Ok-true.field-0-test at c.in-Ok-true.ensures.value in
    along_answered c.args.store.now c.fill_results.new.store c.make_leaf.new.store c.args.f c.args.axis c.args.b.now c.args.shape.now c.args.left.now _ results c.kind_of-kind.result c.len.result (length c.as_mut_slice.result.now) c.in-Ok-make_leaf.leaf
    c.requires.shape c.requires.left c.requires.fits c.requires.axis many c.fill_results.auto.results (front results (drop (length results) c.resize.new.self.items) c.resize.new.self.len whole)
    (c.kind_of-kind.ensures ∙ ap (λ (k : Kind). reduced_kind k c.len.result) c.kind.ensures) c.len.ensures.value all c.in-Ok-true.ensures.counted c.in-Ok-make_leaf.ensures.made

pub returns-in-Ok-false-clause-answer : goal.returns-in-Ok-false-clause-answer
returns-in-Ok-false-clause-answer c =
    let many : length c.as_mut_slice.result.now ≡ size_of c.args.left.now = omega (arith, c.as_mut_slice.ensures.len, c.in-Ok.ensures.len, c.size.ensures.value) in
    let undefined : HasUndefined (rows_along c.args.f c.args.axis (array_of c.args.store.now c.args.b.now)) (length c.as_mut_slice.result.now) = rw c.in-Ok-false.field-0-test at c.in-Ok-false.ensures.value in
    along_undefined c.args.store.now c.fill_results.new.store c.args.f c.args.axis c.args.b.now c.args.shape.now c.args.left.now (length c.as_mut_slice.result.now)
    c.requires.shape c.requires.left c.requires.fits c.requires.axis many c.requires.room undefined c.in-Ok-false.ensures.counted
