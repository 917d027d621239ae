use Rattle.std.proofs.Common.{◌≡◌, ℤ, List, length, drop, arith}
use Rattle.apl_base.specs.Array.{size_of}
use Rattle.leaf_names.specs.Variables.{array_of}
use Rattle.product_fns.specs.Inner.{AreInnerResults, HasUndefinedInner}
use Rattle.product_fns.proofs.GroupLemmas.{front}
use Rattle.product_fns.proofs.InnerAnswers.{inner_answered, inner_undefined}
use Rattle.product_fns.proofs.inners.inner_into.Goals as goal

pub returns-in-Ok-make_leaf-clause-answer : goal.returns-in-Ok-make_leaf-clause-answer
returns-in-Ok-make_leaf-clause-answer c =
    let results : List ℤ = c.fill_inner.new.results in
    let many : length c.as_mut_slice.result.now ≡ size_of c.args.shape.now = omega (arith, c.as_mut_slice.ensures.len, c.in-Ok.ensures.len, c.size.ensures.value) in
    let whole : c.resize.new.self.len ≡ length results = omega (arith, c.as_mut_slice.ensures.len, c.fill_inner.auto.results) in
    let all : AreInnerResults c.args.f c.args.g (array_of c.args.store.now c.args.a.now) (array_of c.args.store.now c.args.b.now) results = rw c.in-Ok-true.field-0-test at c.in-Ok-true.ensures.value in
    inner_answered c.args.store.now c.fill_inner.new.store c.make_leaf.new.store c.args.f c.args.g c.args.a.now c.args.b.now c.args.shape.now _ results c.args.n (length c.as_mut_slice.result.now) c.in-Ok-make_leaf.leaf
    c.requires.goes c.requires.shape c.requires.fits many c.fill_inner.auto.results (front results (drop (length results) c.resize.new.self.items) c.resize.new.self.len whole) all c.in-Ok-true.ensures.counted c.in-Ok-make_leaf.ensures.made

pub returns-in-Ok-false-clause-answer : goal.returns-in-Ok-false-clause-answer
returns-in-Ok-false-clause-answer c =
    let many : length c.as_mut_slice.result.now ≡ size_of c.args.shape.now = omega (arith, c.as_mut_slice.ensures.len, c.in-Ok.ensures.len, c.size.ensures.value) in
    let undefined : HasUndefinedInner c.args.f c.args.g (array_of c.args.store.now c.args.a.now) (array_of c.args.store.now c.args.b.now) (length c.as_mut_slice.result.now) = rw c.in-Ok-false.field-0-test at c.in-Ok-false.ensures.value in
    inner_undefined c.args.store.now c.fill_inner.new.store c.args.f c.args.g c.args.a.now c.args.b.now c.args.shape.now c.args.n (length c.as_mut_slice.result.now)
    c.requires.goes c.requires.shape c.requires.fits many c.requires.room undefined c.in-Ok-false.ensures.counted
