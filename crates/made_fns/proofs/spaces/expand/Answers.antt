use Rattle.std.proofs.Common.{◌≡◌, ◌∙◌, pos, refl, sym, ap, length, arith}
use Rattle.apl_base.specs.Array.{Array, IsArray, size_of}
use Rattle.array_store.proofs.CountingLemmas.{OnlyFetched-then, OnlyFetched-more}
use Rattle.apl_model.specs.Made.{ones}
use Rattle.apl_model_laws.proofs.Axes.{expand-gives}
use Rattle.leaf_names.specs.Variables.{array_of}
use Rattle.made_leaf.proofs.MadeLemmas.{leaf_is_array, counted_room}
use Rattle.made_fns.specs.Answers.{spaced_array, elements_in}
use Rattle.made_fns.proofs.Finish.{error_ends, room_ends, memory_ends, leaf_ends, array_lawful, cells_lawful, same_array}
use Rattle.made_fns.proofs.Lengths.{array_of-counted, length-array_of}
use Rattle.made_fns.proofs.SpaceLemmas.{length-spaced, kind-spaced, spaced_shape_is}
use Rattle.made_fns.proofs.ScanLemmas.{ones-few}
use Rattle.made_fns.proofs.spaces.expand.Goals as goal

pub spaced_shape-requires-clause-few : goal.spaced_shape-requires-clause-few
spaced_shape-requires-clause-few c =
    let t = c.bits_axis.new.store in
    omega (arith, c.ones_of-count.ensures.value, ones-few (array_of t c.args.a.now).cells, length-array_of t c.args.a.now, c.in_ok-along.ensures.lawful.0.shape.product)

pub fill_spaced-requires-clause-few : goal.fill_spaced-requires-clause-few
fill_spaced-requires-clause-few c =
    let t = c.bits_axis.new.store in
    omega (arith, c.ones_of-count.ensures.value, ones-few (array_of t c.args.a.now).cells, length-array_of t c.args.a.now, c.in_ok-along.ensures.lawful.0.shape.product)

pub returns-in_err-shape-clause-made : goal.returns-in_err-shape-clause-made
returns-in_err-shape-clause-made c =
    let s = c.args.store.now in
    let k = c.in_ok-along.along in
    let one = c.in_ok-along.ensures.counted in
    let a = array_of s c.args.a.now in
    let b = array_of s c.args.b.now in
    let two = OnlyFetched-then _ _ _ _ _ one c.ones_of-count.ensures.counted in
    let count : c.ones_of-count.result ≡ ones a.cells = c.ones_of-count.ensures.value ∙ ap (λ (x : Array). ones x.cells) (array_of-counted s _ c.args.a.now one.only) in
    error_ends s _ _ _ _ _ c.from_residual-in_err-shape.ensures.1 (c.in_ok-along.ensures.array ∙ c.in_err-shape.ensures.refused s count) (OnlyFetched-more _ _ _ _ (omega arith) two)

pub returns-in_err-cells-clause-made : goal.returns-in_err-cells-clause-made
returns-in_err-cells-clause-made c =
    let s = c.args.store.now in
    let k = c.in_ok-along.along in
    let one = c.in_ok-along.ensures.counted in
    let a = array_of s c.args.a.now in
    let b = array_of s c.args.b.now in
    let two = OnlyFetched-then _ _ _ _ _ one c.ones_of-count.ensures.counted in
    let count : c.ones_of-count.result ≡ ones a.cells = c.ones_of-count.ensures.value ∙ ap (λ (x : Array). ones x.cells) (array_of-counted s _ c.args.a.now one.only) in
    let shape : c.in_ok-shape.shape ≡ (spaced_array k a b).shape = c.in_ok-shape.ensures.shape s ∙ spaced_shape_is k c.ones_of-count.result (elements_in c.args.a.now) a b count (sym (length-array_of s c.args.a.now)) in
    let is = c.in_ok-along.ensures.array ∙ c.in_ok-shape.ensures.array s count in
    let many : length (spaced_array k a b).cells ≡ c.size-size.result = length-spaced k a b ∙ ap size_of (sym shape) ∙ sym c.size-size.ensures.value in
    room_ends s _ _ _ _ _ _ _ c.from_residual-in_err-cells.ensures.1 is many (OnlyFetched-more _ _ _ _ (omega arith) two) c.in_err-cells.ensures.refused

pub fill_spaced-requires-clause-count : goal.fill_spaced-requires-clause-count
fill_spaced-requires-clause-count c =
    let s = c.args.store.now in
    let k = c.in_ok-along.along in
    let one = c.in_ok-along.ensures.counted in
    let a = array_of s c.args.a.now in
    let b = array_of s c.args.b.now in
    let two = OnlyFetched-then _ _ _ _ _ one c.ones_of-count.ensures.counted in
    let count : c.ones_of-count.result ≡ ones a.cells = c.ones_of-count.ensures.value ∙ ap (λ (x : Array). ones x.cells) (array_of-counted s _ c.args.a.now one.only) in
    let p2 : array_of c.ones_of-count.new.store c.args.a.now ≡ a = array_of-counted s _ c.args.a.now two.only in
    let q2 : array_of c.ones_of-count.new.store c.args.b.now ≡ b = array_of-counted s _ c.args.b.now two.only in
    count ∙ ap (λ (x : Array). ones x.cells) (sym p2)

pub fill_spaced-requires-clause-can : goal.fill_spaced-requires-clause-can
fill_spaced-requires-clause-can c =
    c.in_ok-shape.ensures.can c.ones_of-count.new.store

pub fill_spaced-requires-clause-shape : goal.fill_spaced-requires-clause-shape
fill_spaced-requires-clause-shape c =
    let s = c.args.store.now in
    let k = c.in_ok-along.along in
    let one = c.in_ok-along.ensures.counted in
    let a = array_of s c.args.a.now in
    let b = array_of s c.args.b.now in
    let two = OnlyFetched-then _ _ _ _ _ one c.ones_of-count.ensures.counted in
    let count : c.ones_of-count.result ≡ ones a.cells = c.ones_of-count.ensures.value ∙ ap (λ (x : Array). ones x.cells) (array_of-counted s _ c.args.a.now one.only) in
    let shape : c.in_ok-shape.shape ≡ (spaced_array k a b).shape = c.in_ok-shape.ensures.shape s ∙ spaced_shape_is k c.ones_of-count.result (elements_in c.args.a.now) a b count (sym (length-array_of s c.args.a.now)) in
    let is = c.in_ok-along.ensures.array ∙ c.in_ok-shape.ensures.array s count in
    let p2 : array_of c.ones_of-count.new.store c.args.a.now ≡ a = array_of-counted s _ c.args.a.now two.only in
    let q2 : array_of c.ones_of-count.new.store c.args.b.now ≡ b = array_of-counted s _ c.args.b.now two.only in
    shape ∙ sym (ap (λ (x : Array). (spaced_array k x (array_of c.ones_of-count.new.store c.args.b.now)).shape) p2 ∙ ap (λ (y : Array). (spaced_array k a y).shape) q2)

pub returns-in_err-fill_spaced-clause-made : goal.returns-in_err-fill_spaced-clause-made
returns-in_err-fill_spaced-clause-made c =
    let s = c.args.store.now in
    let k = c.in_ok-along.along in
    let one = c.in_ok-along.ensures.counted in
    let a = array_of s c.args.a.now in
    let b = array_of s c.args.b.now in
    let two = OnlyFetched-then _ _ _ _ _ one c.ones_of-count.ensures.counted in
    let count : c.ones_of-count.result ≡ ones a.cells = c.ones_of-count.ensures.value ∙ ap (λ (x : Array). ones x.cells) (array_of-counted s _ c.args.a.now one.only) in
    let shape : c.in_ok-shape.shape ≡ (spaced_array k a b).shape = c.in_ok-shape.ensures.shape s ∙ spaced_shape_is k c.ones_of-count.result (elements_in c.args.a.now) a b count (sym (length-array_of s c.args.a.now)) in
    let is = c.in_ok-along.ensures.array ∙ c.in_ok-shape.ensures.array s count in
    let many : length (spaced_array k a b).cells ≡ c.size-size.result = length-spaced k a b ∙ ap size_of (sym shape) ∙ sym c.size-size.ensures.value in
    memory_ends s _ _ _ _ _ c.size-size.result _ c.from_residual-in_err-fill_spaced.ensures.1 is many (counted_room s _ _ two.only c.in_ok-cells.ensures.within)
    (OnlyFetched-more _ _ _ _ (omega arith) (OnlyFetched-then _ _ _ _ _ two c.in_err-fill_spaced.ensures.counted)) refl

pub make_leaf-requires-clause-count : goal.make_leaf-requires-clause-count
make_leaf-requires-clause-count c =
    let s = c.args.store.now in
    let k = c.in_ok-along.along in
    let one = c.in_ok-along.ensures.counted in
    let a = array_of s c.args.a.now in
    let b = array_of s c.args.b.now in
    let two = OnlyFetched-then _ _ _ _ _ one c.ones_of-count.ensures.counted in
    let count : c.ones_of-count.result ≡ ones a.cells = c.ones_of-count.ensures.value ∙ ap (λ (x : Array). ones x.cells) (array_of-counted s _ c.args.a.now one.only) in
    let shape : c.in_ok-shape.shape ≡ (spaced_array k a b).shape = c.in_ok-shape.ensures.shape s ∙ spaced_shape_is k c.ones_of-count.result (elements_in c.args.a.now) a b count (sym (length-array_of s c.args.a.now)) in
    let is = c.in_ok-along.ensures.array ∙ c.in_ok-shape.ensures.array s count in
    let p2 : array_of c.ones_of-count.new.store c.args.a.now ≡ a = array_of-counted s _ c.args.a.now two.only in
    let q2 : array_of c.ones_of-count.new.store c.args.b.now ≡ b = array_of-counted s _ c.args.b.now two.only in
    let are : c.fill_spaced.new.cells.items ≡ (spaced_array k a b).cells = c.in_ok-fill_spaced.ensures.cells ∙ ap (λ (x : Array). (spaced_array k x (array_of c.ones_of-count.new.store c.args.b.now)).cells) p2 ∙ ap (λ (y : Array). (spaced_array k a y).cells) q2 in
    ap length are ∙ length-spaced k a b ∙ ap size_of (sym shape)

pub make_leaf-requires-clause-lawful : goal.make_leaf-requires-clause-lawful
make_leaf-requires-clause-lawful c =
    let s = c.args.store.now in
    let k = c.in_ok-along.along in
    let one = c.in_ok-along.ensures.counted in
    let a = array_of s c.args.a.now in
    let b = array_of s c.args.b.now in
    let two = OnlyFetched-then _ _ _ _ _ one c.ones_of-count.ensures.counted in
    let count : c.ones_of-count.result ≡ ones a.cells = c.ones_of-count.ensures.value ∙ ap (λ (x : Array). ones x.cells) (array_of-counted s _ c.args.a.now one.only) in
    let shape : c.in_ok-shape.shape ≡ (spaced_array k a b).shape = c.in_ok-shape.ensures.shape s ∙ spaced_shape_is k c.ones_of-count.result (elements_in c.args.a.now) a b count (sym (length-array_of s c.args.a.now)) in
    let is = c.in_ok-along.ensures.array ∙ c.in_ok-shape.ensures.array s count in
    let p2 : array_of c.ones_of-count.new.store c.args.a.now ≡ a = array_of-counted s _ c.args.a.now two.only in
    let q2 : array_of c.ones_of-count.new.store c.args.b.now ≡ b = array_of-counted s _ c.args.b.now two.only in
    let are : c.fill_spaced.new.cells.items ≡ (spaced_array k a b).cells = c.in_ok-fill_spaced.ensures.cells ∙ ap (λ (x : Array). (spaced_array k x (array_of c.ones_of-count.new.store c.args.b.now)).cells) p2 ∙ ap (λ (y : Array). (spaced_array k a y).cells) q2 in
    let y : IsArray b = leaf_is_array s c.args.b.now c.counts-counts.ensures.store c.in_ok-along.ensures.lawful.1 c.requires.b in
    let whole : IsArray (spaced_array k a b) = array_lawful _ _ (expand-gives (pos 1) c.args.axis a b y) is in
    cells_lawful (spaced_array k a b) _ _ whole (c.kind.ensures ∙ sym (kind-spaced k a b)) are

pub returns-in_err-make_leaf-clause-made : goal.returns-in_err-make_leaf-clause-made
returns-in_err-make_leaf-clause-made c =
    let s = c.args.store.now in
    let k = c.in_ok-along.along in
    let one = c.in_ok-along.ensures.counted in
    let a = array_of s c.args.a.now in
    let b = array_of s c.args.b.now in
    let two = OnlyFetched-then _ _ _ _ _ one c.ones_of-count.ensures.counted in
    let count : c.ones_of-count.result ≡ ones a.cells = c.ones_of-count.ensures.value ∙ ap (λ (x : Array). ones x.cells) (array_of-counted s _ c.args.a.now one.only) in
    let shape : c.in_ok-shape.shape ≡ (spaced_array k a b).shape = c.in_ok-shape.ensures.shape s ∙ spaced_shape_is k c.ones_of-count.result (elements_in c.args.a.now) a b count (sym (length-array_of s c.args.a.now)) in
    let is = c.in_ok-along.ensures.array ∙ c.in_ok-shape.ensures.array s count in
    let many : length (spaced_array k a b).cells ≡ c.size-size.result = length-spaced k a b ∙ ap size_of (sym shape) ∙ sym c.size-size.ensures.value in
    memory_ends s _ _ _ _ _ c.size-size.result _ c.from_residual-in_err-make_leaf.ensures.1 is many (counted_room s _ _ two.only c.in_ok-cells.ensures.within)
    (OnlyFetched-more _ _ _ _ (omega arith) (OnlyFetched-then _ _ _ _ _ two c.in_ok-fill_spaced.ensures.counted)) c.in_err-make_leaf.ensures.unchanged

pub returns-clause-made : goal.returns-clause-made
returns-clause-made c =
    let s = c.args.store.now in
    let k = c.in_ok-along.along in
    let one = c.in_ok-along.ensures.counted in
    let a = array_of s c.args.a.now in
    let b = array_of s c.args.b.now in
    let two = OnlyFetched-then _ _ _ _ _ one c.ones_of-count.ensures.counted in
    let count : c.ones_of-count.result ≡ ones a.cells = c.ones_of-count.ensures.value ∙ ap (λ (x : Array). ones x.cells) (array_of-counted s _ c.args.a.now one.only) in
    let shape : c.in_ok-shape.shape ≡ (spaced_array k a b).shape = c.in_ok-shape.ensures.shape s ∙ spaced_shape_is k c.ones_of-count.result (elements_in c.args.a.now) a b count (sym (length-array_of s c.args.a.now)) in
    let is = c.in_ok-along.ensures.array ∙ c.in_ok-shape.ensures.array s count in
    let p2 : array_of c.ones_of-count.new.store c.args.a.now ≡ a = array_of-counted s _ c.args.a.now two.only in
    let q2 : array_of c.ones_of-count.new.store c.args.b.now ≡ b = array_of-counted s _ c.args.b.now two.only in
    let are : c.fill_spaced.new.cells.items ≡ (spaced_array k a b).cells = c.in_ok-fill_spaced.ensures.cells ∙ ap (λ (x : Array). (spaced_array k x (array_of c.ones_of-count.new.store c.args.b.now)).cells) p2 ∙ ap (λ (y : Array). (spaced_array k a y).cells) q2 in
    leaf_ends s _ _ _ _ _ _ _ is (same_array (c.kind.ensures ∙ sym (kind-spaced k a b)) shape are) (OnlyFetched-more _ _ _ _ (omega arith) (OnlyFetched-then _ _ _ _ _ two c.in_ok-fill_spaced.ensures.counted)) c.in_ok-make_leaf.ensures.made
