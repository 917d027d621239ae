use Rattle.std.proofs.Common.{◌≡◌, ◌∙◌, pos, refl, sym, ap, length, subst, arith}
use Rattle.apl_base.specs.Array.{Array, IsArray, IsShape, size_of}
use Rattle.array_store.proofs.CountingLemmas.{OnlyFetched-then, OnlyFetched-more}
use Rattle.apl_model_laws.proofs.Axes.{compress-gives}
use Rattle.leaf_names.specs.Variables.{array_of}
use Rattle.made_leaf.proofs.MadeLemmas.{leaf_is_array, counted_room}
use Rattle.made_fns.specs.Answers.{kept_array}
use Rattle.made_fns.proofs.Finish.{room_ends, memory_ends, leaf_ends, array_lawful, cells_lawful, same_array}
use Rattle.made_fns.proofs.Lengths.{array_of-counted}
use Rattle.made_fns.proofs.KeepLemmas.{length-kept, kind-kept}
use Rattle.made_fns.proofs.keeps.compress.Goals as goal

pub kept_shape-shape-requires-clause-can : goal.kept_shape-shape-requires-clause-can
kept_shape-shape-requires-clause-can c =
    c.in_ok-along.ensures.can c.kept_axis.new.store

pub kept_shape-shape-requires-clause-lawful : goal.kept_shape-shape-requires-clause-lawful
kept_shape-shape-requires-clause-lawful c =
    let s = c.args.store.now in
    let k = c.in_ok-along.along in
    let one = c.in_ok-along.ensures.counted in
    let a = array_of s c.args.a.now in
    let b = array_of s c.args.b.now in
    let p : array_of c.kept_axis.new.store c.args.a.now ≡ a = array_of-counted s _ c.args.a.now one.only in
    let q : array_of c.kept_axis.new.store c.args.b.now ≡ b = array_of-counted s _ c.args.b.now one.only in
    let x : IsArray a = leaf_is_array s c.args.a.now c.counts-counts.ensures.store c.in_ok-along.ensures.lawful.0 c.requires.a in
    let y : IsArray b = leaf_is_array s c.args.b.now c.counts-counts.ensures.store c.in_ok-along.ensures.lawful.1 c.requires.b in
    let whole : IsArray (kept_array k a b) = array_lawful _ _ (compress-gives (pos 1) c.args.axis a b x y) c.in_ok-along.ensures.array in
    subst (λ (z : Array). IsShape (kept_array k z (array_of c.kept_axis.new.store c.args.b.now)).shape) (sym p) (subst (λ (z : Array). IsShape (kept_array k a z).shape) (sym q) whole.shape)

pub returns-in_err-cells-clause-made : goal.returns-in_err-cells-clause-made
returns-in_err-cells-clause-made c =
    let s = c.args.store.now in
    let k = c.in_ok-along.along in
    let one = c.in_ok-along.ensures.counted in
    let a = array_of s c.args.a.now in
    let b = array_of s c.args.b.now in
    let p : array_of c.kept_axis.new.store c.args.a.now ≡ a = array_of-counted s _ c.args.a.now one.only in
    let q : array_of c.kept_axis.new.store c.args.b.now ≡ b = array_of-counted s _ c.args.b.now one.only in
    let shape : c.kept_shape-shape.result ≡ (kept_array k a b).shape = c.kept_shape-shape.ensures.shape ∙ ap (λ (x : Array). (kept_array k x (array_of c.kept_axis.new.store c.args.b.now)).shape) p ∙ ap (λ (y : Array). (kept_array k a y).shape) q in
    let two = OnlyFetched-then _ _ _ _ _ one c.kept_shape-shape.ensures.counted in
    let many : length (kept_array k a b).cells ≡ c.size-size.result = length-kept k a b ∙ ap size_of (sym shape) ∙ sym c.size-size.ensures.value in
    room_ends s _ _ _ _ _ _ _ c.from_residual-in_err-cells.ensures.1 c.in_ok-along.ensures.array many (OnlyFetched-more _ _ _ _ (omega arith) two) c.in_err-cells.ensures.refused

pub fill_kept-requires-clause-can : goal.fill_kept-requires-clause-can
fill_kept-requires-clause-can c =
    c.in_ok-along.ensures.can c.kept_shape-shape.new.store

pub fill_kept-requires-clause-shape : goal.fill_kept-requires-clause-shape
fill_kept-requires-clause-shape c =
    let s = c.args.store.now in
    let k = c.in_ok-along.along in
    let one = c.in_ok-along.ensures.counted in
    let a = array_of s c.args.a.now in
    let b = array_of s c.args.b.now in
    let p : array_of c.kept_axis.new.store c.args.a.now ≡ a = array_of-counted s _ c.args.a.now one.only in
    let q : array_of c.kept_axis.new.store c.args.b.now ≡ b = array_of-counted s _ c.args.b.now one.only in
    let shape : c.kept_shape-shape.result ≡ (kept_array k a b).shape = c.kept_shape-shape.ensures.shape ∙ ap (λ (x : Array). (kept_array k x (array_of c.kept_axis.new.store c.args.b.now)).shape) p ∙ ap (λ (y : Array). (kept_array k a y).shape) q in
    let two = OnlyFetched-then _ _ _ _ _ one c.kept_shape-shape.ensures.counted in
    let p2 : array_of c.kept_shape-shape.new.store c.args.a.now ≡ a = array_of-counted s _ c.args.a.now two.only in
    let q2 : array_of c.kept_shape-shape.new.store c.args.b.now ≡ b = array_of-counted s _ c.args.b.now two.only in
    shape ∙ sym (ap (λ (x : Array). (kept_array k x (array_of c.kept_shape-shape.new.store c.args.b.now)).shape) p2 ∙ ap (λ (y : Array). (kept_array k a y).shape) q2)

pub returns-in_err-fill_kept-clause-made : goal.returns-in_err-fill_kept-clause-made
returns-in_err-fill_kept-clause-made c =
    let s = c.args.store.now in
    let k = c.in_ok-along.along in
    let one = c.in_ok-along.ensures.counted in
    let a = array_of s c.args.a.now in
    let b = array_of s c.args.b.now in
    let p : array_of c.kept_axis.new.store c.args.a.now ≡ a = array_of-counted s _ c.args.a.now one.only in
    let q : array_of c.kept_axis.new.store c.args.b.now ≡ b = array_of-counted s _ c.args.b.now one.only in
    let shape : c.kept_shape-shape.result ≡ (kept_array k a b).shape = c.kept_shape-shape.ensures.shape ∙ ap (λ (x : Array). (kept_array k x (array_of c.kept_axis.new.store c.args.b.now)).shape) p ∙ ap (λ (y : Array). (kept_array k a y).shape) q in
    let two = OnlyFetched-then _ _ _ _ _ one c.kept_shape-shape.ensures.counted in
    let many : length (kept_array k a b).cells ≡ c.size-size.result = length-kept k a b ∙ ap size_of (sym shape) ∙ sym c.size-size.ensures.value in
    memory_ends s _ _ _ _ _ c.size-size.result _ c.from_residual-in_err-fill_kept.ensures.1 c.in_ok-along.ensures.array many (counted_room s _ _ two.only c.in_ok-cells.ensures.within)
    (OnlyFetched-more _ _ _ _ (omega arith) (OnlyFetched-then _ _ _ _ _ two c.in_err-fill_kept.ensures.counted)) refl

pub make_leaf-requires-clause-count : goal.make_leaf-requires-clause-count
make_leaf-requires-clause-count c =
    let s = c.args.store.now in
    let k = c.in_ok-along.along in
    let one = c.in_ok-along.ensures.counted in
    let a = array_of s c.args.a.now in
    let b = array_of s c.args.b.now in
    let p : array_of c.kept_axis.new.store c.args.a.now ≡ a = array_of-counted s _ c.args.a.now one.only in
    let q : array_of c.kept_axis.new.store c.args.b.now ≡ b = array_of-counted s _ c.args.b.now one.only in
    let shape : c.kept_shape-shape.result ≡ (kept_array k a b).shape = c.kept_shape-shape.ensures.shape ∙ ap (λ (x : Array). (kept_array k x (array_of c.kept_axis.new.store c.args.b.now)).shape) p ∙ ap (λ (y : Array). (kept_array k a y).shape) q in
    let two = OnlyFetched-then _ _ _ _ _ one c.kept_shape-shape.ensures.counted in
    let p2 : array_of c.kept_shape-shape.new.store c.args.a.now ≡ a = array_of-counted s _ c.args.a.now two.only in
    let q2 : array_of c.kept_shape-shape.new.store c.args.b.now ≡ b = array_of-counted s _ c.args.b.now two.only in
    let are : c.fill_kept.new.cells.items ≡ (kept_array k a b).cells = c.in_ok-fill_kept.ensures.cells ∙ ap (λ (x : Array). (kept_array k x (array_of c.kept_shape-shape.new.store c.args.b.now)).cells) p2 ∙ ap (λ (y : Array). (kept_array k a y).cells) q2 in
    ap length are ∙ length-kept k a b ∙ ap size_of (sym shape)

pub make_leaf-requires-clause-lawful : goal.make_leaf-requires-clause-lawful
make_leaf-requires-clause-lawful c =
    let s = c.args.store.now in
    let k = c.in_ok-along.along in
    let one = c.in_ok-along.ensures.counted in
    let a = array_of s c.args.a.now in
    let b = array_of s c.args.b.now in
    let p : array_of c.kept_axis.new.store c.args.a.now ≡ a = array_of-counted s _ c.args.a.now one.only in
    let q : array_of c.kept_axis.new.store c.args.b.now ≡ b = array_of-counted s _ c.args.b.now one.only in
    let shape : c.kept_shape-shape.result ≡ (kept_array k a b).shape = c.kept_shape-shape.ensures.shape ∙ ap (λ (x : Array). (kept_array k x (array_of c.kept_axis.new.store c.args.b.now)).shape) p ∙ ap (λ (y : Array). (kept_array k a y).shape) q in
    let two = OnlyFetched-then _ _ _ _ _ one c.kept_shape-shape.ensures.counted in
    let p2 : array_of c.kept_shape-shape.new.store c.args.a.now ≡ a = array_of-counted s _ c.args.a.now two.only in
    let q2 : array_of c.kept_shape-shape.new.store c.args.b.now ≡ b = array_of-counted s _ c.args.b.now two.only in
    let are : c.fill_kept.new.cells.items ≡ (kept_array k a b).cells = c.in_ok-fill_kept.ensures.cells ∙ ap (λ (x : Array). (kept_array k x (array_of c.kept_shape-shape.new.store c.args.b.now)).cells) p2 ∙ ap (λ (y : Array). (kept_array k a y).cells) q2 in
    let x : IsArray a = leaf_is_array s c.args.a.now c.counts-counts.ensures.store c.in_ok-along.ensures.lawful.0 c.requires.a in
    let y : IsArray b = leaf_is_array s c.args.b.now c.counts-counts.ensures.store c.in_ok-along.ensures.lawful.1 c.requires.b in
    let whole : IsArray (kept_array k a b) = array_lawful _ _ (compress-gives (pos 1) c.args.axis a b x y) c.in_ok-along.ensures.array in
    cells_lawful (kept_array k a b) _ _ whole (c.kind.ensures ∙ sym (kind-kept k a b)) are

pub returns-in_err-make_leaf-clause-made : goal.returns-in_err-make_leaf-clause-made
returns-in_err-make_leaf-clause-made c =
    let s = c.args.store.now in
    let k = c.in_ok-along.along in
    let one = c.in_ok-along.ensures.counted in
    let a = array_of s c.args.a.now in
    let b = array_of s c.args.b.now in
    let p : array_of c.kept_axis.new.store c.args.a.now ≡ a = array_of-counted s _ c.args.a.now one.only in
    let q : array_of c.kept_axis.new.store c.args.b.now ≡ b = array_of-counted s _ c.args.b.now one.only in
    let shape : c.kept_shape-shape.result ≡ (kept_array k a b).shape = c.kept_shape-shape.ensures.shape ∙ ap (λ (x : Array). (kept_array k x (array_of c.kept_axis.new.store c.args.b.now)).shape) p ∙ ap (λ (y : Array). (kept_array k a y).shape) q in
    let two = OnlyFetched-then _ _ _ _ _ one c.kept_shape-shape.ensures.counted in
    let many : length (kept_array k a b).cells ≡ c.size-size.result = length-kept k a b ∙ ap size_of (sym shape) ∙ sym c.size-size.ensures.value in
    memory_ends s _ _ _ _ _ c.size-size.result _ c.from_residual-in_err-make_leaf.ensures.1 c.in_ok-along.ensures.array many (counted_room s _ _ two.only c.in_ok-cells.ensures.within)
    (OnlyFetched-more _ _ _ _ (omega arith) (OnlyFetched-then _ _ _ _ _ two c.in_ok-fill_kept.ensures.counted)) c.in_err-make_leaf.ensures.unchanged

pub returns-clause-made : goal.returns-clause-made
returns-clause-made c =
    let s = c.args.store.now in
    let k = c.in_ok-along.along in
    let one = c.in_ok-along.ensures.counted in
    let a = array_of s c.args.a.now in
    let b = array_of s c.args.b.now in
    let p : array_of c.kept_axis.new.store c.args.a.now ≡ a = array_of-counted s _ c.args.a.now one.only in
    let q : array_of c.kept_axis.new.store c.args.b.now ≡ b = array_of-counted s _ c.args.b.now one.only in
    let shape : c.kept_shape-shape.result ≡ (kept_array k a b).shape = c.kept_shape-shape.ensures.shape ∙ ap (λ (x : Array). (kept_array k x (array_of c.kept_axis.new.store c.args.b.now)).shape) p ∙ ap (λ (y : Array). (kept_array k a y).shape) q in
    let two = OnlyFetched-then _ _ _ _ _ one c.kept_shape-shape.ensures.counted in
    let p2 : array_of c.kept_shape-shape.new.store c.args.a.now ≡ a = array_of-counted s _ c.args.a.now two.only in
    let q2 : array_of c.kept_shape-shape.new.store c.args.b.now ≡ b = array_of-counted s _ c.args.b.now two.only in
    let are : c.fill_kept.new.cells.items ≡ (kept_array k a b).cells = c.in_ok-fill_kept.ensures.cells ∙ ap (λ (x : Array). (kept_array k x (array_of c.kept_shape-shape.new.store c.args.b.now)).cells) p2 ∙ ap (λ (y : Array). (kept_array k a y).cells) q2 in
    leaf_ends s _ _ _ _ _ _ _ c.in_ok-along.ensures.array (same_array (c.kind.ensures ∙ sym (kind-kept k a b)) shape are) (OnlyFetched-more _ _ _ _ (omega arith) (OnlyFetched-then _ _ _ _ _ two c.in_ok-fill_kept.ensures.counted)) c.in_ok-make_leaf.ensures.made
